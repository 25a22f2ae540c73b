use Rattle.std.proofs.Common.{◌≡◌, List, subst, sym}
use Rattle.std.specs.Prelude.{IfSome}
use Rattle.timefd_parse.specs.Grammar.{nesting_limit}
use Rattle.timefd_parse.specs.Language.{SpellsIn}
use Rattle.timefd_parse.specs.Tree.{Tree}
use Rattle.timefd_lint_warnings.specs.Found.{IsFoundIn, found_in}
use Rattle.timefd_lint_warnings.proofs.found.found_at_once.Goals as goal

pub returns-in-Version : goal.returns-in-Version
returns-in-Version c = record {
  accepted = subst (λ l. IfSome c.found_in_version.result (IsFoundIn l c.args.levels c.args.text.now))
      (sym c.in-Version.is) c.found_in_version.ensures.accepted;
  spelled = subst (λ l. (list : List Tree) → SpellsIn l nesting_limit c.args.text.now list
      → IfSome c.found_in_version.result (λ reported. reported ≡ found_in l c.args.levels list))
      (sym c.in-Version.is) c.found_in_version.ensures.spelled;
}

pub returns-in-Strftime : goal.returns-in-Strftime
returns-in-Strftime c = record {
  accepted = subst (λ l. IfSome c.found_in_strftime.result (IsFoundIn l c.args.levels c.args.text.now))
      (sym c.in-Strftime.is) c.found_in_strftime.ensures.accepted;
  spelled = subst (λ l. (list : List Tree) → SpellsIn l nesting_limit c.args.text.now list
      → IfSome c.found_in_strftime.result (λ reported. reported ≡ found_in l c.args.levels list))
      (sym c.in-Strftime.is) c.found_in_strftime.ensures.spelled;
}
