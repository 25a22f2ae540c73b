use Rattle.std.proofs.Common.{◌∙◌, arith, false, sym}
use Rattle.std.specs.Prelude.{None, get_or}
use Rattle.timefd_lint_scan.specs.declared.dialect.FormatLanguage.TheVariants.{One}
use Rattle.timefd_lint_scan.specs.declared.known.Items.TheVariants.{Taken}
use Rattle.timefd_lint_scan.specs.declared.token.Token.TheVariants.{White}
use Rattle.timefd_lint_scan.specs.declared.uses.Use.{Use}
use Rattle.timefd_lint_scan.specs.declared.uses.Way.TheVariants.{Value}
use Rattle.timefd_lint_scan.specs.declared.version.VersionPosition.TheVariants.{Digit}
use Rattle.timefd_lint_scan.proofs.RunsLemmas.{run_unused}
use Rattle.timefd_lint_scan.proofs.SeenLemmas.{never_again}
use Rattle.timefd_lint_scan.proofs.uses.next_use.Goals as goal

abbrev other : Use
other = record {
  name = record { token = White; start = 0; end = 0 };
  way = Value;
  known = record { dialect = One; items = Taken; version = Digit 0; wants_percent = false; call = None };
}

pub returns-then-is_past-clause-unused : goal.returns-then-is_past-clause-unused
returns-then-is_past-clause-unused c =
    run_unused c.args.source.now c.args.pieces.now c.args.declared c.args.index c.end_at.result c.max.result other
    c.args.uses.list.now c.args.uses.runs.now c.requires.below c.requires.found.runs c.end_at.ensures c.max.ensures
    (never_again c.args.source.now c.args.pieces.now c.args.declared (get_or c.args.uses.list.now c.args.index other)
    (c.requires.unused c.args.index other (omega arith) c.requires.below) (sym c.is_past.ensures ∙ c.if-is_past.true))
    c.requires.unused
