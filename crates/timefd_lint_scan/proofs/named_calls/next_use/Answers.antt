use Rattle.std.proofs.Common.{◌∙◌, false, get_or, sym}
use Rattle.std.proofs.lemmas.Slice.Eq.{bytes_eq-Decides}
use Rattle.std.specs.Prelude.{None}
use Rattle.timefd_lint_scan.specs.declared.dialect.FormatLanguage.TheVariants.{One}
use Rattle.timefd_lint_scan.specs.declared.known.Items.TheVariants.{Taken}
use Rattle.timefd_lint_scan.specs.declared.token.Token.TheVariants.{White}
use Rattle.timefd_lint_scan.specs.declared.uses.Use.{Use}
use Rattle.timefd_lint_scan.specs.declared.uses.Way.TheVariants.{Value}
use Rattle.timefd_lint_scan.specs.declared.version.VersionPosition.TheVariants.{Digit}
use Rattle.timefd_lint_scan.proofs.NamedCallLemmas.{others_unused, past_unused}
use Rattle.timefd_lint_scan.proofs.SeenLemmas.{never_again}
use Rattle.timefd_lint_scan.proofs.named_calls.next_use.Goals as goal

abbrev other : Use
other = record {
  name = record { token = White; start = 0; end = 0 };
  way = Value;
  known = record { dialect = One; items = Taken; version = Digit 0; wants_percent = false; call = None };
}

pub returns-then-is_past-clause-unused : goal.returns-then-is_past-clause-unused
returns-then-is_past-clause-unused c =
    past_unused c.args.source.now c.args.pieces.now c.args.declared c.args.index c.end_at.result c.max.result other
    c.args.uses.list.now c.args.uses.runs.now c.requires.below c.requires.found.runs c.end_at.ensures c.max.ensures
    (never_again c.args.source.now c.args.pieces.now c.args.declared (get_or c.args.uses.list.now c.args.index other)
    (sym (c.requires.used other) ∙ c.if-not-is_used.true) (sym c.is_past.ensures ∙ c.if-is_past.true))

pub returns-then-eq-clause-unused : goal.returns-then-eq-clause-unused
returns-then-eq-clause-unused c =
    others_unused c.args.source.now c.args.pieces.now c.args.declared c.args.index c.next_at.result _ c.args.uses.list.now
    (sym c.text_of.ensures
    ∙ ((bytes_eq-Decides c.text_of.result.now c.text_at.result.now).0 (sym c.eq.ensures ∙ c.if-eq.true) ∙ c.text_at.ensures))
    c.next_at.ensures.others
