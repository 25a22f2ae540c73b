use Rattle.std.proofs.Common.{◌∙◌, ap, arith, sym}
use Rattle.std.proofs.lemmas.Bool.{not-true}
use Rattle.std.specs.HashSet.{contains}
use Rattle.std.specs.Prelude.{nat_eq}
use Rattle.timefd_lint_scan.specs.Layouts.{fingerprint}
use Rattle.timefd_lint_scan.proofs.LayoutLemmas.{one_item}
use Rattle.timefd_lint_scan.proofs.layout.has_one_item.Goals as goal

pub returns : goal.returns
returns c = λ sure.
    one_item c.args.source.now c.args.pieces.now c.args.declared (fingerprint c.text_at.result.now)
    (contains nat_eq c.args.layout.now.items) (omega (arith, c.if-declared-pieces.false)) (sym c.declares_at.ensures ∙ c.if-not-declares_at.false)
    (ap fingerprint c.text_at.ensures) (sym c.is_among.ensures ∙ not-true c.is_among.result sure) c.requires.items
