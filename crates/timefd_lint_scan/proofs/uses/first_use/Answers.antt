use Rattle.std.proofs.Common.{◌∙◌, ap, sym}
use Rattle.std.specs.HashMap.{get}
use Rattle.std.specs.Prelude.{nat_eq}
use Rattle.timefd_lint_scan.specs.Layouts.{fingerprint}
use Rattle.timefd_lint_scan.proofs.FirstsLemmas.{absent}
use Rattle.timefd_lint_scan.proofs.RunsLemmas.{first_found}
use Rattle.timefd_lint_scan.proofs.uses.first_use.Goals as goal

pub returns-in_default-clause-none : goal.returns-in_default-clause-none
returns-in_default-clause-none c = λ is.
    absent c.args.source.now c.args.pieces.now c.args.declared c.args.uses.list.now (get nat_eq c.args.uses.firsts.now)
    (ap (λ t. get nat_eq c.args.uses.firsts.now (fingerprint t)) (sym c.text_at.ensures)
    ∙ (sym c.first_of.ensures ∙ c.in_default.is)) c.requires.firsts

pub returns-then-is_use_of-clause-first : goal.returns-then-is_use_of-clause-first
returns-then-is_use_of-clause-first c =
    first_found c.args.source.now c.args.pieces.now c.args.declared c.uses.index _ c.args.uses.list.now c.uses-test.true
    (sym c.is_use_of.ensures ∙ c.if-is_use_of.true) c.uses.invariant
