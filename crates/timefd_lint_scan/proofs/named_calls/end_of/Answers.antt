use Rattle.std.proofs.Common.{◌∙◌, ◌+◌, ◌≡◌, ap, arith}
use Rattle.std.specs.HashMap.{get}
use Rattle.std.specs.Prelude.{nat_eq}
use Rattle.timefd_lint_scan.specs.Layouts.{fingerprint}
use Rattle.timefd_lint_scan.proofs.NamedCallLemmas.{none_later}
use Rattle.timefd_lint_scan.proofs.named_calls.end_of.Goals as goal

pub returns-in-Some-clause-unused : goal.returns-in-Some-clause-unused
returns-in-Some-clause-unused c =
    none_later c.args.source.now c.args.pieces.now c.args.uses.list.now c.args.declared (c.in-Some.last + 1) c.last_of.result
    (get nat_eq c.args.following.now.lasts) c.requires.lasts
    (c.last_of.ensures ∙ ap (λ t. get nat_eq c.args.following.now.lasts (fingerprint t)) c.text_at.ensures)
    (λ j is.
    let same : j ≡ c.in-Some.last = cc (is, c.in-Some.is) in
    omega (arith, same))

pub returns-in-None-clause-unused : goal.returns-in-None-clause-unused
returns-in-None-clause-unused c =
    none_later c.args.source.now c.args.pieces.now c.args.uses.list.now c.args.declared 0 c.last_of.result
    (get nat_eq c.args.following.now.lasts) c.requires.lasts
    (c.last_of.ensures ∙ ap (λ t. get nat_eq c.args.following.now.lasts (fingerprint t)) c.text_at.ensures)
    (λ j is. absurd (cc (is, c.in-None.is)))
