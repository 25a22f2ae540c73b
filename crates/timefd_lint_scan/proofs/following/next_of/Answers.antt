use Rattle.std.proofs.Common.{◌∙◌, ap, length, sym}
use Rattle.std.specs.HashMap.{get}
use Rattle.std.specs.Prelude.{nat_eq}
use Rattle.timefd_lint_scan.specs.Layouts.{fingerprint}
use Rattle.timefd_lint_scan.proofs.FollowingLemmas.{next_absent, next_found}
use Rattle.timefd_lint_scan.proofs.following.next_of.Goals as goal

pub returns-in-Some : goal.returns-in-Some
returns-in-Some c =
    next_found c.args.source.now c.args.uses.now c.args.index c.in-Some.next _ (get nat_eq c.args.firsts.now) c.requires.below
    c.requires.firsts
    (ap (λ t. get nat_eq c.args.firsts.now (fingerprint t)) (sym c.text_of.ensures) ∙ (sym c.first_of.ensures ∙ c.in-Some.is))

pub returns-in-None : goal.returns-in-None
returns-in-None c =
    next_absent c.args.source.now c.args.uses.now c.args.index (length c.args.uses.now) _ (get nat_eq c.args.firsts.now)
    c.requires.below c.requires.firsts
    (ap (λ t. get nat_eq c.args.firsts.now (fingerprint t)) (sym c.text_of.ensures) ∙ (sym c.first_of.ensures ∙ c.in-None.is))
