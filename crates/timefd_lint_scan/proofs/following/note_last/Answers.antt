use Rattle.std.proofs.Common.{◌∙◌, ap}
use Rattle.std.specs.HashMap.{get}
use Rattle.std.specs.Prelude.{nat_eq}
use Rattle.timefd_lint_scan.specs.Layouts.{fingerprint}
use Rattle.timefd_lint_scan.proofs.FollowingLemmas.{one_more_last}
use Rattle.timefd_lint_scan.proofs.following.note_last.Goals as goal

pub returns : goal.returns
returns c =
    one_more_last c.args.source.now c.args.uses.now c.args.index c.fingerprint.result _ (get nat_eq c.args.lasts.now)
    (get nat_eq c.insert.new.self) (c.fingerprint.ensures ∙ ap fingerprint c.text_of.ensures) c.in_ok-insert.ensures.updates.0
    c.requires.lasts
