use Rattle.std.proofs.Common.{sym, subst}
use Rattle.timefd_lift.specs.Answers.{HasItemsOf}
use Rattle.timefd_web.proofs.later.from_one.Goals as goal

-- a text of version 1 is converted to one that version 2 spells
pub from_two-requires : goal.from_two-requires
from_two-requires c =
    let two = subst (HasItemsOf c.args.text.now) (sym c.deref.ensures) c.in-Ok.ensures.same_items
    c.requires.0 c.requires.1 in
    (two.0, two.1)
