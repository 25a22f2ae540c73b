use Rattle.std.proofs.Common.{subst}
use Rattle.timefd_format.specs.KnownZones.{Adds}
use Rattle.timefd_format.proofs.ZoneLemmas.{after_none}
use Rattle.timefd_format.proofs.zones.insert_with.Goals as goal

pub returns-then-branch : goal.returns-then-branch
returns-then-branch c =
    subst (Adds c.args.name.now c.args.zones.now c.insert_from.new.zones) c.if-branch.true
    c.in_ok-insert_from.ensures

pub returns : goal.returns
returns c =
    after_none c.args.name.now c.args.zones.now c.insert_from.new.zones c.insert_from_folders.new.zones
    c.in_ok-is_added.is_added
    (subst (Adds c.args.name.now c.args.zones.now c.insert_from.new.zones) c.if-branch.false
    c.in_ok-insert_from.ensures)
    c.in_ok-is_added.ensures
