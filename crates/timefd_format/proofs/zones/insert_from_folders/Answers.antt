use Rattle.std.proofs.Common.{subst, true}
use Rattle.timefd_format.specs.KnownZones.{Adds}
use Rattle.timefd_format.proofs.ZoneLemmas.{after_none}
use Rattle.timefd_format.proofs.zones.insert_from_folders.Goals as goal

pub returns-then-branch : goal.returns-then-branch
returns-then-branch c =
    after_none c.args.name.now c.args.zones.now c.loop-folder.zones c.insert_from.new.zones true
    c.loop-folder.invariant
    (subst (Adds c.args.name.now c.loop-folder.zones c.insert_from.new.zones) c.if-branch.true
    c.in_ok-insert_from.ensures)
