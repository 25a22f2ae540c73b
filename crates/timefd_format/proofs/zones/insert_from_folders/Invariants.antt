use Rattle.std.proofs.Common.{◌≡◌}
use Rattle.timefd_format.proofs.zones.insert_from_folders.Given as goal

-- Nothing is added before a folder has the zone.
abbrev pub invariant-loop-folder : goal.invariant-loop-folder
invariant-loop-folder l = l.zones.zones.entries ≡ l.fn.zones.zones.entries
