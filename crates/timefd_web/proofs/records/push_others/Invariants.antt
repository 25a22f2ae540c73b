use Rattle.std.proofs.Common.{◌≡◌, ◌++◌, flat_map, drop}
use Rattle.timefd_web.specs.Records.{after_comma}
use Rattle.timefd_web.proofs.records.push_others.Given as goal

abbrev pub invariant-loop-one : goal.invariant-loop-one
invariant-loop-one g l =
    l.out.items ++ flat_map (after_comma g.T.Record.object_text) (drop l.one-index l.records)
    ≡ l.fn.out.items ++ flat_map (after_comma g.T.Record.object_text) l.records
