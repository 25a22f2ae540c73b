use Rattle.std.proofs.Common.{◌≡◌, drop}
use Rattle.timefd_language.specs.Bytes.{equal}
use Rattle.timefd_language.proofs.same.equal.Given as goal

abbrev pub invariant-loop-at : goal.invariant-loop-at
invariant-loop-at l = equal l.word l.bytes ≡ equal (drop l.at l.word) (drop l.at l.bytes)
