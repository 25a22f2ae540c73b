use Rattle.std.proofs.Common.{◌≡◌, ◌+◌, drop}
use Rattle.std.specs.List.{prefix_len}
use Rattle.timefd_language.specs.Cut.{class_test}
use Rattle.timefd_language.proofs.text.run_len.Given as goal

abbrev pub invariant-loop-at : goal.invariant-loop-at
invariant-loop-at l = l.at + prefix_len (class_test l.class) (drop l.at l.bytes) ≡ prefix_len
    (class_test l.class) l.bytes
