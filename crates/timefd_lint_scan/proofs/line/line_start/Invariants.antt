use Rattle.std.proofs.Common.{◌≡◌, ◌≤◌, ◌-◌, ◌+◌, take}
use Rattle.std.specs.List.{suffix_len}
use Rattle.timefd_lint_scan.specs.Bytes.{class_test}
use Rattle.timefd_lint_scan.specs.declared.class.ByteSet.TheVariants.{Line}
use Rattle.timefd_lint_scan.proofs.line.line_start.Given as goal

-- There is no line feed between `start` and `to`.
abbrev pub invariant-bytes : goal.invariant-bytes
invariant-bytes l = record {
  after : suffix_len (class_test Line) (take l.fn.to l.fn.source)
      ≡ l.fn.to - l.start + suffix_len (class_test Line) (take l.start l.fn.source);
  from : l.fn.from ≤ l.start;
  within : l.start ≤ l.fn.to;
}

abbrev pub decreases-bytes : goal.decreases-bytes
decreases-bytes l = l.start
