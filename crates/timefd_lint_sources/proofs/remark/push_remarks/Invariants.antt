use Rattle.std.proofs.Common.{◌≡◌, ◌++◌, length}
use Rattle.timefd_lint_drawing.specs.Counted.{IsCounted}
use Rattle.timefd_lint_sources.specs.Remarks as spec
use Rattle.timefd_lint_sources.proofs.remark.push_remarks.Given as goal

-- The items so far, followed by those of the rest, are all items.
abbrev pub invariant-remarks : goal.invariant-remarks
invariant-remarks l = record {
  ends : l.ends.items ++ spec.ends_of l.rest ≡ l.fn.ends.items ++ spec.ends_of l.fn.remarks;
  message : l.message.items ++ spec.messages_of l.style l.source l.rest
      ≡ l.fn.message.items ++ spec.messages_of l.style l.source l.fn.remarks;
  counted : IsCounted 1 l.source.text.now l.from;
}

abbrev pub decreases-remarks : goal.decreases-remarks
decreases-remarks l = length l.rest
