use Rattle.std.proofs.Common.{length}
use Rattle.timefd_format.proofs.FieldLemmas.{IsInField}
use Rattle.timefd_format.proofs.fields.split_by_bytes.Given as goal

-- The bytes that were taken are the front of the field.
abbrev pub invariant-bytes : goal.invariant-bytes
invariant-bytes l = IsInField l.fn.row l.rest l.quoting

abbrev pub decreases-bytes : goal.decreases-bytes
decreases-bytes l = length l.rest
