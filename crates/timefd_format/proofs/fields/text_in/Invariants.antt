use Rattle.std.proofs.Common.{◌≡◌, ◌++◌, length}
use Rattle.timefd_format.specs.Fields.{text_from, text_of}
use Rattle.timefd_format.proofs.fields.text_in.Given as goal

-- The text of what is left comes after.
abbrev pub invariant-bytes : goal.invariant-bytes
invariant-bytes l = l.bytes.items ++ text_from l.quoting l.rest ≡ text_of l.fn.field

abbrev pub decreases-bytes : goal.decreases-bytes
decreases-bytes l = length l.rest
