use Rattle.std.proofs.Common.{◌≡◌, length}
use Rattle.timefd_format.specs.Fields.{after_all}
use Rattle.timefd_format.proofs.quoting.FieldQuoting.after_each.Given as goal

-- The result depends only on what is left.
abbrev pub invariant-bytes : goal.invariant-bytes
invariant-bytes l = after_all l.quoting l.rest ≡ after_all l.fn.self l.fn.bytes

abbrev pub decreases-bytes : goal.decreases-bytes
decreases-bytes l = length l.rest
