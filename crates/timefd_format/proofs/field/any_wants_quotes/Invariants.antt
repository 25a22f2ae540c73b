use Rattle.std.proofs.Common.{◌≡◌, length}
use Rattle.std.specs.List.{list_any}
use Rattle.timefd_format.specs.Frames.{wants_quotes}
use Rattle.timefd_format.proofs.field.any_wants_quotes.Given as goal

-- The result depends only on what is left.
abbrev pub invariant-bytes : goal.invariant-bytes
invariant-bytes l = list_any wants_quotes l.rest ≡ list_any wants_quotes l.fn.text

abbrev pub decreases-bytes : goal.decreases-bytes
decreases-bytes l = length l.rest
