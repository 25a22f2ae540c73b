-- Numbers with a sign, in the ranges of jiff.
use Rattle.std.proofs.Common.{ℕ, ◌≤◌, ◌<◌, Bool, true, false, arith}
use Rattle.jiff_core.specs.Timestamp.{IsOffsetSeconds, IsTimestampNanos}
use Rattle.jiff.proofs.SpanFacts.{signed_arith}
use Rattle.timefd_date_moment.specs.Signed.{signed}

pub offset_in : (b : Bool) (n : ℕ) → n ≤ 93599 → IsOffsetSeconds (signed b n)
offset_in true n h = (omega (arith, signed_arith, h), omega (arith, signed_arith, h))
offset_in false n h = (omega (arith, signed_arith, h), omega (arith, signed_arith, h))

pub instant_out : (b : Bool) (n : ℕ) → 377705023201000000000 < n → IsTimestampNanos (signed b n) → ⊥
instant_out true n h is = omega (arith, signed_arith, h, is)
instant_out false n h is = omega (arith, signed_arith, h, is)
