use Rattle.std.proofs.Common.{arith, ◌<◌, ℕ, slice_index, subst}
use Rattle.std.proofs.Math.Nat.{zero-add}
use Rattle.timefd_c_nodes.proofs.ReadingLemmas.AsciiLemmas.{all_ascii}
use Rattle.timefd_c_nodes.proofs.reading.text.is_ascii.Goals as goal

pub returns-then-are_ascii : goal.returns-then-are_ascii
returns-then-are_ascii c = λ is.
    all_ascii c.args.bytes.now 8 8 (omega (arith, c.if-len-lt16.true)) (omega (arith, c.if-len-lt8.false))
    (λ i below. subst (λ (k : ℕ). slice_index c.args.bytes.now k < 128) (zero-add i)
    (c.are_ascii.ensures c.if-are_ascii.true i below)) (c.are_ascii-then-are_ascii.ensures is)

pub returns-then-len-near-le16 : goal.returns-then-len-near-le16
returns-then-len-near-le16 c = λ is.
    all_ascii c.args.bytes.now c.front_of_ascii-near.result 16 (omega (arith, c.if-len-near-le16.true))
    (omega (arith, c.if-len-lt16.false)) c.front_of_ascii-near.ensures.front
    (c.are_ascii-then-len-near-le16.ensures is)
