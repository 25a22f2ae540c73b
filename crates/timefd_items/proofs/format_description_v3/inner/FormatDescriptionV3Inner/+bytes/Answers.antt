use Rattle.std.proofs.Common.{arith}
use Rattle.timefd_items.proofs.InnerLemmas.{member_count}
use Rattle.timefd_items.proofs.format_description_v3.inner.FormatDescriptionV3Inner.+bytes.Goals as goal

pub sum_within-bytes_within-requires : goal.sum_within-bytes_within-requires
sum_within-bytes_within-requires t c =
    omega (
      arith,
      c.decreases,
      member_count c.args.items.now c.items.at c.index-items-at.result c.items-test.true c.index-items-at.is,
    )
