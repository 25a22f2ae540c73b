use Rattle.std.proofs.Common.{arith}
use Rattle.timefd_items.proofs.InnerLemmas.{member_count}
use Rattle.timefd_items.proofs.format_description_v3.inner.FormatDescriptionV3Inner.+clone.Goals as goal

pub clone_all-clone-requires : goal.clone_all-clone-requires
clone_all-clone-requires t c =
    omega (
      arith,
      c.decreases,
      member_count c.args.items.now c.items.at c.index-items-at.result c.items-test.true c.index-items-at.is,
    )
