use Rattle.std.proofs.Common.{ap, arith}
use Rattle.timefd_items.proofs.InnerLemmas.{member_count, member_left}
use Rattle.timefd_items.proofs.format_description_v3.content.Content.+flatten_borrowed.Goals as goal
use Rattle.timefd_lang_component.specs.Reserved.{tree_count}

pub flatten_all-flatten-requires : goal.flatten_all-flatten-requires
flatten_all-flatten-requires t c = (
  omega (
    arith,
    c.decreases,
    ap tree_count c.content.ensures,
    member_count c.args.items.now c.items.at c.index-items-at.result c.items-test.true
        c.index-items-at.is,
  ),
  omega (
    arith,
    c.requires,
    c.items.invariant.nodes,
    c.items.invariant.capacity,
    ap tree_count c.content.ensures,
    member_left c.args.items.now c.items.at c.index-items-at.result c.items-test.true
        c.index-items-at.is,
  ),
)
