use Rattle.std.proofs.Common.{ap, arith, rules}
use Rattle.timefd_items.proofs.InnerLemmas.{member_count}
use Rattle.timefd_items.proofs.format_description_v3.debug.+debug.Goals as goal
use Rattle.timefd_lang_component.specs.Reserved.{tree_count}

pub write_members-write_content-requires : goal.write_members-write_content-requires
write_members-write_content-requires g t c κs within = (
  omega (
    arith,
    ap tree_count c.content.ensures,
    member_count c.args.items.now c.items.at c.index-items-at.result c.items-test.true
        c.index-items-at.is,
  ),
  search rules,
)
