use Rattle.std.proofs.Common.{◌≡◌, ◌++◌, take}
use Rattle.timefd_lang_node_list.specs.Item.Meaning.{item_trees}
use Rattle.timefd_items.specs.Builder.{built}
use Rattle.timefd_description.specs.Modern.{modern_list}
use Rattle.timefd_description.proofs.composite.add_items.Given as goal

-- the items so far, which are built
abbrev pub invariant-items : goal.invariant-items
invariant-items l =
    built l.builder ≡ built l.fn.builder ++ modern_list (item_trees (take l.item-index l.items))
