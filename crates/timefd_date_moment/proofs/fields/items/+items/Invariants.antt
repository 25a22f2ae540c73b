use Rattle.std.proofs.Common.{◌≡◌, None, drop, map}
use Rattle.timefd_lang_component.specs.Tree.{trees}
use Rattle.timefd_lang_node_list.specs.Item.Meaning.{item_tree}
use Rattle.timefd_date_moment.specs.Fields.Reads as spec
use Rattle.timefd_date_moment.specs.Fields.Reads.{at}
use Rattle.timefd_date_moment.proofs.fields.items.+items.Given as goal

-- What is left decides.
abbrev pub invariant-read_all-items : goal.invariant-read_all-items
invariant-read_all-items l =
    spec.read_all (trees (map item_tree (drop l.item-index l.items))) (at l.left l.fields)
    ≡ spec.read_all (trees (map item_tree l.items)) (at l.fn.rest l.fn.fields)

-- Each alternative begins with the fields from before.
abbrev pub invariant-read_first-alternatives : goal.invariant-read_first-alternatives
invariant-read_first-alternatives l =
    (l.fields ≡ l.before)
    × (spec.read_first l.first_fault (trees (map item_tree (drop l.alternative-index l.alternatives)))
    (at l.rest l.before)
    ≡ spec.read_first None (trees (map item_tree l.alternatives)) (at l.fn.rest l.fn.fields))
