use Rattle.std.proofs.Common.{map}
use Rattle.std.specs.Vec.Iter.{into_iter_items}
use Rattle.timefd_items.specs.Meaning.{inner_tree}
use Rattle.timefd_items.proofs.InnerLemmas.{Adding}
use Rattle.timefd_items.proofs.format_description_v3.inner.FormatDescriptionV3Inner.+flatten.Given as goal

-- the trees that the iterator has left are left to be added
abbrev pub invariant-flatten_all-items : goal.invariant-flatten_all-items
invariant-flatten_all-items l = Adding l.initial.list l.list
    (map inner_tree (into_iter_items l.item-iterator)) (map inner_tree l.fn.items.items)
