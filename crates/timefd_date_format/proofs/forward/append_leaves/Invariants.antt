use Rattle.timefd_lang_node_list.specs.LeafMeaning.{leaf_tree}
use Rattle.timefd_date_format.proofs.ForwardLemmas.{IsSoFar}
use Rattle.timefd_date_format.proofs.forward.append_leaves.Given as goal

-- The leaves that are left follow what is appended.
abbrev pub invariant-leaves : goal.invariant-leaves
invariant-leaves l = IsSoFar leaf_tree l.moment l.leaves l.leaf-index l.fn.room l.fn.from l.room l.at
