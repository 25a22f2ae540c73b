-- Leaves that are found from the last one on.
use Rattle.std.proofs.Common.{◌≡◌, ◌∙◌, List, [], ◌∷◌, ◌++◌, map, reverse, sym, ap, append_assoc, append-nil}
use Rattle.std.proofs.lemmas.List.{reverse-append}
use Rattle.timefd_lang_component.specs.Tree.{Tree, trees}
use Rattle.timefd_date_moment.specs.declared.moment.Moment.{Moment}
use Rattle.timefd_date_format.specs.Written.{written, written_all}
use Rattle.timefd_date_format.proofs.LeafLemmas.{by_leaves}
use Rattle.timefd_lang_node_list.specs.declared.leaves.Leaf.{Leaf}
use Rattle.timefd_lang_node_list.specs.LeafMeaning.{leaf_tree}
use Rattle.timefd_lang_node_list.specs.Leaves.{leaves}

pub record IsFoundTo (whole left : List Tree) (found : List Leaf) : Type 0 where
  pub split : whole ≡ left ++ map leaf_tree (reverse found)

pub none_found : (whole : List Tree) → IsFoundTo whole whole []
none_found whole = record { split = sym (append-nil whole) }

one_more : (found : List Leaf) (l : Leaf) → map leaf_tree (reverse (found ++ l ∷ [])) ≡ leaf_tree l ∷ map leaf_tree (reverse found)
one_more found l = ap (map leaf_tree) (reverse-append found (l ∷ []))

pub one_found : (whole left rest : List Tree) (found : List Leaf) (l : Leaf) → IsFoundTo whole left found
    → left ≡ rest ++ leaf_tree l ∷ [] → IsFoundTo whole rest (found ++ l ∷ [])
one_found whole left rest found l w is = record {
  split = w.split ∙ ap (λ x. x ++ map leaf_tree (reverse found)) is
      ∙ append_assoc rest (leaf_tree l ∷ []) (map leaf_tree (reverse found))
      ∙ ap (λ x. rest ++ x) (sym (one_more found l));
}

pub all_found : (m : Moment) (tree : Tree) (left : List Tree) (found : List Leaf)
    → IsFoundTo (leaves tree) left found → left ≡ []
    → written_all m (trees (map leaf_tree (reverse found))) ≡ written m tree
all_found m tree left found w none =
    ap (λ ts. written_all m (trees ts)) (sym (w.split ∙ ap (λ x. x ++ map leaf_tree (reverse found)) none))
    ∙ by_leaves m tree
