-- Texts and lines that are written from the front of a room.
use Rattle.std.proofs.Common.{ℕ, ◌≡◌, ◌∙◌, ◌≤◌, ◌++◌, List, [], ◌∷◌, Option, Some, None, Result, Ok, Err, length, take, map, refl, sym, ap, subst, arith, length-take}
use Rattle.timefd_lang_component.specs.Tree.{Text, trees}
use Rattle.timefd_date_format.specs.Appends.{IsAppended, TriesToAppend}
use Rattle.timefd_date_format.specs.declared.field.Unshown.{Unshown}
use Rattle.timefd_date_format.specs.Written.{written, written_all}
use Rattle.timefd_date_format.proofs.AppendLemmas.{both_appended}
use Rattle.timefd_date_moment.specs.declared.moment.Moment.{Moment}
use Rattle.timefd_lang_node_list.specs.declared.leaves.Leaf.{Leaf}
use Rattle.timefd_lang_node_list.specs.LeafMeaning.{leaf_tree}
use Rattle.timefd_parse.specs.declared.parsing.BorrowedOutput.{BorrowedOutput}
use Rattle.timefd_format.specs.ReadBack.{IsMadeOf}
use Rattle.timefd_format.specs.Written.{IsLineOf, written_of}
use Rattle.timefd_format.proofs.LineLemmas.{of_tree}

-- the leaves show what the description does
pub by_leaves : (m : Moment) (o : BorrowedOutput) (leaves : List Leaf) → IsMadeOf o leaves
    → written_all m (trees (map leaf_tree leaves)) ≡ written_of m o
by_leaves m o leaves made = sym (of_tree m o ∙ ap (written m) made)

inside : (text old new : Text) (end : ℕ) → IsAppended text old 0 new end → end ≤ length new
inside text old new end put = omega (arith, put.ends, ap length put.front, length-take end new)

shown : (x : Result Text Unshown) (old new : Text) (end : ℕ) → TriesToAppend x old 0 new (Some end)
    → (end ≤ length new) × (x ≡ Ok (take end new))
shown (Ok text) old new end put = (inside text old new end put, ap Ok (sym put.front))
shown (Err u) old new end put = absurd put

pub text_put : (m : Moment) (o : BorrowedOutput) (leaves : List Leaf) (old new : Text) (end : ℕ) → IsMadeOf o leaves
    → TriesToAppend (written_all m (trees (map leaf_tree leaves))) old 0 new (Some end)
    → written_of m o ≡ Ok (take end new)
text_put m o leaves old new end made put =
    sym (by_leaves m o leaves made) ∙ (shown (written_all m (trees (map leaf_tree leaves))) old new end put).1

pub text_within : (m : Moment) (leaves : List Leaf) (old new : Text) (end : ℕ)
    → TriesToAppend (written_all m (trees (map leaf_tree leaves))) old 0 new (Some end) → end ≤ length new
text_within m leaves old new end put = (shown (written_all m (trees (map leaf_tree leaves))) old new end put).0

-- with a newline after it
ends_line : (x : Result Text Unshown) (old mid new : Text) (middle end : ℕ)
    → TriesToAppend x old 0 mid (Some middle) → TriesToAppend (Ok (10 ∷ [])) mid middle new (Some end)
    → (end ≤ length new) × IsLineOf x (take end new)
ends_line (Ok text) old mid new middle end one two =
    let both : IsAppended (text ++ 10 ∷ []) old 0 new end =
    both_appended text (10 ∷ []) old mid new 0 middle end one two in
    (inside (text ++ 10 ∷ []) old new end both, both.front)
ends_line (Err u) old mid new middle end one two = absurd one

pub line_put : (m : Moment) (o : BorrowedOutput) (leaves : List Leaf) (old mid new : Text) (middle end : ℕ)
    → IsMadeOf o leaves → TriesToAppend (written_all m (trees (map leaf_tree leaves))) old 0 mid (Some middle)
    → TriesToAppend (Ok (10 ∷ [])) mid middle new (Some end) → IsLineOf (written_of m o) (take end new)
line_put m o leaves old mid new middle end made one two =
    subst (λ x. IsLineOf x (take end new)) (by_leaves m o leaves made)
    (ends_line (written_all m (trees (map leaf_tree leaves))) old mid new middle end one two).1

pub line_within : (m : Moment) (leaves : List Leaf) (old mid new : Text) (middle end : ℕ)
    → TriesToAppend (written_all m (trees (map leaf_tree leaves))) old 0 mid (Some middle)
    → TriesToAppend (Ok (10 ∷ [])) mid middle new (Some end) → end ≤ length new
line_within m leaves old mid new middle end one two =
    (ends_line (written_all m (trees (map leaf_tree leaves))) old mid new middle end one two).0
