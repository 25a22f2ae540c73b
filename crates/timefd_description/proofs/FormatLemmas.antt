-- An answer for what was read is an answer for what the text spells.
use Rattle.std.proofs.Common.{ℕ, ◌≡◌, ◌∙◌, [], ◌∷◌, ◌++◌, List, Result, Ok, Err, drop, length, map, refl, sym, take, ap, subst}
use Rattle.std.proofs.Math.Seq.{take-append_seam}
use Rattle.std.proofs.lemmas.List.{append-nil}
use Rattle.std.specs.declared.alloc.Global.{Global}
use Rattle.std.specs.declared.vec.Vec.{Vec}
use Rattle.timefd_parse.specs.Tree.{Text, Tree, trees, pack}
use Rattle.timefd_date_format.specs.declared.field.Unshown.{Unshown}
use Rattle.timefd_date_format.specs.Written.{written, written_all, followed}
use Rattle.timefd_lang_node_list.specs.declared.item.borrowed_format_item.BorrowedFormatItem.{BorrowedFormatItem}
use Rattle.timefd_lang_node_list.specs.Item.Meaning.{item_tree, item_trees}
use Rattle.timefd_date_format.specs.Fronts.{IsFront}
use Rattle.timefd_date_format.specs.declared.write.FormatError.TheVariants as writes
use Rattle.timefd_description.specs.declared.format_error.FormatTextError.{FormatTextError}
use Rattle.timefd_description.specs.declared.format_error.FormatTextError.TheVariants as fails
use Rattle.timefd_description.specs.Formatted.{IsShownAs, IsMemory}
use Rattle.timefd_items.specs.Description.{description_tree}
use Rattle.timefd_items.specs.declared.format_description_v3.FormatDescriptionV3.{FormatDescriptionV3}
use Rattle.timefd_language.specs.declared.description_version.DescriptionVersion.{DescriptionVersion}
use Rattle.timefd_language.specs.declared.description_version.DescriptionVersion.TheVariants.{One, Two, Three}
use Rattle.timefd_date_moment.specs.declared.moment.Moment.{Moment}
use Rattle.timefd_parse.specs.declared.parsing.BorrowedOutput.TheVariants.{Items, Description}
use Rattle.timefd_parse.specs.Answers.{IsOutput}

-- the one tree of a list writes what the list writes

alone : (r : Result Text Unshown) → followed r (Ok []) ≡ r
alone (Ok a) = ap (λ x. Ok x) (append-nil a)
alone (Err u) = refl

packed : (m : Moment) (list : List Tree) → written m (pack list) ≡ written_all m (trees list)
packed m [] = refl
packed m (t ∷ []) = sym (alone (written m t))
packed m (t ∷ u ∷ ts) = refl

module _ (m : Moment) (list : List Tree) (r : Result (Vec ℕ Global) FormatTextError) where
  of_items : (items : List BorrowedFormatItem) → item_trees items ≡ list
      → IsShownAs (written_all m (trees (item_trees items))) r
      → IsShownAs (written_all m (trees list)) r
  of_items items is shown = subst (λ l. IsShownAs (written_all m (trees l)) r) is shown

  pub items_shown : (v : DescriptionVersion) (vec : Vec BorrowedFormatItem Global)
      (borrowed : List BorrowedFormatItem) → borrowed ≡ vec.items → IsOutput v list (Items vec)
      → IsShownAs (written_all m (trees (item_trees borrowed))) r
      → IsShownAs (written_all m (trees list)) r
  items_shown One vec borrowed e is shown = of_items borrowed (ap (λ xs. map item_tree xs) e ∙ is) shown
  items_shown Two vec borrowed e is shown = of_items borrowed (ap (λ xs. map item_tree xs) e ∙ is) shown
  items_shown Three vec borrowed e is shown = absurd is

  pub strftime_shown : (items borrowed : List BorrowedFormatItem) → borrowed ≡ items
      → item_trees items ≡ list → IsShownAs (written_all m (trees (item_trees borrowed))) r
      → IsShownAs (written_all m (trees list)) r
  strftime_shown items borrowed e is shown =
      of_items borrowed (ap (λ xs. map item_tree xs) e ∙ is) shown

  pub description_shown : (v : DescriptionVersion) (d : FormatDescriptionV3)
      → IsOutput v list (Description d) → IsShownAs (written m (description_tree d)) r
      → IsShownAs (written_all m (trees list)) r
  description_shown One d is shown = absurd is
  description_shown Two d is shown = absurd is
  description_shown Three d is shown =
      subst (λ x. IsShownAs x r) (packed m list) (subst (λ t. IsShownAs (written m t) r) is shown)

-- if memory ran out, whatever was to be written
pub nothing_shown : (w : Result Text Unshown) (e : FormatTextError) → IsMemory e
    → IsShownAs w (Err e)
nothing_shown (Ok text) (fails.Fault f) wrong = absurd wrong
nothing_shown (Ok text) (fails.Unshown u) wrong = absurd wrong
nothing_shown (Ok text) (fails.Memory e) right = tt
nothing_shown (Err v) (fails.Fault f) wrong = absurd wrong
nothing_shown (Err v) (fails.Unshown u) wrong = absurd wrong
nothing_shown (Err v) (fails.Memory e) right = tt

-- What was put over the front of a buffer is the text.
pub front_shown : (w : Result Text Unshown) (old new : Text) (len : ℕ) (v : Vec ℕ Global) → IsFront w old new (Ok len)
    → v.items ≡ take len new → IsShownAs w (Ok v)
front_shown (Ok text) old new len v front is =
    is ∙ ap (take len) front.1 ∙ ap (λ n. take n (text ++ drop (length text) old)) front.0
    ∙ take-append_seam text (drop (length text) old)
front_shown (Err u) old new len v front is = absurd front

pub unshown_front : (w : Result Text Unshown) (old new : Text) (u : Unshown) → IsFront w old new (Err (writes.Unshown u))
    → IsShownAs w (Err (fails.Unshown u))
unshown_front (Ok text) old new u front = absurd front
unshown_front (Err v) old new u front = front.0
