-- A text that was written to a buffer of its own, and copied from there.
use Rattle.std.proofs.Common.{ℕ, ◌≡◌, ◌^◌, ◌<◌, ◌≤◌, ◌++◌, ◌∙◌, length, drop, Result, Ok, Err, sym, subst, arith}
use Rattle.timefd_lang_component.specs.Tree.{Text}
use Rattle.timefd_date_format.specs.declared.cursor.WriteCursor.TheVariants as cursor
use Rattle.timefd_date_format.specs.declared.field.Unshown.{Unshown}
use Rattle.timefd_date_format.specs.Writes.{Writes}
use Rattle.timefd_date_format.proofs.OutcomeLemmas.{ends_with, placed}
use Rattle.timefd_c_nodes.specs.Formatting.Texts.{IsShown, ShowsNodes}
use Rattle.timefd_c_nodes.specs.declared.formatting.format.NodesText.{NodesText}

-- the text was copied if there is room
pub whole_or_none : (text old new : Text) (n len : ℕ) → len ≡ length text → length text < 2 ^ 64
    → (length text ≤ length old → (new ≡ text ++ drop (length text) old) × (n ≡ length text))
    → (length old < length text → (new ≡ old) × (n ≡ 0))
    → IsShown text old new (record { len = len; written = n })
whole_or_none text old new n len size small whole short = record {
  len = omega (arith, size, small);
  whole = whole;
  too_short = short;
}

-- the end of the room is the text that was written there
pub copied : (x : Result Text Unshown) (room filled text old new : Text) (at : ℕ) (answer : NodesText)
    → Writes x room (cursor.At (length room)) filled (cursor.At at) → text ≡ drop at filled
    → IsShown text old new answer → ShowsNodes x old new (Ok answer)
copied (Ok shown) room filled text old new at answer w is copy =
    subst (λ y. IsShown y old new answer)
    (is ∙ ends_with shown room filled at (placed (Ok shown) room filled at w)) copy
copied (Err v) room filled text old new at answer w is copy = absurd cc

-- the same, if the text is known
pub front_copied : (x : Result Text Unshown) (text old new : Text) (answer : NodesText) → x ≡ Ok text
    → IsShown text old new answer → ShowsNodes x old new (Ok answer)
front_copied x text old new answer is copy = subst (λ y. ShowsNodes y old new (Ok answer)) (sym is) copy
