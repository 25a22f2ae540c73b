-- From what was written to what is returned.
use Rattle.std.proofs.Common.{ℕ, ◌≡◌, ◌∙◌, ◌++◌, length, take, drop, Result, Ok, Err, IfOk, sym, ap, subst, arith, append-nil, length-take}
use Rattle.std.proofs.lemmas.List.{drop_all}
use Rattle.std.proofs.Math.Seq.{drop-append_seam}
use Rattle.std.specs.Str.{IsUtf8}
use Rattle.timefd_lang_component.specs.Tree.{Text}
use Rattle.timefd_date_format.specs.declared.cursor.WriteCursor.TheVariants as cursor
use Rattle.timefd_date_format.specs.declared.field.Unshown.{Unshown}
use Rattle.timefd_date_format.specs.declared.write.FormatError.TheVariants as fails
use Rattle.timefd_date_format.specs.Writes.{Writes}
use Rattle.timefd_date_format.specs.Outcomes.{IsOutcome}

pub placed : (x : Result Text Unshown) (old new : Text) (at : ℕ)
    → Writes x old (cursor.At (length old)) new (cursor.At at) → IsOutcome x old new (Ok at)
placed (Ok text) old new at h =
    (h.0, h.1 ∙ ap (λ y. take at old ++ (text ++ y)) (drop_all (length old) old (omega arith)) ∙ ap (λ y. take at old ++ y) (append-nil text))
placed (Err v) old new at h = absurd cc

pub no_room : (x : Result Text Unshown) (old new : Text)
    → Writes x old (cursor.At (length old)) new cursor.NoRoom → IsOutcome x old new (Err fails.Room)
no_room (Ok text) old new h = h
no_room (Err v) old new h = absurd cc

pub not_shown : (x : Result Text Unshown) (old new : Text) (u : Unshown)
    → Writes x old (cursor.At (length old)) new (cursor.Unshown u) → IsOutcome x old new (Err (fails.Unshown u))
not_shown (Ok text) old new u h = absurd h
not_shown (Err v) old new u h = cc

-- The text is the end of the buffer.
pub ends_with : (text old new : Text) (at : ℕ) → IsOutcome (Ok text) old new (Ok at) → drop at new ≡ text
ends_with text old new at h =
    let front : length (take at old) ≡ at = omega (arith, length-take at old, h.0) in
    ap (drop at) h.1 ∙ ap (λ n. drop n (take at old ++ text)) (sym front) ∙ drop-append_seam (take at old) text

pub ends_utf8 : (x : Result Text Unshown) (old new : Text) (at : ℕ) → IsOutcome x old new (Ok at)
    → IfOk x IsUtf8 → IsUtf8 (drop at new)
ends_utf8 (Ok text) old new at h is = subst IsUtf8 (sym (ends_with text old new at h)) is
ends_utf8 (Err u) old new at h is = absurd h
