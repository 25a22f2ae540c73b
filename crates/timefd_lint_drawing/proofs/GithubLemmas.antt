-- A text that is escaped for GitHub ends at its last byte.
use Rattle.std.proofs.Common.{ℕ, ◌≡◌, Bool, false, ◌==◌, List, [], ◌∷◌, ◌++◌, flat_map, refl, inl, inr}
use Rattle.std.proofs.lemmas.Bool.{cases_Bool}
use Rattle.std.specs.Str.{NonePass}
use Rattle.timefd_lang_component.specs.Tree.{Text}
use Rattle.timefd_lint_drawing.specs.Github.{AnnotationStaysWhole, ends_message, ends_property, message_byte, property_byte}

joined : (p : ℕ → Bool) (xs ys : List ℕ) → NonePass p xs → NonePass p ys → NonePass p (xs ++ ys)
joined p [] ys a b = b
joined p (c ∷ xs) ys a b = (a.0, joined p xs ys a.1 b)

each : (p : ℕ → Bool) (f : ℕ → Text) → ((b : ℕ) → NonePass p (f b)) → (text : Text)
    → NonePass p (flat_map f text)
each p f one [] = tt
each p f one (b ∷ text) = joined p (f b) (flat_map f text) (one b) (each p f one text)

of_message : (b : ℕ) → NonePass ends_message (message_byte b)
of_message b = elim (cases_Bool (b == 37)) [
  | inl percent ↦ rw percent (refl, (refl, (refl, tt)))
  | inr other ↦ rw other (elim (cases_Bool (b == 13)) [
    | inl return ↦ rw return (refl, (refl, (refl, tt)))
    | inr isnt ↦ rw isnt (elim (cases_Bool (b == 10)) [
      | inl newline ↦ rw newline (refl, (refl, (refl, tt)))
      | inr plain ↦ rw plain (rw isnt plain, tt)
    ])
  ])
]

of_other : (b : ℕ) → (b == 58) ≡ false → (b == 44) ≡ false → NonePass ends_property (message_byte b)
of_other b colon comma = elim (cases_Bool (b == 37)) [
  | inl percent ↦ rw percent (refl, (refl, (refl, tt)))
  | inr other ↦ rw other (elim (cases_Bool (b == 13)) [
    | inl return ↦ rw return (refl, (refl, (refl, tt)))
    | inr isnt ↦ rw isnt (elim (cases_Bool (b == 10)) [
      | inl newline ↦ rw newline (refl, (refl, (refl, tt)))
      | inr plain ↦ rw plain (rw colon (rw comma (rw isnt plain)), tt)
    ])
  ])
]

of_property : (b : ℕ) → NonePass ends_property (property_byte b)
of_property b = elim (cases_Bool (b == 58)) [
  | inl colon ↦ rw colon (refl, (refl, (refl, tt)))
  | inr other ↦ rw other (elim (cases_Bool (b == 44)) [
    | inl comma ↦ rw comma (refl, (refl, (refl, tt)))
    | inr isnt ↦ rw isnt (of_other b other isnt)
  ])
]

pub annotation_stays_whole : AnnotationStaysWhole
annotation_stays_whole text =
    (each ends_message message_byte of_message text, each ends_property property_byte of_property text)
