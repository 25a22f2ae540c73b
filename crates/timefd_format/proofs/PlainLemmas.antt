-- Bytes without a quote, outside of quotes.
use Rattle.std.proofs.Common.{ℕ, zero, suc, ◌≡◌, ◌≢◌, ◌∙◌, ◌+◌, ◌-◌, ◌<◌, ◌≤◌, ◌++◌, Bool, true, false, cond, List, append-nil, [], ◌∷◌, All, Option, Some, None, length, take, drop, get_or, nat_eq, refl, sym, ap, subst, arith, eq-eqb, get_or-take, zero-le, length-take}
use Rattle.std.specs.Prelude.{⊤}
use Rattle.std.proofs.lemmas.List.{append_assoc, take_all, take_more, take-append-drop}
use Rattle.std.proofs.lemmas.List.Elements.{All-from_get_or, All-head, All-tail}
use Rattle.std.proofs.lemmas.Bool.Decides.{nat_tests}
use Rattle.memchr.specs.Find.{IsFirstByte, Passes, is_byte, is_byte2}
use Rattle.timefd_lang_component.specs.Tree.{Text}
use Rattle.timefd_format.specs.declared.quoting.FieldQuoting.{FieldQuoting}
use Rattle.timefd_format.specs.declared.quoting.FieldQuoting.TheVariants.{Start, Bare, Inside, Closed}
use Rattle.timefd_format.specs.Fields.{after, after_all, bare_after, ends_field, fields, fields_from, shown, text_from, text_of, with_front}
use Rattle.timefd_format.proofs.FieldLemmas.{last_of, next_of}

abbrev pub IsOutside : FieldQuoting → Type 0
IsOutside Start = ⊤
IsOutside Bare = ⊤
IsOutside Inside = ⊥
IsOutside Closed = ⊥

same_of : (x y : ℕ) → nat_eq x y ≡ true → x ≡ y
same_of x y e = grind (arith, nat_tests)

other_by : (x y : ℕ) (b : Bool) → nat_eq x y ≡ b → x ≢ y → nat_eq x y ≡ false
other_by x y true is differs = absurd (differs (same_of x y is))
other_by x y false is differs = is

other : (x y : ℕ) → x ≢ y → nat_eq x y ≡ false
other x y is = other_by x y (nat_eq x y) refl is

after_outside : (q : FieldQuoting) (b : ℕ) → IsOutside q → b ≢ 34 → after q b ≡ bare_after b
after_outside Start b out plain = rw (other b 34 plain) refl
after_outside Bare b out plain = refl
after_outside Inside b out plain = absurd out
after_outside Closed b out plain = absurd out

bare_by : (c : Bool) → IsOutside (cond c Start Bare)
bare_by true = tt
bare_by false = tt

pub stays : (q : FieldQuoting) (b : ℕ) → IsOutside q → b ≢ 34 → IsOutside (after q b)
stays q b out plain = subst IsOutside (sym (after_outside q b out plain)) (bare_by (nat_eq b 44))

shown_outside : (q : FieldQuoting) (b : ℕ) → IsOutside q → b ≢ 34 → shown q b ≡ b ∷ []
shown_outside Start b out plain = rw (other b 34 plain) refl
shown_outside Bare b out plain = refl
shown_outside Inside b out plain = absurd out
shown_outside Closed b out plain = absurd out

text_from_plain : (q : FieldQuoting) (bs : Text) → IsOutside q → All (λ b. b ≢ 34) bs → text_from q bs ≡ bs
text_from_plain q [] out plain = refl
text_from_plain q (b ∷ bs) out plain =
    let first = All-head (λ x. x ≢ 34) b bs plain in
    ap (λ s. s ++ text_from (after q b) bs) (shown_outside q b out first)
    ∙ ap (λ t. b ∷ t) (text_from_plain (after q b) bs (stays q b out first) (All-tail (λ x. x ≢ 34) b bs plain))

-- a field without a quote is its own text
pub text_plain : (field : Text) → All (λ b. b ≢ 34) field → text_of field ≡ field
text_plain field plain = text_from_plain Start field tt plain

-- The state after bytes without a quote is that after the last of them.
after_last : (q : FieldQuoting) (front : Text) (b : ℕ) → IsOutside q → All (λ x. x ≢ 34) (front ++ b ∷ [])
    → after_all q (front ++ b ∷ []) ≡ bare_after b
after_last q [] b out plain = after_outside q b out (All-head (λ x. x ≢ 34) b [] plain)
after_last q (x ∷ xs) b out plain =
    let first = All-head (λ y. y ≢ 34) x (xs ++ b ∷ []) plain in
    after_last (after q x) xs b (stays q x out first) (All-tail (λ y. y ≢ 34) x (xs ++ b ∷ []) plain)

-- What a search for quotes, or for commas and quotes, says.

pub without_quote : (text : Text) → IsFirstByte (is_byte 34) text None → All (λ b. b ≢ 34) text
without_quote text none =
    All-from_get_or (λ b. b ≢ 34) text 0 (λ i small is. none i zero-le small (eq-eqb (get_or text i 0) 34 is))

-- neither a comma nor a quote
abbrev pub IsPlain : ℕ → Type 0
IsPlain b = (b ≢ 44) × (b ≢ 34)

pub plain_from : (text front : Text) → ((i : ℕ) → i < length front → get_or front i 0 ≡ get_or text i 0)
    → ((i : ℕ) → i < length front → ¬ Passes (is_byte2 44 34) text i) → All IsPlain front
plain_from text front same none =
    All-from_get_or IsPlain front 0 (λ i small. (
      λ is. none i small (comma_passes (get_or text i 0) (sym (same i small) ∙ is)),
      λ is. none i small (quote_passes (get_or text i 0) (sym (same i small) ∙ is)),
    ))
  where
    comma_passes : (b : ℕ) → b ≡ 44 → is_byte2 44 34 b ≡ true
    comma_passes b is = subst (λ x. is_byte2 44 34 x ≡ true) (sym is) refl

    quote_passes : (b : ℕ) → b ≡ 34 → is_byte2 44 34 b ≡ true
    quote_passes b is = subst (λ x. is_byte2 44 34 x ≡ true) (sym is) refl

pub comma_within : (row : Text) (at : ℕ) → IsFirstByte (is_byte2 44 34) row (Some at) → at < length row
comma_within row at found = found.0.high

-- The first field up to its comma.

ends_outside : (q : FieldQuoting) → IsOutside q → ends_field q 44 ≡ true
ends_outside Start out = refl
ends_outside Bare out = refl
ends_outside Inside out = absurd out
ends_outside Closed out = absurd out

goes_outside : (q : FieldQuoting) (b : ℕ) → IsOutside q → b ≢ 44 → ends_field q b ≡ false
goes_outside Start b out plain = other b 44 plain
goes_outside Bare b out plain = other b 44 plain
goes_outside Inside b out plain = absurd out
goes_outside Closed b out plain = absurd out

up_to_comma : (q : FieldQuoting) (front more : Text) → IsOutside q → All IsPlain front
    → fields_from q (front ++ 44 ∷ more) ≡ front ∷ fields more
up_to_comma q [] more out plain = last_of q 44 more (ends_outside q out)
up_to_comma q (b ∷ bs) more out plain =
    let first = All-head IsPlain b bs plain in
    next_of q b (bs ++ 44 ∷ more) (goes_outside q b out first.0)
    ∙ ap (with_front (b ∷ []))
    (up_to_comma (after q b) bs more (stays q b out first.1) (All-tail IsPlain b bs plain))

up_to_end : (q : FieldQuoting) (row : Text) → IsOutside q → All IsPlain row → fields_from q row ≡ row ∷ []
up_to_end q [] out plain = refl
up_to_end q (b ∷ bs) out plain =
    let first = All-head IsPlain b bs plain in
    next_of q b bs (goes_outside q b out first.0)
    ∙ ap (with_front (b ∷ [])) (up_to_end (after q b) bs (stays q b out first.1) (All-tail IsPlain b bs plain))

pub whole_row : (row : Text) → IsFirstByte (is_byte2 44 34) row None
    → (fields row ≡ row ∷ []) × (row ≡ row ++ [])
whole_row row none = (
  up_to_end Start row tt (plain_from row row (λ i small. refl) (λ i small. none i zero-le small)),
  sym (append-nil row),
)

pub first_field : (row field more : Text) (at : ℕ) → IsFirstByte (is_byte2 44 34) row (Some at)
    → get_or row at 0 ≡ 44 → field ≡ take at row → more ≡ drop (at + 1) row
    → (fields row ≡ field ∷ fields more) × (row ≡ field ++ (44 ∷ more))
first_field row field more at found comma is_field is_more =
    let front : All IsPlain (take at row) =
    plain_from row (take at row)
    (λ i small. get_or-take at row i 0 (omega (arith, small, length-take at row)))
    (λ i small. found.0.before i zero-le (omega (arith, small, length-take at row))) in
    let split : row ≡ take at row ++ 44 ∷ drop (at + 1) row =
    sym (take-append-drop (at + 1) row)
    ∙ ap (λ f. f ++ drop (at + 1) row) (take_more row at 0 found.0.high ∙ ap (λ b. take at row ++ b ∷ []) comma)
    ∙ append_assoc (take at row) (44 ∷ []) (drop (at + 1) row) in
    let first : fields row ≡ take at row ∷ fields (drop (at + 1) row) =
    ap fields split ∙ up_to_comma Start (take at row) (drop (at + 1) row) tt front in (
      rw (is_field, is_more) first,
      rw (is_field, is_more) split,
    )

pub text_copied : (field old new : Text) → old ≡ [] → new ≡ old ++ field → All (λ b. b ≢ 34) field
    → new ≡ text_of field
text_copied field old new none is plain =
    is ∙ ap (λ o. o ++ field) none ∙ sym (text_plain field plain)

last_is : (bytes : Text) → 1 ≤ length bytes
    → bytes ≡ take (length bytes - 1) bytes ++ get_or bytes (length bytes - 1) 0 ∷ []
last_is bytes some =
    sym (take_all (length bytes - 1 + 1) bytes (omega (arith, some)))
    ∙ take_more bytes (length bytes - 1) 0 (omega (arith, some))

after_outer : (q : FieldQuoting) (bytes : Text) (last : ℕ) (r : FieldQuoting) → IsOutside q → 1 ≤ length bytes
    → All (λ b. b ≢ 34) bytes → last ≡ get_or bytes (length bytes - 1) 0 → r ≡ bare_after last
    → r ≡ after_all q bytes
after_outer q bytes last r out some plain is_last is =
    let split : bytes ≡ take (length bytes - 1) bytes ++ last ∷ [] =
    last_is bytes some ∙ ap (λ b. take (length bytes - 1) bytes ++ b ∷ []) (sym is_last) in
    is ∙ sym (after_last q (take (length bytes - 1) bytes) last out (subst (All (λ b. b ≢ 34)) split plain))
    ∙ sym (ap (after_all q) split)

pub after_start : (q : FieldQuoting) (bytes : Text) (last : ℕ) (r : FieldQuoting) → q ≡ Start → 1 ≤ length bytes
    → All (λ b. b ≢ 34) bytes → last ≡ get_or bytes (length bytes - 1) 0 → r ≡ bare_after last
    → r ≡ after_all q bytes
after_start q bytes last r begins some plain is_last is =
    after_outer q bytes last r (subst IsOutside (sym begins) tt) some plain is_last is

pub after_bare : (q : FieldQuoting) (bytes : Text) (last : ℕ) (r : FieldQuoting) → q ≡ Bare → 1 ≤ length bytes
    → All (λ b. b ≢ 34) bytes → last ≡ get_or bytes (length bytes - 1) 0 → r ≡ bare_after last
    → r ≡ after_all q bytes
after_bare q bytes last r bare some plain is_last is =
    after_outer q bytes last r (subst IsOutside (sym bare) tt) some plain is_last is
