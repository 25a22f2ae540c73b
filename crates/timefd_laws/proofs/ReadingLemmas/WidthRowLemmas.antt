-- Numbers, names and periods are read back as the values of their fields.
use Rattle.std.proofs.Common.{ℕ, ◌≡◌, ◌∙◌, ◌≤◌, ◌<◌, ◌+◌, ◌-◌, ◌/◌, ◌^◌, ◌++◌, ◌==◌, inr, ◌||◌, Bool, true, false, nat_le}
use Rattle.std.proofs.Common.{length, Option, Some, Ok, refl, sym, ap, arith}
use Rattle.std.proofs.lemmas.Bool.{eq-eqb}
use Rattle.timefd_lang_component.specs.declared.component.Component.{Component}
use Rattle.timefd_lang_component.specs.Texts.{filled}
use Rattle.timefd_lang_component.specs.Tree.{Text}
use Rattle.timefd_date_format.specs.Fields.{sign_of, sign_text}
use Rattle.timefd_modifier.specs.declared.enums.Padding.{Padding}
use Rattle.timefd_date_moment.specs.declared.date.Date.{Date}
use Rattle.timefd_date_moment.specs.declared.time.Time.{Time}
use Rattle.timefd_date_moment.specs.declared.offset.UtcOffset.{UtcOffset}
use Rattle.timefd_date_moment.specs.Moments.{is_before_zero, magnitude}
use Rattle.timefd_date_moment.specs.declared.fields.fields.Signed.{Signed}
use Rattle.timefd_date_moment.specs.Fields.Fields.{amount as amount_of, count as count_of}
use Rattle.timefd_date_moment.specs.Fields.Inputs.{after_monday, amount, as_amount, as_count, as_name, as_period, as_weekday, number}
use Rattle.timefd_date_moment.specs.Fields.Laws.{HasNoDigit}
use Rattle.timefd_date_moment.specs.Fields.Readings.{amount_with, count_with, same, same_signed}
use Rattle.timefd_date_moment.specs.Fields.Reads.{Point, taken}
use Rattle.timefd_date_moment.specs.Fields.Rules as rules
use Rattle.timefd_lang_warnings.specs.Settling.Bounds.{number_bound}
use Rattle.timefd_laws.specs.Reading.Bounds.{IsBounded}
use Rattle.timefd_laws.specs.Reading.Laws.{at}
use Rattle.timefd_laws.specs.Reading.Shown.{Shows, fields_shown, with_sign, year_part}
use Rattle.timefd_laws.proofs.ReadingLemmas.NumberLemmas.{IsEnded, number_back}
use Rattle.timefd_laws.proofs.ReadingLemmas.PositionLemmas as position
use Rattle.timefd_laws.proofs.ReadingLemmas.PositionLemmas.{IsAt, WriteCursor}
use Rattle.timefd_laws.proofs.ReadingLemmas.RowLemmas.{after, equal, merged, no_plus, once_more, same_number, same_sign}
use Rattle.timefd_laws.proofs.ReadingLemmas.SignLemmas.{Has, sign_back}

-- a number after its sign
abbrev pub signed_text : Bool → Bool → Padding → ℕ → ℕ → Text
signed_text negative plus p w n = sign_text (sign_of negative plus) ++ filled p w n

-- A year, or its hundreds. A year of five or more digits has a sign.
abbrev pub year_text : Bool → Padding → ℕ → ℕ → ℕ → Text
year_text mandatory p w unit y =
    signed_text (is_before_zero y) (mandatory || nat_le 10000 (magnitude y)) p w (magnitude y / unit)

module _ (d : Date) (t : Time) (o : UtcOffset) (s : Shows) where
  -- the point after the field was read, before this text
  abbrev Now : {A : Type 0} → WriteCursor A → Text → Point
  Now position rest = at d t o (position.put_in s true) rest

  -- If the field was read before, the value is the same.
  again : {A : Type 0} (position : WriteCursor A) (is_same : A → A → Bool) (k : A) → k ≡ position.value d t o
      → ((a : A) → is_same a a ≡ true)
      → merged is_same (fields_shown d t o s) (position.set (fields_shown d t o s)) k (position.get (fields_shown d t o s))
      ≡ Some (fields_shown d t o (position.put_in s true))
  again {A = A} position is_same k e one =
      let f = fields_shown d t o s in
      let is = position.is_shown d t o s in
      ap (λ (x : Option A). merged is_same f (position.set f) k x) is.1
      ∙ once_more is_same f (fields_shown d t o (position.put_in s true)) (position.set f) (position.is_in s) k
      (position.value d t o) e (one (position.value d t o)) is.0
      (λ shown. ap (λ (x : Shows). fields_shown d t o x) (sym is.2)
      ∙ ap (λ (b : Bool). fields_shown d t o (position.put_in s b)) shown)

  -- Numbers without a sign. The type of a field's name is private, so its use decides it.

  count_row : (position : WriteCursor ℕ) (c : Component) (field : _) (text rest : Text) (x : Option (ℕ × ℕ)) (n : ℕ)
      → IsAt equal count_with count_of field position → n ≡ position.value d t o → x ≡ Some (n, length text)
      → taken c (at d t o s (text ++ rest)) (as_count field x) ≡ Ok (Now position rest)
  count_row position c field text rest x n is e found =
      let f = fields_shown d t o s in
      ap (λ y. taken c (at d t o s (text ++ rest)) (as_count field y)) found
      ∙ after c d t o s (position.put_in s true) text rest (count_with f field n (count_of f field))
      (is f n ∙ again position equal n e (λ a. eq-eqb a a refl))

  pub number_row : (position : WriteCursor ℕ) (c : Component) (field : _) (p : Padding) (width lowest highest n : ℕ)
      → IsAt equal count_with count_of field position → n ≡ position.value d t o → 1 ≤ width → width ≤ 23 → lowest ≤ n
      → n ≤ highest → highest < 10 ^ width → (rest : Text) → IsBounded (number_bound p) rest
      → taken c (at d t o s (filled p width n ++ rest)) (number field p width lowest highest (filled p width n ++ rest))
      ≡ Ok (Now position rest)
  number_row position c field p width lowest highest n is e some few low high small rest ends =
      count_row position c field (filled p width n) rest _ n is e
      (number_back p width lowest highest n rest some few low high small ends)

  -- most numbers have two digits
  pub two_digits : (position : WriteCursor ℕ) (c : Component) (field : _) (p : Padding) (lowest highest n : ℕ)
      → IsAt equal count_with count_of field position → n ≡ position.value d t o → lowest ≤ n → n ≤ highest
      → highest < 10 ^ 2 → (rest : Text) → IsBounded (number_bound p) rest
      → taken c (at d t o s (filled p 2 n ++ rest)) (number field p 2 lowest highest (filled p 2 n ++ rest))
      ≡ Ok (Now position rest)
  two_digits position c field p lowest highest n is e low high small =
      number_row position c field p 2 lowest highest n is e (omega arith) (omega arith) low high small

  pub name_row : (position : WriteCursor ℕ) (c : Component) (field : _) (first : ℕ) (text rest : Text) (x : Option (ℕ × ℕ)) (n : ℕ)
      → IsAt equal count_with count_of field position → first + n ≡ position.value d t o → x ≡ Some (n, length text)
      → taken c (at d t o s (text ++ rest)) (as_name field first x) ≡ Ok (Now position rest)
  name_row position c field first text rest x n is e found =
      let f = fields_shown d t o s in
      ap (λ y. taken c (at d t o s (text ++ rest)) (as_name field first y)) found
      ∙ after c d t o s (position.put_in s true) text rest (count_with f field (first + n) (count_of f field))
      (is f (first + n) ∙ again position equal (first + n) e (λ a. eq-eqb a a refl))

  pub weekday_row : (c : Component) (is_sunday_first : Bool) (first : ℕ) (text rest : Text) (x : Option (ℕ × ℕ)) (n : ℕ)
      → after_monday is_sunday_first (n - first) ≡ position.weekday.value d t o → x ≡ Some (n, length text)
      → taken c (at d t o s (text ++ rest)) (as_weekday is_sunday_first first x) ≡ Ok (Now position.weekday rest)
  weekday_row c b first text rest x n e found =
      ap (λ y. taken c (at d t o s (text ++ rest)) (as_weekday b first y)) found
      ∙ after c d t o s (position.weekday.put_in s true) text rest _
      (again position.weekday equal (after_monday b (n - first)) e (λ a. eq-eqb a a refl))

  pub period_row : (c : Component) (text rest : Text) (x : Option (ℕ × ℕ)) (n : ℕ)
      → (n == 1) ≡ position.is_afternoon.value d t o → x ≡ Some (n, length text)
      → taken c (at d t o s (text ++ rest)) (as_period x) ≡ Ok (Now position.is_afternoon rest)
  period_row c text rest x n e found =
      ap (λ y. taken c (at d t o s (text ++ rest)) (as_period y)) found
      ∙ after c d t o s (position.is_afternoon.put_in s true) text rest _
      (again position.is_afternoon same (n == 1) e same_sign)

  -- numbers with a sign

  pub signed_row : (position : WriteCursor Signed) (c : Component) (field : _) (p : Padding) (w m most greatest n : ℕ)
      (mandatory negative plus : Bool) → IsAt same_signed amount_with amount_of field position
      → with_sign negative n ≡ position.value d t o → Has w m most greatest n
      → (plus ≡ false → (mandatory ≡ false) × (n < 10 ^ m)) → (rest : Text) → IsEnded p w most rest
      → taken c (at d t o s (signed_text negative plus p w n ++ rest)) (amount field mandatory
      (record { padding = p; width = w; most = m; most_signed = most; greatest = greatest })
      (signed_text negative plus p w n ++ rest)) ≡ Ok (Now position rest)
  signed_row position c field p w m most greatest n mandatory negative plus is e has plain rest ends =
      let f = fields_shown d t o s in
      let text = signed_text negative plus p w n in
      ap (λ y. taken c (at d t o s (text ++ rest)) (as_amount field y))
      (sign_back p w m most greatest n mandatory negative plus rest has plain ends)
      ∙ after c d t o s (position.put_in s true) text rest
      (amount_with f field (with_sign negative n) (amount_of f field))
      (is f (with_sign negative n) ∙ again position same_signed (with_sign negative n) e same_number)

  -- A year, or its hundreds. In the extended range it may have more digits after a sign.
  pub year_row : (position : WriteCursor Signed) (c : Component) (field : _) (p : Padding) (w most greatest unit y : ℕ)
      (mandatory : Bool) → IsAt same_signed amount_with amount_of field position → year_part y unit ≡ position.value d t o
      → Has w w most greatest (magnitude y / unit) → (magnitude y < 10000 → magnitude y / unit < 10 ^ w)
      → (rest : Text) → IsEnded p w most rest
      → taken c (at d t o s (year_text mandatory p w unit y ++ rest)) (amount field mandatory
      (record { padding = p; width = w; most = w; most_signed = most; greatest = greatest })
      (year_text mandatory p w unit y ++ rest)) ≡ Ok (Now position rest)
  year_row position c field p w most greatest unit y mandatory is e has short =
      signed_row position c field p w w most greatest (magnitude y / unit) mandatory (is_before_zero y)
      (mandatory || nat_le 10000 (magnitude y)) is e has
      (λ none. ((no_plus mandatory (magnitude y) none).0, short ((no_plus mandatory (magnitude y) none).1)))

  -- a timestamp of at most `most` digits
  pub stamp_row : (position : WriteCursor Signed) (c : Component) (field : _) (most greatest n : ℕ) (mandatory negative : Bool)
      → IsAt same_signed amount_with amount_of field position → with_sign negative n ≡ position.value d t o
      → 1 ≤ most → most ≤ 23 → n ≤ greatest → greatest < 10 ^ most → (rest : Text) → HasNoDigit rest
      → taken c (at d t o s (signed_text negative mandatory Padding.None 1 n ++ rest)) (amount field mandatory
      (rules.stamp most greatest) (signed_text negative mandatory Padding.None 1 n ++ rest)) ≡ Ok (Now position rest)
  stamp_row position c field most greatest n mandatory negative is e some few high small rest ends =
      signed_row position c field Padding.None 1 most most greatest n mandatory negative mandatory is e (record {
        some = omega arith;
        low = some;
        most = omega arith;
        few = few;
        high = high;
        small = small;
      }) (λ none. (none, omega (arith, high, small))) rest (inr ends)
