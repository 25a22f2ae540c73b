-- The longest front whose bytes pass: its length, and where it ends.
use Rattle.std.proofs.Common.{◌≡◌, ℕ, zero, suc, ◌+◌, ◌-◌, length-drop, take_all, ◌<◌, ◌≤◌, Bool, true, false, List, [], ◌∷◌, length, take, drop, cond, ap, ◌∙◌, IsUtf8, refl, sym, subst, inl, inr, arith, add-one, take-append-drop}
use Rattle.std.proofs.lemmas.Bool.{cases_lt, cases_Bool, and_from}
use Rattle.std.proofs.lemmas.Bool.Decides.{nat_tests}
use Rattle.std.proofs.lemmas.List.Sums.{prefix_len-le-length, prefix_len_passes, prefix_len_stops}
use Rattle.std.proofs.lemmas.Str.{IsUtf8-drop, IsCharBoundary-start, IsCharBoundary-end, IsCharBoundary-before_ascii, IsCharBoundary-after_ascii}
use Rattle.std.specs.List.{prefix_len}
use Rattle.std.specs.Str.{IsCharBoundary}
use Rattle.timefd_language.specs.declared.description_version.DescriptionVersion.TheVariants.{One, Three}
use Rattle.timefd_language.specs.declared.text.Class.{Class}
use Rattle.timefd_language.specs.declared.text.Class.TheVariants.{White, Word, Key, Run, RunWithBackslash, Plain}
use Rattle.timefd_lang_component.specs.Tree.{Text}
use Rattle.timefd_language.specs.Bytes.{is_white, is_special, is_word_byte, is_key_byte, is_run_byte, ZeroOrMore, StopsBefore}
use Rattle.timefd_language.specs.Strftime.{is_plain}
use Rattle.timefd_language.specs.Cut.{class_test, IsCut}

after_ascii_run : (p : ℕ → Bool) (bs : List ℕ) (n : ℕ) → prefix_len p bs ≡ n → IsUtf8 bs
    → ((c : ℕ) → p c ≡ true → c < 128) → IsCharBoundary bs n
after_ascii_run p bs zero e utf8 ascii = IsCharBoundary-start bs utf8
after_ascii_run p bs (suc k) e utf8 ascii =
    rw (← add-one) (IsCharBoundary-after_ascii bs k utf8 (omega (arith, prefix_len-le-length p bs))
    (ascii _ (prefix_len_passes p bs k 0 (omega arith))))

-- a run of ASCII bytes ends where a character does
ascii_run : (p : ℕ → Bool) (bs : List ℕ) → IsUtf8 bs → ((c : ℕ) → p c ≡ true → c < 128)
    → IsCharBoundary bs (prefix_len p bs)
ascii_run p bs = after_ascii_run p bs _ refl

-- so does a run that only an ASCII byte stops
wide_run : (p : ℕ → Bool) (bs : List ℕ) → ((c : ℕ) → p c ≡ false → c < 128)
    → IsCharBoundary bs (prefix_len p bs)
wide_run p bs ascii =
    elim (cases_lt (prefix_len p bs) (length bs)) [
      | inl within ↦ IsCharBoundary-before_ascii bs _ within
          (ascii _ (prefix_len_stops p bs 0 within))
      | inr past ↦ subst (IsCharBoundary bs) (omega (arith, prefix_len-le-length p bs))
          (IsCharBoundary-end bs)
    ]

pub boundary : (class : Class) (bs : List ℕ) → IsUtf8 bs
    → IsCharBoundary bs (prefix_len (class_test class) bs)
boundary White bs utf8 = ascii_run is_white bs utf8 (λ c e. grind (arith, nat_tests))
boundary Word bs utf8 = wide_run is_word_byte bs (λ c e. grind (arith, nat_tests))
boundary Key bs utf8 = wide_run is_key_byte bs (λ c e. grind (arith, nat_tests))
boundary Run bs utf8 = wide_run (is_run_byte Three) bs (λ c e. grind (arith, nat_tests))
boundary RunWithBackslash bs utf8 = wide_run (is_run_byte One) bs (λ c e. grind (arith, nat_tests))
boundary Plain bs utf8 = wide_run is_plain bs (λ c e. grind (arith, nat_tests))

front_passes : (p : ℕ → Bool) (bs : Text) → ZeroOrMore p (take (prefix_len p bs) bs)
front_passes p [] = refl
front_passes p (b ∷ bs) =
    elim (cases_Bool (p b)) [
      | inl pass ↦ let more : 1 + prefix_len p bs ≡ suc (prefix_len p bs) = omega arith in
          rw (pass, more) (and_from (p b) _ pass (front_passes p bs))
      | inr fail ↦ rw fail refl
    ]

rest_stops : (p : ℕ → Bool) (bs : Text) → StopsBefore p (drop (prefix_len p bs) bs)
rest_stops p [] = tt
rest_stops p (b ∷ bs) =
    elim (cases_Bool (p b)) [
      | inl pass ↦ let more : 1 + prefix_len p bs ≡ suc (prefix_len p bs) = omega arith in
          rw (pass, more) (rest_stops p bs)
      | inr fail ↦ rw fail fail
    ]

pub cut_at_prefix : (p : ℕ → Bool) (text front rest : Text) (n : ℕ) → n ≡ prefix_len p text
    → front ≡ take n text → rest ≡ drop n text → IsCut p text front rest
cut_at_prefix p text front rest n e f r =
    rw (f, r, e) (record {
      whole = sym (take-append-drop (prefix_len p text) text);
      passes =
          front_passes p text;
      stops = rest_stops p text;
    })

pub utf8_after : (class : Class) (text rest : Text) (n : ℕ)
    → n ≡ prefix_len (class_test class) text → IsUtf8 text → rest ≡ drop n text → IsUtf8 rest
utf8_after class text rest n e utf8 r =
    rw (r, e) (IsUtf8-drop text (prefix_len (class_test class) text) utf8
    (boundary class text utf8))

pub special_ascii : (b : ℕ) → is_special b ≡ true → b < 128
special_ascii b e = grind (arith, nat_tests)

-- the length of a front by another test that passes the same bytes
pub front_len : (p q : ℕ → Bool) (bytes : Text) (n : ℕ) → ((b : ℕ) → q b ≡ p b)
    → n ≡ prefix_len q bytes → (n ≡ prefix_len p bytes) × (n ≤ length bytes)
front_len p q bytes n same e =
    let len : n ≡ prefix_len p bytes = e ∙ ap (λ test. prefix_len test bytes) (λ i b. same b i) in
    (len, omega (arith, len, prefix_len-le-length p bytes))

-- If all bytes that pass one test pass another, the front by the first is within the front by the second.
pub longer_front : (q p : ℕ → Bool) (bytes : Text) (n : ℕ) → ((b : ℕ) → q b ≡ true → p b ≡ true)
    → n ≤ prefix_len q bytes → n ≤ prefix_len p bytes
longer_front q p [] n passes le = le
longer_front q p (b ∷ bytes) zero passes le = omega arith
longer_front q p (b ∷ bytes) (suc n) passes le = elim (cases_Bool (q b)) [
  | inl pass ↦
      let le' : suc n ≤ 1 + prefix_len q bytes = subst (λ t. suc n ≤ cond t
      (1 + prefix_len q bytes) 0) pass le in
      let more = longer_front q p bytes n passes (omega (arith, le')) in
      rw (passes b pass) (omega (arith, more))
  | inr fail ↦ absurd (omega (
    arith,
    subst (λ t. suc n ≤ cond t
        (1 + prefix_len q bytes) 0) fail le,
  ))
]

-- the front, from an index within it on
pub front_from : (p : ℕ → Bool) (bytes : Text) (n : ℕ) → n ≤ prefix_len p bytes
    → n + prefix_len p (drop n bytes) ≡ prefix_len p bytes
front_from p bytes zero le = omega arith
front_from p [] (suc n) le = absurd (omega (arith, le))
front_from p (b ∷ bytes) (suc n) le = elim (cases_Bool (p b)) [
  | inl pass ↦
      let le' : suc n ≤ 1 + prefix_len p bytes = subst (λ t. suc n ≤ cond t
      (1 + prefix_len p bytes) 0) pass le in
      rw pass (omega (arith, front_from p bytes n (omega (arith, le'))))
  | inr fail ↦ absurd (omega (
    arith,
    subst (λ t. suc n ≤ cond t
        (1 + prefix_len p bytes) 0) fail le,
  ))
]

-- the front from an index within it on, where the bytes are read as a part with a length
pub front_from_part : (p : ℕ → Bool) (bytes : Text) (n : ℕ) → n ≤ prefix_len p bytes
    → n + prefix_len p (take (length bytes - n) (drop n bytes)) ≡ prefix_len p bytes
front_from_part p bytes n le =
    let len : length (drop n bytes) ≡ length bytes - n = length-drop n bytes in
    ap (λ t. n + prefix_len p t)
    (take_all (length bytes - n) (drop n bytes) (omega (arith, len)))
    ∙ front_from p bytes n le
