-- The text really begins with what reading finds at its start.
use Rattle.std.proofs.Common.{ℕ, zero, suc, ◌≡◌, ◌<◌, ◌≤◌, ◌==◌, ◌||◌, ◌&&◌, ◌⊎◌, inl, inr, not, Bool, true, false, [], ◌∷◌, ◌++◌, length, length-append, refl, sym, ◌∙◌, ap, subst, arith, IsFalse, eqb-true, ltb-true, ltb-false, nat_lt}
use Rattle.std.proofs.lemmas.Bool.{or_parts, or_cases, both_ways, not-false, and_from}
use Rattle.timefd_language.specs.declared.description_version.DescriptionVersion.{DescriptionVersion}
use Rattle.timefd_language.specs.declared.description_version.DescriptionVersion.TheVariants.{One, Two, Three}
use Rattle.timefd_lang_component.specs.Tree.{Text}
use Rattle.timefd_language.specs.Bytes.{left, right, backslash, is_white, is_special, is_word_byte, is_run_byte, is_version_one, is_version_three, ZeroOrMore, OneOrMore, StopsBefore}
use Rattle.timefd_language.specs.Head.{IsHead}
use Rattle.timefd_language.specs.Grammar.{IsEscape}
use Rattle.timefd_language.specs.Broken.{half_escape, IsBroken, BeginsNoEscape}
use Rattle.timefd_language.proofs.Reader.{cut, span, ModifiersRead, all_fit, one_misfits, read_modifiers, Start, at_end, at_run, at_closing, at_escape, at_head, at_outer_closing, at_broken, head_continued, named, head_start, left_start_one, left_start, backslash_start, right_start, run_start, start_of, NestedStart, no_more, at_limit, at_inner, nested_at, nested_start_of}
use Rattle.timefd_language.proofs.Spans.{IsSpan, span-is_span}
use Rattle.timefd_language.proofs.Before.{head_before, broken_before}
use Rattle.timefd_language.proofs.HeadFound.{NoWord, ModifiersAre, modifiers_are}

abbrev pub StartIs : DescriptionVersion → ℕ → ℕ → Text → Start → Type 0
StartIs v limit n text at_end = text ≡ []
StartIs v limit n text (at_run bytes rest) = OneOrMore (is_run_byte v) bytes
    × StopsBefore (is_run_byte v) rest × (text ≡ bytes ++ rest)
StartIs v limit n text (at_closing rest) = (0 < n) × (text ≡ right ∷ rest)
StartIs v limit n text (at_escape a b rest) = IsEscape v a b × (text ≡ a ∷ b ∷ rest)
StartIs v limit n text (at_head h rest) = IsHead h × NoWord rest × (text ≡ head_before h rest)
StartIs v limit n text (at_outer_closing rest) = IsFalse (is_version_three v) × (n ≡ 0)
    × (text ≡ right ∷ rest)
StartIs v limit n text (at_broken b) = IsBroken v limit n b × (text ≡ broken_before b)

-- After a `[` that isn't an escape.

head_continued_is : (v : DescriptionVersion) (limit n : ℕ) (white name rest : Text)
    (r : ModifiersRead) → ZeroOrMore is_white white → OneOrMore is_word_byte name
    → ModifiersAre rest r → StartIs v limit n (left ∷ (white ++ (name ++ rest)))
    (head_continued white name r)
head_continued_is v limit n white name rest (all_fit ms after) w nm h = (
  record { white = w; name = nm; modifiers = h.0 },
  h.1,
  ap (λ x. left ∷ (white ++ (name ++ x))) h.2,
)
head_continued_is v limit n white name rest (one_misfits ms white' m after) w nm h = (
  (record { white = w; name = nm; modifiers = h.0 }, h.1, h.2, h.3),
  ap (λ x. left ∷ (white ++ (name ++ x))) h.4,
)

named_is : (k : ℕ) (v : DescriptionVersion) (limit n : ℕ) (text white after name rest : Text)
    → BeginsNoEscape v text
    → IsSpan is_white text (cut white after) → IsSpan is_word_byte after (cut name rest)
    → ModifiersAre rest (read_modifiers k rest)
    → StartIs v limit n (left ∷ text) (named k white name rest)
named_is k v limit n text white after [] rest e c d more = (
  (
    c.passes,
    subst (StopsBefore is_white) d.joined c.stops,
    d.stops,
    subst (BeginsNoEscape v) whole e,
  ),
  ap (λ x. left ∷ x) whole,
)
  where
    whole : text ≡ white ++ rest
    whole = c.joined ∙ ap (λ x. white ++ x) d.joined
named_is k v limit n text white after (b ∷ name) rest e c d more =
    subst (λ x. StartIs v limit n (left ∷ x)
    (head_continued white (b ∷ name) (read_modifiers k rest))) (sym whole)
    (head_continued_is v limit n white (b ∷ name) rest (read_modifiers k rest) c.passes d.passes
    more)
  where
    whole : text ≡ white ++ (b ∷ name ++ rest)
    whole = c.joined ∙ ap (λ x. white ++ x) d.joined

rest_shorter : (a b c d text : Text) → text ≡ a ++ b → b ≡ c ++ d → length d ≤ length text
rest_shorter a b c d text e f = omega (
  arith,
  ap length e,
  ap length f,
  length-append a b,
  length-append c d,
)

head_start_is : (k : ℕ) (v : DescriptionVersion) (limit n : ℕ) (text : Text) → length text < k
    → BeginsNoEscape v text → StartIs v limit n (left ∷ text) (head_start k text)
unfolding head_start
head_start_is k v limit n text enough e =
    let c = span-is_span is_white text in
    let d = span-is_span is_word_byte (span is_white text).rest in
    named_is k v limit n text _ _ _ _ e c d
    (modifiers_are k (span is_word_byte (span is_white text).rest).rest
    (omega (
      arith,
      rest_shorter (span is_white text).front (span is_white text).rest
          (span is_word_byte (span is_white text).rest).front
          (span is_word_byte (span is_white text).rest).rest text c.joined d.joined,
    )) d.stops)

left_start_is : (k : ℕ) (v : DescriptionVersion) (limit n : ℕ) (text : Text) → length text < k
    → StartIs v limit n (left ∷ text) (left_start k v text)
unfolding left_start left_start_one
left_start_is k One limit n [] enough = head_start_is k One limit n [] enough tt
left_start_is k One limit n (b ∷ text) enough = by (b == left) refl
  where
    by : (t : Bool) → (b == left) ≡ t
        → StartIs One limit n (left ∷ b ∷ text)
        (elim t [ true ↦ at_escape left left text | false ↦ head_start k (b ∷ text) ])
    by true e = ((refl, refl), ap (λ x. left ∷ x ∷ text) (eqb-true b left e))
    by false e = head_start_is k One limit n (b ∷ text) enough e
left_start_is k Two limit n text enough = head_start_is k Two limit n text enough tt
left_start_is k Three limit n text enough = head_start_is k Three limit n text enough tt

escape_of : (v : DescriptionVersion) (b : ℕ) → is_version_one v ≡ false → is_special b ≡ true
    → IsEscape v backslash b
escape_of One b e s = absurd (both_ways true e refl)
escape_of Two b e s = (refl, s)
escape_of Three b e s = (refl, s)

backslash_start_is : (v : DescriptionVersion) (limit n : ℕ) (text : Text) → is_version_one v ≡ false
    → StartIs v limit n (backslash ∷ text) (backslash_start text)
unfolding backslash_start
backslash_start_is v limit n [] e = ((e, tt), refl)
backslash_start_is v limit n (b ∷ text) e = by (is_special b) refl
  where
    by : (t : Bool) → is_special b ≡ t
        → StartIs v limit n (backslash ∷ b ∷ text)
        (elim t [ true ↦ at_escape backslash b text | false ↦ at_broken (half_escape (b ∷ text)) ])
    by true s = (escape_of v b e s, refl)
    by false s = ((e, s), refl)

right_start_is : (v : DescriptionVersion) (limit n : ℕ) (text : Text)
    → StartIs v limit n (right ∷ text) (right_start v n text)
unfolding right_start
right_start_is v limit (suc n) text = (omega arith, refl)
right_start_is One limit zero text = (refl, refl, refl)
right_start_is Two limit zero text = (refl, refl, refl)
right_start_is Three limit zero text = ((refl, refl), refl)

-- a byte that isn't a run byte is special; a backslash is a run byte in version 1
no_run : (v : DescriptionVersion) (b : ℕ) → is_run_byte v b ≡ false → (is_special b ≡ true)
    × (((b == backslash) && is_version_one v) ≡ false)
no_run v b h =
    let p = or_parts (not (is_special b)) ((b == backslash) && is_version_one v) h in
    (not-false (is_special b) p.0, p.1)

last_special : (b : ℕ) → is_special b ≡ true → (b == right) ≡ false → (b == left) ≡ false
    → (b == backslash) ≡ true
last_special b h r l = by (or_cases (b == left || b == right) (b == backslash) h)
  where
    inner : (b == left ≡ true) ⊎ (b == right ≡ true) → (b == backslash) ≡ true
    inner (inl e) = absurd (both_ways (b == left) l e)
    inner (inr e) = absurd (both_ways (b == right) r e)

    by : ((b == left || b == right) ≡ true) ⊎ (b == backslash ≡ true) → (b == backslash) ≡ true
    by (inl e) = inner (or_cases (b == left) (b == right) e)
    by (inr e) = e

pub start_is : (k : ℕ) (v : DescriptionVersion) (limit n : ℕ) (text : Text) → length text ≤ k
    → StartIs v limit n text (start_of k v n text)
unfolding start_of
start_is k v limit n [] enough = refl
start_is k v limit n (b ∷ text) enough = at_run_byte (is_run_byte v b) refl
  where
    shorter : length text < k
    shorter = omega arith

    run_is : is_run_byte v b ≡ true
        → StartIs v limit n (b ∷ text) (run_start b (span (is_run_byte v) text))
    run_is e =
        let c = span-is_span (is_run_byte v) text in
        (and_from (is_run_byte v b) _ e c.passes, c.stops, ap (λ x. b ∷ x) c.joined)

    backslash_is : is_run_byte v b ≡ false → (b == right) ≡ false → (b == left) ≡ false
        → StartIs v limit n (b ∷ text) (backslash_start text)
    backslash_is e r l =
        let s = no_run v b e in
        let is = last_special b s.0 r l in
        subst (λ x. StartIs v limit n (x ∷ text) (backslash_start text))
        (sym (eqb-true b backslash is))
        (backslash_start_is v limit n text (rw is at s.1))

    at_left : is_run_byte v b ≡ false → (b == right) ≡ false → (t : Bool) → (b == left) ≡ t
        → StartIs v limit n (b ∷ text)
        (elim t [ true ↦ left_start k v text | false ↦ backslash_start text ])
    at_left e r true l = subst (λ x. StartIs v limit n (x ∷ text) (left_start k v text))
        (sym (eqb-true b left l)) (left_start_is k v limit n text shorter)
    at_left e r false l = backslash_is e r l

    at_right : is_run_byte v b ≡ false → (t : Bool) → (b == right) ≡ t
        → StartIs v limit n (b ∷ text)
        (elim t [
          | true ↦ right_start v n text
          | false ↦ elim (b == left)
              [ true ↦ left_start k v text | false ↦ backslash_start text ]
        ])
    at_right e true r = subst (λ x. StartIs v limit n (x ∷ text) (right_start v n text))
        (sym (eqb-true b right r)) (right_start_is v limit n text)
    at_right e false r = at_left e r (b == left) refl

    at_run_byte : (t : Bool) → is_run_byte v b ≡ t
        → StartIs v limit n (b ∷ text)
        (elim t [
          | true ↦ run_start b (span (is_run_byte v) text)
          | false ↦ elim (b == right) [
            | true ↦ right_start v n text
            | false ↦ elim (b == left)
                [ true ↦ left_start k v text | false ↦ backslash_start text ]
          ]
        ])
    at_run_byte true e = run_is e
    at_run_byte false e = at_right e (b == right) refl

-- Nested descriptions.

abbrev pub NestedStartIs : ℕ → ℕ → Text → NestedStart → Type 0
NestedStartIs limit n text (no_more white rest) = ZeroOrMore is_white white
    × StopsBefore is_white rest × StopsBefore (λ b. b == left) rest × (text ≡ white ++ rest)
NestedStartIs limit n text (at_limit white rest) = ZeroOrMore is_white white × (n ≡ limit)
    × (text ≡ white ++ left ∷ rest)
NestedStartIs limit n text (at_inner white rest) = ZeroOrMore is_white white × (n < limit)
    × (text ≡ white ++ left ∷ rest)

nested_at_is : (limit n : ℕ) (text white rest : Text) → n ≤ limit
    → IsSpan is_white text (cut white rest)
    → NestedStartIs limit n text (nested_at limit n white rest)
nested_at_is limit n text white [] within c = (c.passes, tt, tt, c.joined)
nested_at_is limit n text white (b ∷ rest) within c = by (b == left) refl
  where
    deep : text ≡ white ++ left ∷ rest → (t : Bool) → nat_lt n limit ≡ t
        → NestedStartIs limit n text
        (elim t [ true ↦ at_inner white rest | false ↦ at_limit white rest ])
    deep e true below = (c.passes, ltb-true n limit below, e)
    deep e false above = (
      c.passes,
      (let more : limit ≤ n = ltb-false n limit above in omega arith),
      e,
    )

    by : (t : Bool) → (b == left) ≡ t
        → NestedStartIs limit n text
        (elim t [
          | true ↦ elim (nat_lt n limit)
              [ true ↦ at_inner white rest | false ↦ at_limit white rest ]
          | false ↦ no_more white
              (b ∷ rest)
        ])
    by true e = deep (c.joined ∙ ap (λ x. white ++ x ∷ rest) (eqb-true b left e)) (nat_lt n limit)
        refl
    by false e = (c.passes, c.stops, e, c.joined)

pub nested_start_is : (limit n : ℕ) (text : Text) → n ≤ limit
    → NestedStartIs limit n text (nested_start_of limit n text)
unfolding nested_start_of
nested_start_is limit n text within =
    nested_at_is limit n text _ _ within (span-is_span is_white text)
