-- The longest front whose bytes pass: every such front is equal to it.
use Rattle.std.proofs.Common.{ℕ, ◌≡◌, Bool, true, false, not, ◌||◌, [], ◌∷◌, ◌++◌, refl, ap, ◌==◌, ◌⊎◌, inl, inr, eqb-true}
use Rattle.std.specs.List.{list_all}
use Rattle.std.proofs.lemmas.Bool.{and_parts, and_from, and_left, and_right, or_cases, not-true, both_ways, false_from_ne_true}
use Rattle.timefd_lang_component.specs.Tree.{Text}
use Rattle.timefd_language.specs.Bytes.{ZeroOrMore, OneOrMore, StopsBefore, left, right, backslash, is_white, is_special, is_word_byte, is_key_byte}
use Rattle.timefd_language.proofs.Reader.{Cut, cut, span, after_one}

pub span-exact : (test : ℕ → Bool) (front rest : Text) → ZeroOrMore test front
    → StopsBefore test rest → span test (front ++ rest) ≡ cut front rest
unfolding span
span-exact test [] [] passes stops = refl
span-exact test [] (b ∷ rest) passes stops = rw stops refl
span-exact test (b ∷ front) rest passes stops =
    let p = and_parts (test b) (list_all test front) passes in
    rw (p.0) (ap (after_one b) (span-exact test front rest p.1 stops))

pub span-all : (test : ℕ → Bool) (text : Text) → ZeroOrMore test text → span test text ≡ cut text []
unfolding span
span-all test [] passes = refl
span-all test (b ∷ text) passes =
    let p = and_parts (test b) (list_all test text) passes in
    rw (p.0, span) (ap (after_one b) (span-all test text p.1))

pub record IsSpan (test : ℕ → Bool) (text : Text) (c : Cut) : Type 0 where
  pub joined : text ≡ c.front ++ c.rest
  pub passes : ZeroOrMore test c.front
  pub stops : StopsBefore test c.rest

pub span-is_span : (test : ℕ → Bool) (text : Text) → IsSpan test text (span test text)
unfolding span
span-is_span test [] = record { joined = refl; passes = refl; stops = tt }
span-is_span test (b ∷ text) = at_first (span-is_span test text) (test b) refl
  where
    at_first : IsSpan test text (span test text) → (t : Bool) → test b ≡ t
        → IsSpan test (b ∷ text) (elim t
        [ true ↦ after_one b (span test text) | false ↦ cut [] (b ∷ text) ])
    at_first more true e = record {
      joined = ap (λ x. b ∷ x) more.joined;
      passes =
          and_from (test b) _ e more.passes;
      stops = more.stops;
    }
    at_first more false e = record { joined = refl; passes = refl; stops = e }

pub all-append : (test : ℕ → Bool) (a b : Text) → ZeroOrMore test a → ZeroOrMore test b
    → ZeroOrMore test (a ++ b)
all-append test [] b ha hb = hb
all-append test (x ∷ a) b ha hb =
    let p = and_parts (test x) (list_all test a) ha in
    and_from (test x) _ p.0 (all-append test a b p.1 hb)

pub all-implied : (p q : ℕ → Bool) → ((b : ℕ) → p b ≡ true → q b ≡ true) → (a : Text)
    → ZeroOrMore p a → ZeroOrMore q a
all-implied p q f [] h = refl
all-implied p q f (x ∷ a) h =
    let d = and_parts (p x) (list_all p a) h in
    and_from (q x) _ (f x d.0) (all-implied p q f a d.1)

pub zero_from_one : (test : ℕ → Bool) (a : Text) → OneOrMore test a → ZeroOrMore test a
zero_from_one test [] h = absurd h
zero_from_one test (b ∷ a) h = h

-- a run of at least one byte stops a run of another class
pub stops_one : (p q : ℕ → Bool) → ((b : ℕ) → p b ≡ true → q b ≡ false) → (a rest : Text)
    → OneOrMore p a → StopsBefore q (a ++ rest)
stops_one p q f [] rest h = absurd h
stops_one p q f (b ∷ a) rest h = f b (and_parts (p b) (list_all p a) h).0

pub stops_zero : (p q : ℕ → Bool) → ((b : ℕ) → p b ≡ true → q b ≡ false) → (a rest : Text)
    → ZeroOrMore p a → StopsBefore q rest → StopsBefore q (a ++ rest)
stops_zero p q f [] rest h s = s
stops_zero p q f (b ∷ a) rest h s = f b (and_parts (p b) (list_all p a) h).0

-- Classes of bytes.

pub key-word : (b : ℕ) → is_key_byte b ≡ true → is_word_byte b ≡ true
key-word b h = (and_parts _ (is_word_byte b) h).1

pub word-not_white : (b : ℕ) → is_word_byte b ≡ true → is_white b ≡ false
word-not_white b h = not-true (is_white b) (and_parts (not (is_special b)) (not (is_white b)) h).1

pub word-not_special : (b : ℕ) → is_word_byte b ≡ true → is_special b ≡ false
word-not_special b h = not-true (is_special b)
    (and_parts (not (is_special b)) (not (is_white b)) h).0

pub key-not_white : (b : ℕ) → is_key_byte b ≡ true → is_white b ≡ false
key-not_white b h = word-not_white b (key-word b h)

pub white-not_word : (b : ℕ) → is_white b ≡ true → is_word_byte b ≡ false
white-not_word b h = and_right (not (is_special b)) (not (is_white b)) (rw h refl)

-- the special bytes
pub special_cases : (b : ℕ) → is_special b ≡ true → (b ≡ left) ⊎ ((b ≡ right) ⊎ (b ≡ backslash))
special_cases b h = outer (or_cases (b == left || b == right) (b == backslash) h)
  where
    inner : (b == left ≡ true) ⊎ (b == right ≡ true) → (b ≡ left) ⊎ ((b ≡ right) ⊎ (b ≡ backslash))
    inner (inl e) = inl (eqb-true b left e)
    inner (inr e) = inr (inl (eqb-true b right e))

    outer : ((b == left || b == right) ≡ true) ⊎ (b == backslash ≡ true)
        → (b ≡ left) ⊎ ((b ≡ right) ⊎ (b ≡ backslash))
    outer (inl e) = inner (or_cases (b == left) (b == right) e)
    outer (inr e) = inr (inr (eqb-true b backslash e))

pub special-not_white : (b : ℕ) → is_special b ≡ true → is_white b ≡ false
special-not_white b h = at (special_cases b h)
  where
    at : (b ≡ left) ⊎ ((b ≡ right) ⊎ (b ≡ backslash)) → is_white b ≡ false
    at (inl e) = rw e refl
    at (inr (inl e)) = rw e refl
    at (inr (inr e)) = rw e refl

pub white-not_special : (b : ℕ) → is_white b ≡ true → is_special b ≡ false
white-not_special b h = false_from_ne_true (is_special b)
    (λ e. both_ways (is_white b) (special-not_white b e) h)

pub special-not_word : (b : ℕ) → is_special b ≡ true → is_word_byte b ≡ false
special-not_word b h = and_left (not (is_special b)) (not (is_white b)) (rw h refl)
