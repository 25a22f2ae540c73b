-- All words of the tables are distinct.
use Rattle.std.proofs.Common.{ℕ, ◌≡◌, ◌==◌, Bool, true, false, not, ◌||◌, List, [], ◌∷◌, ◌++◌, append_assoc, map, Option, Some, None, eq-eqb, refl, sym, ap, ◌∙◌}
use Rattle.std.proofs.lemmas.Bool.{and_parts, false≢true}
use Rattle.timefd_lang_component.specs.Tree.{Text}
use Rattle.timefd_language.specs.declared.setting.Setting.{Setting}
use Rattle.timefd_language.specs.Bytes.{same, named}
use Rattle.timefd_language.specs.Distinct.{is_another, are_distinct, names, words_in, letters_in, is_without_repeats}
use Rattle.timefd_language.specs.Letters.{Letter, letters, is_one_of}
use Rattle.timefd_language.specs.Values.{Value, sets_of}
use Rattle.timefd_language.proofs.Lookup.{Each, named-found, named-recased}
use Rattle.timefd_language.proofs.DistinctLemmas.{distinct_keys, distinct_values}
use Rattle.timefd_laws.specs.Words.{NoTwoNames, NoTwoKeys, NoTwoValues, WordsWithoutCase, KeysWithCase, ValuesWithCase, NoTwoLetters}

not_true : (b : Bool) → not b ≡ true → b ≡ false
not_true true e = absurd cc
not_true false e = refl

another : {A : Type 0} (word : A → Text) (a b : A) (between rest : List A)
    → is_another (word a) (map word (between ++ b ∷ rest)) ≡ true
    → same false (word a) (word b) ≡ false
another word a b [] rest e =
    not_true _ (and_parts (not (same false (word a) (word b)))
    (is_another (word a) (map word rest)) e).0
another word a b (c ∷ between) rest e =
    another word a b between rest (and_parts (not (same false (word a) (word c)))
    (is_another (word a) (map word (between ++ b ∷ rest))) e).1

two_differ : {A : Type 0} (word : A → Text) (a b : A) (before between rest : List A)
    → are_distinct (map word (before ++ a ∷ (between ++ b ∷ rest))) ≡ true
    → same false (word a) (word b) ≡ false
two_differ word a b [] between rest e =
    another word a b between rest (and_parts
    (is_another (word a) (map word (between ++ b ∷ rest)))
    (are_distinct (map word (between ++ b ∷ rest))) e).0
two_differ word a b (c ∷ before) between rest e =
    two_differ word a b before between rest (and_parts
    (is_another (word c) (map word (before ++ a ∷ (between ++ b ∷ rest))))
    (are_distinct (map word (before ++ a ∷ (between ++ b ∷ rest)))) e).1

distinct_names : are_distinct (map (λ w. w) names) ≡ true
distinct_names = refl

pub no_two_names : NoTwoNames
no_two_names a b before between rest e =
    two_differ (λ w. w) a b before between rest
    (ap (λ ws. are_distinct (map (λ w. w) ws)) (sym e) ∙ distinct_names)

pub no_two_keys : NoTwoKeys
no_two_keys name a b before between rest e =
    two_differ (λ k. k.key) a b before between rest
    (ap (λ ks. are_distinct (map (λ k. k.key) ks)) (sym e) ∙ distinct_keys name)

pub no_two_values : NoTwoValues
no_two_values key a b before between rest e =
    two_differ (λ v. v.word) a b before between rest
    (ap (λ vs. are_distinct (words_in vs)) (sym e) ∙ distinct_values key)

-- Case.

pub words_without_case : WordsWithoutCase
words_without_case keys values a b e = (
  named-recased (λ k. k.key) a b keys e,
  ap sets_of (named-recased (λ v. v.word) a b values e),
)

any_of : {A : Type 0} (xs : List A) → Each (λ x. Unit {0}) xs
any_of [] = tt
any_of (x ∷ xs) = (tt, any_of xs)

pub keys_with_case : KeysWithCase
keys_with_case keys word k e =
    sym (named-found (λ k. k.key) (λ k. Unit {0}) word keys k (any_of keys) e).1

pub found_value : (o : Option (Value Setting)) (s : Setting) → sets_of o ≡ Some s
    → (v : Value Setting) × (o ≡ Some v) × (s ≡ v.sets)
found_value None s e = absurd cc
found_value (Some v) s e = (v, refl, cc)

pub values_with_case : ValuesWithCase
values_with_case values word s e =
    let f = found_value (named (λ v. v.word) true word values) s e in
    (f.0, sym (named-found (λ v. v.word) (λ v. Unit {0}) word values f.0 (any_of values) f.1).1, f.2)

-- Letters.

stands : (b : ℕ) (x y : Text) → is_one_of b (x ++ b ∷ y) ≡ true
stands b [] y = ap (λ t. t || is_one_of b y) (eq-eqb b b refl)
stands b (c ∷ x) y = by (stands b x y) (b == c)
  where
    by : is_one_of b (x ++ b ∷ y) ≡ true → (t : Bool) → (t || is_one_of b (x ++ b ∷ y)) ≡ true
    by more true = refl
    by more false = more

repeated : (b : ℕ) (x y z : Text) → is_without_repeats (x ++ b ∷ (y ++ b ∷ z)) ≡ true → ⊥
repeated b [] y z e =
    let p = and_parts (not (is_one_of b (y ++ b ∷ z))) (is_without_repeats (y ++ b ∷ z)) e in
    false≢true (sym (not_true _ p.0) ∙ stands b y z)
repeated b (c ∷ x) y z e =
    repeated b x y z (and_parts (not (is_one_of c (x ++ b ∷ (y ++ b ∷ z))))
    (is_without_repeats (x ++ b ∷ (y ++ b ∷ z))) e).1

letters_in-append : (a b : List Letter) → letters_in (a ++ b) ≡ letters_in a ++ letters_in b
letters_in-append [] b = refl
letters_in-append (l ∷ a) b =
    ap (λ x. l.letters ++ x) (letters_in-append a b)
    ∙ sym (append_assoc l.letters (letters_in a) (letters_in b))

regroup : (p c d q e f r : Text) (b : ℕ)
    → p ++ ((c ++ b ∷ d) ++ (q ++ ((e ++ b ∷ f) ++ r)))
    ≡ (p ++ c) ++ b ∷ ((d ++ q ++ e) ++ b ∷ (f ++ r))
regroup p c d q e f r b = simp append_assoc

pub no_two_letters : NoTwoLetters
no_two_letters l m before between rest b c d e f are first second =
    let split : letters_in letters
    ≡ letters_in before ++ (l.letters ++ (letters_in between ++ (m.letters ++ letters_in rest)))
    = ap letters_in are ∙ letters_in-append before (l ∷ (between ++ m ∷ rest))
    ∙ ap (λ x. letters_in before ++ (l.letters ++ x)) (letters_in-append between (m ∷ rest)) in
    repeated b (letters_in before ++ c) (d ++ letters_in between ++ e) (f ++ letters_in rest)
    (ap is_without_repeats
    (sym (split
    ∙ ap (λ x. letters_in before ++ (x ++ (letters_in between ++ (m.letters ++ letters_in rest)))) first
    ∙ ap (λ x. letters_in before ++ ((c ++ b ∷ d) ++ (letters_in between ++ (x ++ letters_in rest))))
    second
    ∙ regroup (letters_in before) c d (letters_in between) e f (letters_in rest) b))
    ∙ all_once)
  where
    all_once : is_without_repeats (letters_in letters) ≡ true
    all_once = refl
