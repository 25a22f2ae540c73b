-- Looking up names: names of another length than the text needn't be compared.
use Rattle.std.proofs.Common.{ℕ, ◌≡◌, ◌≢◌, ◌==◌, Bool, true, false, List, [], ◌∷◌, map, length, Option, Some, None, refl, sym, ap, ◌∙◌, eq-eqb}
use Rattle.std.proofs.lemmas.Bool.{both_ways}
use Rattle.std.proofs.lemmas.List.{length-map}
use Rattle.timefd_lang_component.specs.Tree.{Text}
use Rattle.timefd_lang_fault.specs.declared.name.ComponentName.{ComponentName}
use Rattle.timefd_language.specs.Bytes.{lowered, same, named}
use Rattle.timefd_language.specs.Names.{row_for, rows, row_of}
use Rattle.timefd_language.proofs.Lookup.{Each, equal-true}

pub same-length : (strict : Bool) (a b : Text) → same strict a b ≡ true → length a ≡ length b
same-length true a b e = ap length (equal-true a b e)
same-length false a b e =
    sym (length-map a lowered) ∙ ap length (equal-true (map lowered a) (map lowered b) e) ∙
    length-map b lowered

-- the elements whose name has n bytes
abbrev pub of_length : {A : Type 0} → (A → Text) → ℕ → List A → List A
of_length name n [] = []
of_length name n (x ∷ xs) = elim (length (name x) == n)
    [ true ↦ x ∷ of_length name n xs | false ↦ of_length name n xs ]

-- the first element, or what is found after it
abbrev first_or : {A : Type 0} → Bool → A → Option A → Option A
first_or b x o = elim b [ true ↦ Some x | false ↦ o ]

pub named-of_length : {A : Type 0} (name : A → Text) (strict : Bool) (text : Text) (n : ℕ)
    (xs : List A) → length text ≡ n
    → named name strict text xs ≡ named name strict text (of_length name n xs)
named-of_length name strict text n [] e = refl
named-of_length {A = A} name strict text n (x ∷ xs) e =
    by (length (name x) == n) refl (same strict (name x) text) refl
    (named-of_length name strict text n xs e)
  where
    by : (t : Bool) → (length (name x) == n) ≡ t → (s : Bool) → same strict (name x) text ≡ s
        → named name strict text xs ≡ named name strict text (of_length name n xs)
        → ◌≡◌ {A = Option A} (first_or s x (named name strict text xs))
        (named name strict text
        (elim t [ true ↦ x ∷ of_length name n xs | false ↦ of_length name n xs ]))
    by true l s is more = ap (first_or s x) more ∙
        ap (λ b. first_or b x (named name strict text (of_length name n xs))) (sym is)
    by false l true is more =
        absurd (both_ways (length (name x) == n) l
        (eq-eqb (length (name x)) n (same-length strict (name x) text is ∙ e)))
    by false l false is more = more

pub missed : {A : Type 0} (name : A → Text) (strict : Bool) (text : Text) (xs : List A)
    → Each (λ x. false ≡ same strict (name x) text) xs → None ≡ named name strict text xs
missed name strict text [] all = refl
missed name strict text (x ∷ xs) all = missed name strict text xs all.1 ∙
    ap (λ b. first_or b x (named name strict text xs)) all.0

pub unmatched : {A : Type 0} (name : A → Text) (strict : Bool) (text : Text) (xs : List A)
    → Each (λ x. length text ≢ length (name x)) xs → None ≡ named name strict text xs
unmatched name strict text [] all = refl
unmatched name strict text (x ∷ xs) all =
    unmatched name strict text xs all.1 ∙ ap (λ b. first_or b x (named name strict text xs))
    (by (same strict (name x) text) refl)
  where
    by : (s : Bool) → same strict (name x) text ≡ s → false ≡ same strict (name x) text
    by true e = absurd (all.0 (sym (same-length strict (name x) text e)))
    by false e = sym e

-- Names of components.

-- none of the names of this length is the text
pub unnamed : (strict : Bool) (text : Text) (n : ℕ) → length text ≡ n
    → Each (λ r. false ≡ same strict r.name text) (of_length (λ r. r.name) n rows)
    → None ≡ row_of strict text
unnamed strict text n e all = missed (λ r. r.name) strict text (of_length (λ r. r.name) n rows) all
    ∙ sym (named-of_length (λ r. r.name) strict text n rows e)

-- the second of two names of this length
pub second_named : (strict : Bool) (text : Text) (n : ℕ) (x y : ComponentName)
    → of_length (λ r. r.name) n rows ≡ row_for x ∷ row_for y ∷ [] → length text ≡ n
    → false ≡ same strict (row_for x).name text → true ≡ same strict (row_for y).name text
    → Some (row_for y) ≡ row_of strict text
second_named strict text n x y two e first second =
    ap (λ b. first_or b (row_for y) None) second
    ∙ ap (λ b. first_or b (row_for x)
    (first_or (same strict (row_for y).name text) (row_for y) None)) first
    ∙ ap (named (λ r. r.name) strict text) (sym two)
    ∙ sym (named-of_length (λ r. r.name) strict text n rows e)

-- no name has this length
pub unlisted : (strict : Bool) (text : Text) → length text ≢ 3 → length text ≢ 4 → length text ≢ 5
    → length text ≢ 6 → length text ≢ 7
    → length text ≢ 9 → length text ≢ 11 → length text ≢ 13 → length text ≢ 14
    → None ≡ row_of strict text
unlisted strict text n3 n4 n5 n6 n7 n9 n11 n13 n14 =
    unmatched (λ r. r.name) strict text rows (
      n3,
      (
        n3,
        (
          n4,
          (
            n6,
            (n6, (n5, (n11, (n13, (n13, (n7, (n6, (n6, (n9, (n14, (n7, (n11, (n4, tt))))))))))))),
          ),
        ),
      ),
    )
