-- Looking up names.
use Rattle.std.proofs.Common.{ℕ, zero, suc, ◌≡◌, ◌==◌, Bool, true, false, List, [], ◌∷◌, map, Option, Some, None, refl, ap₂, subst, eqb-true, nat_le}
use Rattle.std.specs.List.{list_all}
use Rattle.std.specs.declared.num.NonZeroU16.{NonZeroU16}
use Rattle.std.specs.Bool.{⊤}
use Rattle.std.proofs.lemmas.Bool.{and_parts, false≢true}
use Rattle.timefd_lang_component.specs.Tree.{Text}
use Rattle.timefd_language.specs.Bytes.{lowered, equal, named}
use Rattle.timefd_language.specs.Recased.{SameButCase}
use Rattle.timefd_language.specs.declared.setting.Setting.{Setting}
use Rattle.timefd_language.specs.Values.{counted, count_of, digits_of, not_zero}

pub equal-true : (a b : Text) → equal a b ≡ true → a ≡ b
equal-true [] [] e = refl
equal-true [] (b ∷ y) e = absurd (false≢true e)
equal-true (a ∷ x) [] e = absurd (false≢true e)
equal-true (a ∷ x) (b ∷ y) e =
    let p = and_parts (a == b) (equal x y) e in
    let h : a ≡ b = eqb-true a b p.0 in
    let t : x ≡ y = equal-true x y p.1 in
    cc

-- each element of a list has a property
abbrev pub Each : {A : Type 0} → (A → Type 0) → List A → Type 0
Each P [] = ⊤
Each P (x ∷ xs) = P x × Each P xs

pub each-map : {A B : Type 0} (f : A → B) (P : B → Type 0) (xs : List A) → ((x : A) → P (f x))
    → Each P (map f xs)
each-map f P [] all = tt
each-map f P (x ∷ xs) all = (all x, each-map f P xs all)

-- a property that a test decides
pub each-passes : {A : Type 0} (test : A → Bool) (P : A → Type 0) → ((x : A) → test x ≡ true → P x)
    → (xs : List A) → list_all test xs ≡ true → Each P xs
each-passes test P passes [] e = tt
each-passes test P passes (x ∷ xs) e =
    let p = and_parts (test x) (list_all test xs) e in
    (passes x p.0, each-passes test P passes xs p.1)

-- what is found by its exact name is an element of the list, and has that name
pub named-found : {A : Type 0} (name : A → Text) (P : A → Type 0) (text : Text) (xs : List A)
    (x : A) → Each P xs → named name true text xs ≡ Some x
    → P x × (name x ≡ text)
named-found name P text [] x all e = absurd cc
named-found name P text (y ∷ ys) x all e =
    by (λ h. named-found name P text ys x all.1 h) (equal (name y) text) refl e
  where
    by : (named name true text ys ≡ Some x → P x × (name x ≡ text)) → (t : Bool)
        → equal (name y) text ≡ t
        → elim t [ true ↦ Some y | false ↦ named name true text ys ] ≡ Some x
        → P x × (name x ≡ text)
    by more true h e = let is : y ≡ x = cc in
        subst (λ z. P z × (name z ≡ text)) is (all.0, equal-true (name y) text h)
    by more false h e = more e

pub named-recased : {A : Type 0} (name : A → Text) (a b : Text) (xs : List A) → SameButCase a b
    → named name false a xs ≡ named name false b xs
named-recased name a b [] e = refl
named-recased name a b (x ∷ xs) e =
    ap₂ (λ y r. elim (equal (map lowered (name x)) y) [ true ↦ Some x | false ↦ r ]) e
    (named-recased name a b xs e)

-- a text in lower case
abbrev pub IsLowered : Text → Type 0
IsLowered text = map lowered text ≡ text

-- if all names are in lower case, case makes no difference to such a text
pub named-lowered : {A : Type 0} (name : A → Text) (text : Text) (xs : List A)
    → Each (λ x. IsLowered (name x)) xs → IsLowered text
    → named name false text xs ≡ named name true text xs
named-lowered name text [] all low = refl
named-lowered name text (x ∷ xs) all low =
    ap₂ (λ t r. elim t [ true ↦ Some x | false ↦ r ]) (ap₂ equal all.0 low)
    (named-lowered name text xs all.1 low)

-- A number sets a count.

abbrev pub IsCount : Setting → Type 0
IsCount v = (n : NonZeroU16) × (v ≡ Setting.Count n)

counted-sets : (o : Option ℕ) (v : Setting) → counted o ≡ Some v → IsCount v
counted-sets None v e = absurd cc
counted-sets (Some zero) v e = absurd cc
counted-sets (Some (suc n)) v e = by (nat_le (suc n) 65535) e
  where
    by : (t : Bool) → elim t [ true ↦ Some (Setting.Count (not_zero n)) | false ↦ None ] ≡ Some v
        → IsCount v
    by true h = (not_zero n, cc)
    by false h = absurd cc

pub count_of-sets : (text : Text) (v : Setting) → count_of text ≡ Some v → IsCount v
count_of-sets [] v e = absurd cc
count_of-sets (b ∷ text) v e = by (b == 43) e
  where
    by : (t : Bool)
        → elim t [ true ↦ counted (digits_of text) | false ↦ counted (digits_of (b ∷ text)) ] ≡ Some
        v → IsCount v
    by true h = counted-sets (digits_of text) v h
    by false h = counted-sets (digits_of (b ∷ text)) v h
