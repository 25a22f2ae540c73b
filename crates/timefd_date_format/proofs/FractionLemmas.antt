-- The zeros at the end of the nine digits of a fraction.
use Rattle.std.proofs.Common.{ℕ, ◌≡◌, ◌≢◌, ◌∙◌, ◌+◌, ◌-◌, ◌<◌, ◌≤◌, ◌==◌, Bool, [], ◌∷◌, ◌++◌, length, take, drop, replicate, Option, Some, None, get_or, refl, sym, ap, arith, length-append}
use Rattle.std.proofs.lemmas.List.{take_more, length-replicate, append-nil, drop_all}
use Rattle.std.proofs.lemmas.Fmt.{length-decimal-le_wide}
use Rattle.std.specs.Fmt.{decimal}
use Rattle.timefd_modifier.specs.declared.enums.Padding.{Padding}
use Rattle.timefd_lang_component.specs.Tree.{Text}
use Rattle.timefd_date_format.specs.Puts.{Puts}
use Rattle.timefd_lang_component.specs.Texts.{filled, before_trimmed, trimmed, at_least_one}

trimmed-zero : (xs : Text) → trimmed (xs ++ 48 ∷ []) ≡ trimmed xs
trimmed-zero [] = refl
trimmed-zero (x ∷ xs) = ap (before_trimmed x) (trimmed-zero xs)

before-more : (x b : ℕ) (xs : Text) → before_trimmed x (xs ++ b ∷ []) ≡ x ∷ (xs ++ b ∷ [])
before-more x b [] = refl
before-more x b (y ∷ xs) = refl

alone : (b : ℕ) → b ≢ 48 → before_trimmed b [] ≡ b ∷ []
alone b h = grind (arith, h)

trimmed-other : (xs : Text) (b : ℕ) → b ≢ 48 → trimmed (xs ++ b ∷ []) ≡ xs ++ b ∷ []
trimmed-other [] b h = alone b h
trimmed-other (x ∷ xs) b h = ap (before_trimmed x) (trimmed-other xs b h) ∙ before-more x b xs

least-more : (xs : Text) (b : ℕ) → at_least_one (xs ++ b ∷ []) ≡ xs ++ b ∷ []
least-more [] b = refl
least-more (x ∷ xs) b = refl

-- Without one of the zeros at the end.
pub fewer : (ds : Text) (n : ℕ) → n < length ds → get_or ds n 0 ≡ 48
    → trimmed (take (n + 1) ds) ≡ trimmed (take n ds)
fewer ds n below is =
    ap trimmed (take_more ds n 0 below ∙ ap (λ b. take n ds ++ b ∷ []) is) ∙ trimmed-zero (take n ds)

-- Digits that end with another digit than zero stay as they are.
pub no_fewer : (ds : Text) (n : ℕ) → n < length ds → get_or ds n 0 ≢ 48
    → at_least_one (trimmed (take (n + 1) ds)) ≡ take (n + 1) ds
no_fewer ds n below other =
    ap (λ xs. at_least_one (trimmed xs)) (take_more ds n 0 below) ∙
    ap at_least_one (trimmed-other (take n ds) (get_or ds n 0) other) ∙
    least-more (take n ds) (get_or ds n 0) ∙ sym (take_more ds n 0 below)

-- A single digit stays as well.
pub one_left : (ds : Text) → 1 ≤ length ds → at_least_one (trimmed (take 1 ds)) ≡ take 1 ds
one_left [] h = absurd (omega (arith, h))
one_left (b ∷ ds) h = by (b == 48) refl
  where
    by : (t : Bool) → t ≡ (b == 48) → at_least_one (before_trimmed b []) ≡ b ∷ []
    by t e = grind arith

pub nine : (n : ℕ) → n ≤ 999999999 → length (filled Padding.Zero 9 n) ≡ 9
nine n h =
    let short : length (decimal n) ≤ 9 =
    length-decimal-le_wide 9 n (omega arith) (omega (arith, h)) (omega (arith, h)) in
    omega (
      arith,
      short,
      length-append (replicate (9 - length (decimal n)) 48) (decimal n),
      length-replicate {A = ℕ} (9 - length (decimal n)) 48,
    )

-- The nine digits fill a buffer of nine bytes.
pub nine_put : (n : ℕ) (old new : Text) (r : Option ℕ) → n ≤ 999999999 → length old ≡ 9
    → Puts (filled Padding.Zero 9 n) old 9 new r → new ≡ filled Padding.Zero 9 n
nine_put n old new None h size p = absurd (omega (arith, nine n h, p))
nine_put n old new (Some at) h size p =
    let front : at ≡ 0 = omega (arith, nine n h, p.0) in
    let none : drop 9 old ≡ [] = drop_all 9 old (omega (arith, size)) in
    p.1 ∙ (λ i. take (front i) old ++ (filled Padding.Zero 9 n ++ none i)) ∙
    append-nil (filled Padding.Zero 9 n)
