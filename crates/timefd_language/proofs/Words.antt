-- Comparing words.
use Rattle.std.proofs.Common.{ℕ, ◌≡◌, length, ◌==◌, Bool, true, false, [], ◌∷◌, map, IsTrue, ◌↔◌, refl, sym, ap, ap₂, ◌∙◌, arith, eq-eqb}
use Rattle.std.specs.Char.{to_ascii_lowercase}
use Rattle.std.proofs.lemmas.Bool.{and_from}
use Rattle.std.proofs.lemmas.Bool.Decides.{nat_tests, same_from_decides}
use Rattle.timefd_lang_component.specs.Tree.{Text}
use Rattle.timefd_language.specs.Bytes.{lowered, equal, same}
use Rattle.timefd_language.proofs.Lookup.{equal-true}
use Rattle.timefd_language.proofs.Named.{same-length}

lowered-is : (b : ℕ) → lowered b ≡ to_ascii_lowercase b
lowered-is b = grind (arith, nat_tests)

all_lowered-is : (bytes : Text) → map lowered bytes ≡ map to_ascii_lowercase bytes
all_lowered-is [] = refl
all_lowered-is (b ∷ bytes) = ap₂ (λ x y. x ∷ y) (lowered-is b) (all_lowered-is bytes)

pub equal-refl : (a : Text) → equal a a ≡ true
equal-refl [] = refl
equal-refl (x ∷ a) = and_from (x == x) (equal a a) (eq-eqb x x refl) (equal-refl a)

equal-from : (a b : Text) → a ≡ b → equal a b ≡ true
equal-from a b e = ap (equal a) (sym e) ∙ equal-refl a

-- what `eq_ignore_ascii_case` says
pub same_lowered : (r : Bool) (a b : Text)
    → (IsTrue r ↔ (map to_ascii_lowercase a ≡ map to_ascii_lowercase b)) → r ≡ same false a b
same_lowered r a b test =
    same_from_decides r (same false a b) test (
      λ e. sym (all_lowered-is a) ∙ equal-true (map lowered a) (map lowered b) e ∙ all_lowered-is b,
      λ e. equal-from (map lowered a) (map lowered b) (all_lowered-is a ∙ e ∙
          sym (all_lowered-is b)),
    )

-- words that were compared as bytes
pub compared : (r : Bool) (a b x y : Text) → r ≡ equal x y → x ≡ a → y ≡ b → equal a b ≡ r
compared r a b x y e p q = sym (e ∙ ap₂ equal p q)

-- words of different lengths
pub not_same : (strict : Bool) (a b : Text) → (length a ≡ length b → ⊥) → false ≡ same strict a b
not_same strict a b other = by (same strict a b) refl
  where
    by : (t : Bool) → same strict a b ≡ t → false ≡ t
    by true e = absurd (other (same-length strict a b e))
    by false e = refl

-- a word that is found byte for byte is also found if case is ignored
pub same_at_once : (strict : Bool) (a b : Text) → equal a b ≡ true → same strict a b ≡ true
same_at_once true a b e = e
same_at_once false a b e = equal-from (map lowered a) (map lowered b)
    (ap (map lowered) (equal-true a b e))
