-- Steps over a description.
use Rattle.std.proofs.Common.{ℕ, ◌≡◌, ◌<◌, ◌≤◌, nat_lt, true, List, ◌++◌, length, length-append, drop, refl, ap, arith, IsUtf8}
use Rattle.std.specs.Borrow.{Bor}
use Rattle.std.specs.Prelude.{◌&&◌, eqb}
use Rattle.std.specs.List.{starts_with}
use Rattle.std.proofs.lemmas.Bool.{and_parts}
use Rattle.std.proofs.lemmas.Bool.Decides.{nat_tests, Decides-eqb}
use Rattle.std.proofs.lemmas.Slice.Eq.{starts_is}
use Rattle.timefd_lang_component.specs.Tree.{Text}
use Rattle.timefd_lang_dialect.specs.BackSteps.{IsAfter}

-- what follows a text at the front
pub written_after : (own text : Text) (rest : Bor (List ℕ))
    → (nat_lt 0 (length own) && starts_with eqb text own) ≡ true → text ≡ own ++ rest.now
    → IsUtf8 rest.now → IsAfter text rest
written_after own text rest is whole utf8 = record {
  taken = own;
  whole = whole;
  left = record {
    shorter =
        omega (
          arith,
          some (length own) (and_parts (nat_lt 0 (length own)) _ is).0,
          ap length whole,
          length-append own rest.now,
        );
    utf8 = utf8;
  };
}
  where
    some : (n : ℕ) → nat_lt 0 n ≡ true → 0 < n
    some n e = grind (arith, nat_tests)

pub written_there : (own text : Text)
    → (nat_lt 0 (length own) && starts_with eqb text own) ≡ true
    → ¬ ((rest : Text) → ¬ (text ≡ own ++ rest))
written_there own text is never =
    never (drop (length own) text)
    ((starts_is Decides-eqb text own _ refl).0 (and_parts (nat_lt 0 (length own)) _ is).1)

-- the front is no longer than the whole
pub rest_within : (whole front rest : Text) → whole ≡ front ++ rest → length rest ≤ length whole
rest_within whole front rest e = omega (arith, ap length e, length-append front rest)
