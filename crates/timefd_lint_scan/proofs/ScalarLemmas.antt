-- The character with this number, as the library returns it.
use Rattle.std.proofs.Common.{ℕ, ◌≡◌, refl, ap, inl, inr}
use Rattle.std.specs.Prelude.{Option, Some, None}
use Rattle.std.specs.Option.{SomeIff}
use Rattle.std.specs.Char.{IsScalar}
use Rattle.std.proofs.lemmas.Bool.{cases_Bool}
use lib.Utf8.{scalar}
use Rattle.timefd_lint_scan.specs.Escapes.{scalar_value}

pub is_scalar_value : (r : Option ℕ) (value : ℕ) → SomeIff r (IsScalar value) value
    → r ≡ scalar_value value
is_scalar_value None value fails = elim (cases_Bool (scalar value)) [
  | inl pass ↦ absurd (fails pass)
  | inr fail ↦ rw fail refl
]
is_scalar_value (Some c) value is = rw is.0 (ap Some is.1)
