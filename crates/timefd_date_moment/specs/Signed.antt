-- Numbers with a sign.
use Rattle.std.specs.Prelude.{ℕ, Bool, true, false, ℤ, pos, neg_ℤ}

-- the number with this sign and magnitude
abbrev pub signed : Bool → ℕ → ℤ
signed true n = neg_ℤ (pos n)
signed false n = pos n
