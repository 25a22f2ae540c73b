-- One more digit.
use Rattle.std.proofs.Common.{ℕ, zero, suc, ◌≡◌, ◌<◌, ◌-◌, ◌∷◌, sym, ap, ◌∙◌, arith}
use Rattle.std.specs.Prelude.{Option}
use Rattle.timefd_lint_scan.specs.Bytes.{Text}
use Rattle.timefd_lint_scan.specs.Escapes.{hex_digit, next_value}
use Rattle.timefd_lint_scan.specs.Keys.Escapes.{Number, number}

pub one_digit : (left : ℕ) (value next : Option ℕ) (b : ℕ) (bytes rest : Text) (all : Option Number)
    → 0 < left → rest ≡ b ∷ bytes → next ≡ next_value value (hex_digit b)
    → number left value rest ≡ all → number (left - 1) next bytes ≡ all
one_digit zero value next b bytes rest all some split is so_far = absurd (omega arith)
one_digit (suc left) value next b bytes rest all some split is so_far =
    let less : suc left - 1 ≡ left = omega arith in
    ap (λ (n : ℕ). number n next bytes) less
    ∙ (ap (λ (v : Option ℕ). number left v bytes) is
    ∙ (ap (λ (t : Text). number (suc left) value t) (sym split) ∙ so_far))
