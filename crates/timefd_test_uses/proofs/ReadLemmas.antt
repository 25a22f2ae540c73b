-- Numbers, as Rust reads them if no sign is in front.
use Rattle.std.proofs.Common.{ℕ, ◌≡◌, ◌≢◌, ◌==◌, ◌++◌, Bool, true, false, length, get_or, take, drop, Some, Result, Ok, Err, sym, subst, ◌∙◌}
use Rattle.std.specs.Result.{result_ok}
use Rattle.std.specs.Str.{all_ascii_digits}
use Rattle.std.specs.Str.Parse.{ParsesUnsigned, digits_value}
use Rattle.std.proofs.lemmas.List.{take-append-drop}
use Rattle.std.proofs.lemmas.Str.Parse.{IsNumeralModel, numerals_by_value, tells_all_ascii_digits, parse_plain}
use Rattle.timefd_parse.specs.Tree.{Text}
use Rattle.timefd_test_uses.specs.Read.{IsNumberAhead}

own : IsNumeralModel (λ ds. all_ascii_digits ds ≡ true) (digits_value 10)
own = numerals_by_value _ tells_all_ascii_digits

-- what a test of the first byte says
pub no_sign : (word : Text) (t : Bool) → t ≡ (get_or word 0 0 == 43) → t ≡ false
    → get_or word 0 0 ≢ 43
no_sign word t is no_plus same =
    let bad : true ≡ false = subst (λ x. (x == 43) ≡ false) same (sym is ∙ no_plus) in absurd cc

pub number_read : {E : Type 0} (width : ℕ) (text digits rest : Text) (r : Result ℕ E) (n : ℕ)
    → digits ≡ take width text → rest ≡ drop width text → length digits ≡ width
    → get_or digits 0 0 ≢ 43 → ParsesUnsigned 16 10 digits r → Some n ≡ result_ok r
    → IsNumberAhead width text n rest
number_read width text digits rest (Err x) n front back len plain p e = absurd cc
number_read width text digits rest (Ok m) n front back len plain p e =
    let k = parse_plain own {E = ℕ} 16 digits (Ok m) p plain in
    let same : n ≡ m = cc in
    let whole : text ≡ digits ++ rest = rw (front, back) (sym (take-append-drop width text)) in
    (digits, whole, len, k.0.0, same ∙ k.1)
