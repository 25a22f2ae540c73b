-- Texts one after another, and the sentence that they make.
use Rattle.std.proofs.Common.{ℕ, suc, ◌≡◌, ◌≢◌, ◌∙◌, ◌+◌, ◌<◌, ◌++◌, List, [], ◌∷◌, length, get_or, drop, refl, sym, ap, arith, rules, codes, append-nil}
use Rattle.std.proofs.Math.Seq.{drop-cons}
use Rattle.std.specs.Borrow.{Bor}
use Rattle.std.specs.Fmt.{decimal}
use Rattle.timefd_lang_fault.specs.Faults.{Text, Kind, unclosed_bracket, invalid_name, invalid_modifier, missing_name, missing_modifier, expected, not_supported, duplicate_modifier, invalid_combination}
use Rattle.timefd_lang_fault.specs.Sentences.{sentence_at}
use Rattle.timefd_lang_fault.specs.Parts.{joined, not_supported_with, sentence_with, texts}

joined_cons : (t : Text) (ts : List Text) → joined (t ∷ ts) ≡ t ++ joined ts
joined_cons t [] = sym (append-nil t)
joined_cons t (u ∷ ts) = refl

-- the text at an index and those after it
pub joined_from : (parts : List (Bor (List ℕ))) (i : ℕ) (d : Bor (List ℕ)) → i < length parts
    → joined (texts (drop i parts)) ≡ (get_or parts i d).now ++ joined (texts (drop (i + 1) parts))
joined_from parts i d less =
    let next : suc i ≡ i + 1 = omega arith in
    ap (λ ps. joined (texts ps))
    (drop-cons parts i d less ∙ ap (λ n. get_or parts i d ∷ drop n parts) next)
    ∙ joined_cons (get_or parts i d).now (texts (drop (i + 1) parts))

pub unsupported-none : (what context index : Text) → length context ≡ 0
    → what ++ (codes " is not supported at byte index " ++ index)
    ≡ not_supported_with what context index
unsupported-none what [] index e = refl
unsupported-none what (c ∷ cs) index e = absurd (search rules)

pub unsupported-some : (what context index : Text) → length context ≢ 0
    → what ++ (codes " is not supported in "
    ++ (context ++ (codes " at byte index " ++ index)))
    ≡ not_supported_with what context index
unsupported-some what [] index e = absurd (e refl)
unsupported-some what (c ∷ cs) index e = refl

unsupported_decimal : (what context : Text) (index : ℕ)
    → not_supported_with what context (decimal index) ≡ sentence_at (not_supported what context)
    index
unsupported_decimal what [] index = refl
unsupported_decimal what (c ∷ cs) index = refl

-- with its index in decimal it is the sentence
pub with_decimal : (kind : Kind) (index : ℕ)
    → sentence_with kind (decimal index) ≡ sentence_at kind index
with_decimal unclosed_bracket index = refl
with_decimal (invalid_name name) index = refl
with_decimal (invalid_modifier value) index = refl
with_decimal missing_name index = refl
with_decimal (missing_modifier key) index = refl
with_decimal (expected what) index = refl
with_decimal (not_supported what context) index = unsupported_decimal what context index
with_decimal (duplicate_modifier key) index = refl
with_decimal (invalid_combination key context) index = refl
