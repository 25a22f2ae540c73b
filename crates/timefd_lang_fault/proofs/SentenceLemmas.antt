use Rattle.std.proofs.Common.{ℕ, List, [], ◌∷◌, ◌++◌, ◌≡◌, ◌≢◌, refl, codes, length, rules}
use Rattle.std.specs.Fmt.{decimal}
use Rattle.timefd_lang_fault.specs.Sentences.{unsupported}

pub unsupported-none : (what context : List ℕ) (index : ℕ) → length context ≡ 0
    → what ++ (codes " is not supported at byte index " ++ decimal index) ≡ unsupported what context
    index
unsupported-none what [] index e = refl
unsupported-none what (c ∷ cs) index e = absurd (search rules)

pub unsupported-some : (what context : List ℕ) (index : ℕ) → length context ≢ 0
    → what ++ (codes " is not supported in "
    ++ (context ++ (codes " at byte index " ++ decimal index))) ≡ unsupported what context index
unsupported-some what [] index e = absurd (e refl)
unsupported-some what (c ∷ cs) index e = refl
