-- What is reported with a status.
use Rattle.std.proofs.Common.{ℕ, ◌≡◌, ◌++◌, Bool, Option, inl, subst}
use Rattle.std.proofs.KnownBytes.{Appends-trans}
use Rattle.std.specs.Io.KnownBytes.{Appends}
use Rattle.timefd_parse.specs.Tree.{Text}
use Rattle.timefd_lint.specs.Statuses.{IsStatus, IsStatusOr}

-- Three texts one after another.
pub in_a_line : (first second third : Text) (a b c d : Option Text) → Appends a b first → Appends b c second
    → Appends c d third → Appends a d (first ++ (second ++ third))
in_a_line first second third a b c d one two three =
    Appends-trans a b d first (second ++ third) one (Appends-trans b c d second third two three)

-- The sentence is of this kind.
pub said : (expected : ℕ) (Is : Text → Type 0) (sentence text : Text) (before after : Option Text) (has_failed : Bool)
    (status : ℕ) → Is sentence → text ≡ sentence → IsStatus expected text before after has_failed status
    → IsStatusOr expected Is before after has_failed status
said expected Is sentence text before after has_failed status is same shown =
    inl (sentence, is, subst (λ t. IsStatus expected t before after has_failed status) same shown)
