-- The first part of a format of another language or library that is refused where the format stands.
use Rattle.std.specs.Prelude.{ℕ, ◌≡◌, ◌-◌, List, [], ◌∷◌, length, Option, Some, None, IsFalse, IsTrue}
use Rattle.timefd_parse.specs.Tree.{Text}
use Rattle.timefd_lang_dialect.specs.declared.dialect.Dialect.{Dialect}
use Rattle.timefd_lang_dialect.specs.declared.error.RefusedPart.{RefusedPart}
use Rattle.timefd_lang_dialect.specs.declared.reason.Reason.{Reason}
use Rattle.timefd_lang_dialect.specs.Reading.{Piece, Means, RefusedAt}
use Rattle.timefd_lint_drawing.specs.Positions.{after}
use Rattle.timefd_lint_sources.specs.declared.judgement.RefusedParts.{RefusedParts}
use Rattle.timefd_lint_sources.specs.Refusing.{is_refused}

-- what follows the percent sign at an index
abbrev pub after_sign : ℕ → Text → Text
after_sign index text = after 1 (after index text)

-- version 3 has no text for the part at the index, but it is right where the format stands
abbrev pub IsSpared : RefusedParts → Dialect → Text → ℕ → Type 0
IsSpared parts dialect text index =
    (reason : Reason) × RefusedAt dialect text reason index × IsFalse (is_refused parts dialect reason)

-- The rest follows the percent sign of the last of such parts, each of which is the first one in what is left.
abbrev pub Passes : RefusedParts → Dialect → Text → List ℕ → Text → Type 0
Passes parts dialect text [] rest = text ≡ rest
Passes parts dialect text (index ∷ more) rest =
    IsSpared parts dialect text index × Passes parts dialect (after_sign index text) more rest

abbrev pub MeansAny : Dialect → Text → Type 0
MeansAny dialect text = (ps : List Piece) × Means dialect text ps

-- The format is right where it stands: after the parts that are passed over the rest means something.
abbrev pub IsRight : RefusedParts → Dialect → Text → Type 0
IsRight parts dialect text =
    (passed : List ℕ) × (rest : Text) × Passes parts dialect text passed rest × MeansAny dialect rest

-- a refusal in the last `left` bytes of a text of `whole` bytes, with its index in the text
abbrev pub moved : ℕ → ℕ → RefusedPart → RefusedPart
moved whole left refusal =
    record { reason = refusal.reason; index = whole - (left - refusal.index) }

-- The first part that is refused after those that are passed over.
abbrev pub IsRefusedFirst : RefusedParts → Dialect → Text → RefusedPart → Type 0
IsRefusedFirst parts dialect text found =
    (passed : List ℕ) × (rest : Text) × (refusal : RefusedPart) × Passes parts dialect text passed rest
    × RefusedAt dialect rest refusal.reason refusal.index
    × IsTrue (is_refused parts dialect refusal.reason)
    × (found ≡ moved (length text) (length rest) refusal)

abbrev pub IsSearched : RefusedParts → Dialect → Text → Option RefusedPart → Type 0
IsSearched parts dialect text None = IsRight parts dialect text
IsSearched parts dialect text (Some refusal) = IsRefusedFirst parts dialect text refusal
