-- Where a source says the version of a description.
use Rattle.std.specs.Prelude.{ℕ, ◌≡◌, ◌<◌, ◌+◌, ◌∷◌, drop, Option, Some, None, ⊤}
use Rattle.timefd_lint_scan.specs.declared.dialect.FormatLanguage.{FormatLanguage}
use Rattle.timefd_lint_scan.specs.declared.dialect.FormatLanguage.TheVariants.{One, Two, Three, Strftime, Python, C, Gnu, Chrono, Jiff, Ruby, Java, Go, Moment}
use Rattle.timefd_lint_scan.specs.declared.piece.PlacedToken.{PlacedToken}
use Rattle.timefd_lint_scan.specs.declared.version.VersionPosition.{VersionPosition}
use Rattle.timefd_lint_scan.specs.declared.version.VersionPosition.TheVariants.{Digit, Unsaid, Call, Elsewhere}
use Rattle.timefd_lint_scan.specs.Bytes.{Text}

abbrev pub digit_of : FormatLanguage → Option ℕ
digit_of One = Some 49
digit_of Two = Some 50
digit_of Three = Some 51
digit_of Strftime = None
digit_of Python = None
digit_of C = None
digit_of Gnu = None
digit_of Chrono = None
digit_of Jiff = None
digit_of Ruby = None
digit_of Java = None
digit_of Go = None
digit_of Moment = None

-- the version of a description if none is said
abbrev pub unsaid : FormatLanguage
unsaid = One

-- The digit of the version is at a position before the literal.
pub record IsDigitAt (source : Text) (p : PlacedToken) (dialect : FormatLanguage) (at : ℕ) : Type 0 where
  pub before : at < p.start
  pub digit : ℕ
  pub is : digit_of dialect ≡ Some digit
  pub stands : drop at source ≡ digit ∷ drop (at + 1) source

abbrev pub IsSaid : Text → PlacedToken → FormatLanguage → VersionPosition → Type 0
IsSaid source p dialect (Digit at) = IsDigitAt source p dialect at
IsSaid source p dialect Unsaid = dialect ≡ unsaid
IsSaid source p dialect Call = ⊤
IsSaid source p dialect Elsewhere = ⊤

-- the first position that belongs to a description whose literal begins at `start`
abbrev pub first_position : VersionPosition → ℕ → ℕ
first_position (Digit at) start = at
first_position Unsaid start = start
first_position Call start = start
first_position Elsewhere start = start
