-- What is reported on the standard error with a status.
use Rattle.std.specs.Prelude.{ℕ, ◌≡◌, ◌⊎◌, ◌++◌, nat_eq, if◌then◌else◌, Bool, true, false, Option, Some, None, codes, string_bytes}
use Rattle.timefd_parse.specs.Tree.{Text}
use Rattle.timefd_lint.specs.declared.config.ConfigFailure.{ConfigFailure}
use Rattle.timefd_lint.specs.declared.config.ConfigFailure.TheVariants.{Memory, Wrong}
use Rattle.timefd_lint.specs.Fates.{Reports}

-- a sentence in a line of its own, after the name of the program
abbrev pub line_of : Text → Text
line_of sentence = codes "timefd_lint: " ++ (sentence ++ codes "\n")

-- The line of a sentence reaches people, unless their stream fails.
abbrev pub IsTold : Text → Option Text → Option Text → Bool → Type 0
IsTold sentence before after has_failed = Reports before after has_failed (line_of sentence)

-- There is something to report, or nothing is written.
abbrev pub IsToldIf : Option Text → Option Text → Option Text → Bool → Type 0
IsToldIf (Some sentence) before after has_failed = IsTold sentence before after has_failed
IsToldIf None before after has_failed = after ≡ before

-- This status comes with this sentence.
abbrev pub IsStatus : ℕ → Text → Option Text → Option Text → Bool → ℕ → Type 0
IsStatus expected sentence before after has_failed status =
    (status ≡ expected) × IsTold sentence before after has_failed

abbrev pub IsNoMemory : Option Text → Option Text → Bool → ℕ → Type 0
IsNoMemory before after has_failed status = IsStatus 3 (codes "memory ran out") before after has_failed status

-- This status comes with such a sentence, or memory ran out, and that is reported.
abbrev pub IsStatusOr : ℕ → (Text → Type 0) → Option Text → Option Text → Bool → ℕ → Type 0
IsStatusOr expected Is before after has_failed status =
    ((sentence : Text) × Is sentence × IsStatus expected sentence before after has_failed status)
    ⊎ IsNoMemory before after has_failed status

-- Why a run has no settings.
abbrev pub IsUnsetStatus : ConfigFailure → Option Text → Option Text → Bool → ℕ → Type 0
IsUnsetStatus Memory before after has_failed status = IsNoMemory before after has_failed status
IsUnsetStatus (Wrong sentence) before after has_failed status =
    IsStatus 2 (string_bytes sentence) before after has_failed status

-- what fails of a file: only a run that rewrites files writes any
abbrev pub file_sentence : Bool → Text
file_sentence true = codes "a file can't be read, or not be written back"
file_sentence false = codes "a file can't be read"

-- why the status of a finished run is no verdict, if it is none
abbrev pub failed_sentence : Bool → ℕ → Option Text
failed_sentence rewrites status = if nat_eq status 4 then Some (file_sentence rewrites)
    else if nat_eq status 5 then Some (codes "a line isn't UTF-8") else None
