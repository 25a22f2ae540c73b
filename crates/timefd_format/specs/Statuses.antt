-- What people are shown with a status.
use Rattle.std.specs.Prelude.{ℕ, ◌≡◌, ◌⊎◌, ◌≤◌, nat_eq, Bool, true, false, Option, codes, chars, IsTrue}
use Rattle.std.specs.Io.KnownBytes.{Appends}
use Rattle.timefd_lang_component.specs.Tree.{Text}
use Rattle.timefd_lint_drawing.specs.People.{AllSeen, for_people}
use Rattle.timefd_format.specs.declared.guess_run.GuessEnd.{GuessEnd}
use Rattle.timefd_format.specs.declared.guess_run.GuessEnd.TheVariants as guesses
use Rattle.timefd_format.specs.Reports.{line_of}

-- The sentence is written in a line of its own as people see it, and all of that is seen, unless the stream fails.
abbrev pub IsShown : Text → Option Text → Option Text → Bool → Type 0
IsShown sentence before after has_failed = (Appends before after (for_people false (line_of sentence))
    × AllSeen false (chars (for_people false (line_of sentence)))) ⊎ IsTrue has_failed

-- That memory ran out is written byte by byte, unless the stream fails.
abbrev pub IsNoMemory : Option Text → Option Text → Bool → ℕ → Type 0
IsNoMemory before after has_failed status =
    (status ≡ 3) × (Appends before after (line_of (codes "memory ran out")) ⊎ IsTrue has_failed)

-- This status comes with this sentence, or memory ran out.
abbrev pub IsStatus : ℕ → Text → Option Text → Option Text → Bool → ℕ → Type 0
IsStatus expected sentence before after has_failed status =
    ((status ≡ expected) × IsShown sentence before after has_failed) ⊎ IsNoMemory before after has_failed status

-- This status comes with no sentence.
abbrev pub IsSilent : ℕ → Option Text → Option Text → ℕ → Type 0
IsSilent expected before after status = (status ≡ expected) × (after ≡ before)

-- A text is written, or its output fails and that is reported.
abbrev pub IsWrittenStatus : Text → Option Text → Option Text → Bool → Option Text → Option Text → Bool → ℕ → Type 0
IsWrittenStatus text written written_then output_fails before after has_failed status =
    (Appends written written_then text × IsSilent 0 before after status)
    ⊎ (IsTrue output_fails
    × IsStatus 4 (codes "the standard output can't be written") before after has_failed status)

-- That the input can't be read is reported; other statuses are passed on.
abbrev pub IsEndBy : Bool → ℕ → Option Text → Option Text → Bool → ℕ → Type 0
IsEndBy true end before after has_failed status =
    IsStatus 4 (codes "the standard input can't be read") before after has_failed status
IsEndBy false end before after has_failed status = IsSilent end before after status

abbrev pub IsEndStatus : ℕ → Option Text → Option Text → Bool → ℕ → Type 0
IsEndStatus end before after has_failed status = IsEndBy (nat_eq end 4) end before after has_failed status

-- the status of a run that looks for a description
abbrev pub IsGuessStatus : GuessEnd → Option Text → Option Text → Bool → ℕ → Type 0
IsGuessStatus guesses.Found before after has_failed status = IsSilent 0 before after status
IsGuessStatus guesses.NotFound before after has_failed status =
    IsStatus 1 (codes "no known description reads all texts") before after has_failed status
IsGuessStatus guesses.NoText before after has_failed status =
    IsStatus 1 (codes "there is no text to find a description of") before after has_failed status
IsGuessStatus guesses.NotText before after has_failed status =
    IsStatus 5 (codes "a line isn't UTF-8") before after has_failed status
IsGuessStatus guesses.Memory before after has_failed status = IsNoMemory before after has_failed status
IsGuessStatus guesses.Read before after has_failed status =
    IsStatus 4 (codes "the standard input can't be read") before after has_failed status
IsGuessStatus guesses.Write before after has_failed status =
    IsStatus 4 (codes "the standard output can't be written") before after has_failed status

-- It is one of the statuses that the program has.
abbrev pub IsOneOfSix : ℕ → Type 0
IsOneOfSix status = status ≤ 5
