-- What a run reports about each named file, in order, and what it reads from the standard input.
use Rattle.std.specs.Prelude.{◌≡◌, ◌⊎◌, codes, Bool, true, false, List, [], ◌∷◌, Option}
use Rattle.std.specs.Io.KnownBytes.{Appends}
use denote.Ref.{Bor}
use Rattle.timefd_parse.specs.Tree.{Text}
use Rattle.timefd_lint_options.specs.Words.{is_input}
use Rattle.timefd_lint.specs.declared.failure.OpenError.{OpenError}
use Rattle.timefd_lint.specs.declared.failure.OpenError.TheVariants.{Memory, Failed}
use Rattle.timefd_lint.specs.declared.line.TextEnd.TheVariants as ends
use Rattle.timefd_lint.specs.declared.options.RunOptions.{RunOptions}
use Rattle.timefd_lint.specs.declared.tally.LintTally.{LintTally}
use Rattle.timefd_lint.specs.Failures.{note_of}
use Rattle.timefd_lint.specs.Sources.{IsRunOfSource, finder_of, is_source}
use Rattle.timefd_lint.specs.Reported.{IsRunOn, tally_of_one, both}

-- the name that reports use for the standard input
abbrev pub input_name : Text
input_name = codes "<stdin>"

-- The report on all bytes of a reader, under this file name: as a source, or as the options ask.
abbrev pub IsRunAs : Bool → RunOptions → Text → Option Text → Option Text → Bool → Option Text → Option Text
    → LintTally → Type 0
IsRunAs true options file bytes rest has_failed before after tally =
    IsRunOfSource (finder_of options file) options.reporting file bytes rest has_failed before after tally
IsRunAs false options file bytes rest has_failed before after tally =
    IsRunOn options.is_whole options.language options.comment options.reporting file bytes rest has_failed
    before after tally

-- The name decides whether it is a source.
abbrev pub IsRunIn : RunOptions → Text → Option Text → Option Text → Bool → Option Text → Option Text → LintTally
    → Type 0
IsRunIn options file bytes rest has_failed before after tally =
    IsRunAs (is_source options file) options file bytes rest has_failed before after tally

-- For a file that isn't opened, the note on why is written, under its name, and nothing else.
abbrev pub IsNoted : RunOptions → Bor Text → OpenError → Option Text → Option Text → LintTally → Type 0
IsNoted options name Memory before after tally = ⊥
IsNoted options name (Failed failure) before after tally =
    Appends before after (note_of options.reporting.style name failure)
    × (tally ≡ tally_of_one ends.Failed)

-- A file of this type may have failed, or not.
abbrev pub MayHaveFailed : {Opened : Type 0} → (Opened → Bool) → Bool → Type 0
MayHaveFailed {Opened} failed has_failed = (file : Opened) × (failed file ≡ has_failed)

-- A file may have these bytes when it is opened, and have failed, or not, after it is read.
abbrev pub IsOpenedBy : {Opened : Type 0} → (Text → Option Text → Type 0) → (Opened → Bool)
    → Text → Option Text → Bool → Type 0
IsOpenedBy opens failed name bytes has_failed = opens name bytes × MayHaveFailed failed has_failed

-- The file was opened once, and the report is about what it had at that time.
abbrev pub IsOpened : (Option Text → Bool → Type 0) → RunOptions → Text → Option Text → Option Text → LintTally
    → Type 0
IsOpened opens options file before after tally =
    (bytes : Option Text) × (rest : Option Text) × (has_failed : Bool) × opens bytes has_failed
    × IsRunIn options file bytes rest has_failed before after tally

-- The file couldn't be opened, and the report says so.
abbrev pub IsUnopened : (OpenError → Type 0) → RunOptions → Bor Text → Option Text → Option Text
    → LintTally → Type 0
IsUnopened fails options name before after tally =
    (error : OpenError) × fails error × IsNoted options name error before after tally

abbrev pub IsRunOfFile : (Option Text → Bool → Type 0) → (OpenError → Type 0) → RunOptions → Bor Text
    → Option Text → Option Text → LintTally → Type 0
IsRunOfFile opens fails options name before after tally =
    IsOpened opens options name.now before after tally ⊎ IsUnopened fails options name before after tally

-- For the input, the report is about all that is left of it. Any other file leaves the input as it is.
abbrev pub IsRunOfInputOr : Bool → (Option Text → Bool → Type 0) → (OpenError → Type 0) → RunOptions
    → Bor Text → Option Text → Option Text → Bool → Option Text → Option Text → LintTally → Type 0
IsRunOfInputOr true opens fails options name input left has_failed before after tally =
    IsRunIn options input_name input left has_failed before after tally
IsRunOfInputOr false opens fails options name input left has_failed before after tally =
    (left ≡ input) × IsRunOfFile opens fails options name before after tally

-- The name decides whether it is the input.
abbrev pub IsRunOfName : (Text → Option Text → Bool → Type 0) → (Text → OpenError → Type 0) → RunOptions
    → Bor Text → Option Text → Option Text → Bool → Option Text → Option Text → LintTally → Type 0
IsRunOfName opens fails options name input left has_failed before after tally =
    IsRunOfInputOr (is_input name.now) (opens name.now) (fails name.now) options name input left has_failed
    before after tally

-- The first name, then the others. Between them: what is left of the input, and what is written. The input has
-- failed in the end, or it hasn't.
abbrev pub IsRunOfNames : (Text → Option Text → Bool → Type 0) → (Text → OpenError → Type 0) → RunOptions
    → List (Bor Text) → LintTally → Option Text → Option Text → Bool → Option Text → Option Text → LintTally
    → Type 0
IsRunOfNames opens fails options [] found input left has_failed before after tally =
    (left ≡ input) × (after ≡ before) × (tally ≡ found)
IsRunOfNames opens fails options (name ∷ names) found input left has_failed before after tally =
    (one : LintTally) × (rest : Option Text) × (between : Option Text)
    × IsRunOfName opens fails options name input rest has_failed before between one
    × IsRunOfNames opens fails options names (both found one) rest left has_failed between after tally
