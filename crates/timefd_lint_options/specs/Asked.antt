-- What the arguments ask for, read from the first to the last.
use Rattle.std.specs.Prelude.{List, [], ◌∷◌, Option, Some, None, Result, Ok, Err}
use denote.Ref.{Bor}
use Rattle.timefd_parse.specs.Tree.{Text}
use Rattle.timefd_lint_options.specs.declared.asked.AskedRun.{AskedRun}
use Rattle.timefd_lint_options.specs.declared.asked.AskedRun.TheVariants as asks
use Rattle.timefd_lint_options.specs.declared.asked.ParsedSoFar.{ParsedSoFar}
use Rattle.timefd_lint_options.specs.declared.asked.ArgumentStep.{ArgumentStep}
use Rattle.timefd_lint_options.specs.declared.asked.ArgumentStep.TheVariants.{Next, Done}
use Rattle.timefd_lint_options.specs.declared.error.Conflict.{Conflict}
use Rattle.timefd_lint_options.specs.declared.error.OptionError.{OptionError}
use Rattle.timefd_lint_options.specs.declared.error.OptionError.TheVariants as errors
use Rattle.timefd_lint_options.specs.declared.names.NamedFiles.{NamedFiles}
use Rattle.timefd_lint_options.specs.declared.settings.RunSettings.{RunSettings}
use Rattle.timefd_lint_options.specs.declared.word.Valued.{Valued}
use Rattle.timefd_lint_options.specs.declared.word.Word.{Word}
use Rattle.timefd_lint_options.specs.declared.word.Word.TheVariants.{Flag, Valued as HasValue, Help, Version, End, Unknown, File}
use Rattle.timefd_lint_options.specs.Conflicts.{conflict}
use Rattle.timefd_lint_options.specs.Names.{names_from, names_of}
use Rattle.timefd_lint_options.specs.Settings.{initial, with_flag, with_value}
use Rattle.timefd_lint_options.specs.Words.{word_of}

abbrev pub Answer : Type 0
Answer = Result AskedRun OptionError

abbrev pub unless : Option Conflict → RunSettings → NamedFiles → Answer
unless (Some conflict) s names = Err (errors.Conflict conflict)
unless None s names = Ok (asks.Run (record { settings = s; file_count = names.count }))

abbrev pub run : RunSettings → NamedFiles → Answer
run s names = unless (conflict s names) s names

abbrev pub first_by : Word → RunSettings → Bor Text → List (Bor Text) → ArgumentStep
first_by (Flag flag) s word after = Next (record { settings = with_flag s flag; pending = None })
first_by (HasValue option) s word after = Next (record { settings = s; pending = Some option })
first_by Help s word after = Done (Ok asks.Help)
first_by Version s word after = Done (Ok asks.Version)
first_by End s word after = Done (run s (names_of after))
first_by Unknown s word after = Done (Err (errors.Unknown word))
first_by File s word after = Done (run s (names_from word.now after))

abbrev pub first : RunSettings → Bor Text → List (Bor Text) → ArgumentStep
first s word after = first_by (word_of word.now) s word after

abbrev pub valued_by : Result RunSettings OptionError → ArgumentStep
valued_by (Ok s) = Next (record { settings = s; pending = None })
valued_by (Err e) = Done (Err e)

abbrev pub valued : RunSettings → Valued → Bor Text → ArgumentStep
valued s option word = valued_by (with_value s option word)

abbrev pub step_by : Option Valued → RunSettings → Bor Text → List (Bor Text) → ArgumentStep
step_by (Some option) s word after = valued s option word
step_by None s word after = first s word after

-- What one more word leads to.
abbrev pub one_more : ParsedSoFar → Bor Text → List (Bor Text) → ArgumentStep
one_more state word after = step_by state.pending state.settings word after

abbrev pub at_end_by : Option Valued → RunSettings → Answer
at_end_by (Some option) s = Err (errors.MissingValue option)
at_end_by None s = run s (names_of [])

abbrev pub at_end : ParsedSoFar → Answer
at_end state = at_end_by state.pending state.settings

abbrev pub go : (ParsedSoFar → Answer) → ArgumentStep → Answer
go more (Next state) = more state
go more (Done answer) = answer

abbrev pub asked_from : ParsedSoFar → List (Bor Text) → Answer
asked_from state [] = at_end state
asked_from state (word ∷ after) = go (λ s. asked_from s after) (one_more state word after)

-- What all words ask for.
abbrev pub options_of : List (Bor Text) → Answer
options_of words = asked_from (record { settings = initial; pending = None }) words
