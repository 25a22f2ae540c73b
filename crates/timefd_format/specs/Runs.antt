-- What a whole run comes to.
use Rattle.std.specs.Prelude.{◌≡◌, ◌⊎◌, Bool, false, List, [], ◌∷◌, Option, Some, None}
use denote.Ref.{Bor}
use Rattle.timefd_lang_component.specs.Tree.{Text}
use Rattle.timefd_parse.specs.declared.parsing.BorrowedOutput.{BorrowedOutput}
use Rattle.timefd_format.specs.declared.column.Column.{Column}
use Rattle.timefd_format.specs.declared.end.RunOutcome.{RunOutcome}
use Rattle.timefd_format.specs.declared.end.RunOutcome.TheVariants as ends
use Rattle.timefd_format.specs.declared.language.Languages.{Languages}
use Rattle.timefd_format.specs.declared.otherwise.Otherwise.{Otherwise}
use Rattle.timefd_format.specs.declared.outcome.WordTally.{WordTally}
use Rattle.timefd_format.specs.declared.source.Clocks.{Clocks}
use Rattle.timefd_format.specs.declared.source.MomentSource.{MomentSource}
use Rattle.timefd_format.specs.Descriptions.{IsDescribed}
use Rattle.timefd_format.specs.Sources.{IsFaulty, IsSourceOf}
use Rattle.timefd_format.specs.Tables.{IsTable}
use Rattle.timefd_format.specs.Warned.{warned_by}
use Rattle.timefd_format.specs.Written.{Runs, RunsOver}

-- The moments are those of the input's lines, or those of a column if one is asked for.
abbrev pub IsInputRun : Option Column → Otherwise → MomentSource → BorrowedOutput → Option Text → Option Text
    → Option Text → WordTally → Type 0
IsInputRun None otherwise source o input before after tally =
    RunsOver otherwise source o input before after tally
IsInputRun (Some column) otherwise source o input before after tally =
    IsTable otherwise source o column input before after tally

-- The moments are those of the words, or those of the input if there is no word.
abbrev pub IsRunOf : Option Column → Otherwise → MomentSource → BorrowedOutput → List Text → Option Text
    → Option Text → Option Text → WordTally → Type 0
IsRunOf column otherwise source o [] input before after tally =
    IsInputRun column otherwise source o input before after tally
IsRunOf column otherwise source o (word ∷ words) input before after tally =
    Runs false otherwise source o (word ∷ words) before after tally

-- The run goes by the description that the text spells. If that is refused, nothing is written. The warnings
-- that are reported are those of the descriptions, unless they are left out.
abbrev pub IsRunFrom : Option Column → Otherwise → MomentSource → Bool → Languages → Text → List Text → Option Text → Option Text
    → Option Text → RunOutcome → Type 0
IsRunFrom column otherwise source quiet languages text words input before after ends.Refused =
    IsFaulty languages.written text × (after ≡ before)
IsRunFrom column otherwise source quiet languages text words input before after (ends.Done warned tally) =
    (o : BorrowedOutput) × IsDescribed languages.written text o
    × (warned ≡ warned_by quiet languages source o)
    × IsRunOf column otherwise source o words input before after tally

-- If the description to read by is refused, nothing is written.
abbrev pub IsRun : Option Column → Otherwise → Clocks → Bool → Languages → Option (Bor Text) → Text → List Text
    → Option Text → Option Text → Option Text → RunOutcome → Type 0
IsRun column otherwise clocks quiet languages read text words input before after end =
    (IsSourceOf clocks languages.read read None × (after ≡ before) × (end ≡ ends.Refused))
    ⊎ ((source : MomentSource) × IsSourceOf clocks languages.read read (Some source)
    × IsRunFrom column otherwise source quiet languages text words input before after end)
