-- What is reported in a whole run.
use Rattle.std.specs.Prelude.{◌≡◌, Bool, List, [], ◌∷◌, codes, Option, Some, None, ⊤}
use denote.Ref.{Bor}
use Rattle.timefd_lang_component.specs.Tree.{Text}
use Rattle.timefd_lint_drawing.specs.declared.position.Origin.{Origin}
use Rattle.timefd_lint_drawing.specs.People.{for_people}
use Rattle.timefd_parse.specs.declared.parsing.BorrowedOutput.{BorrowedOutput}
use Rattle.timefd_format.specs.declared.column.Column.{Column}
use Rattle.timefd_format.specs.declared.end.RunOutcome.{RunOutcome}
use Rattle.timefd_format.specs.declared.end.RunOutcome.TheVariants as ends
use Rattle.timefd_format.specs.declared.language.Languages.{Languages}
use Rattle.timefd_format.specs.declared.message.Manner.{Manner}
use Rattle.timefd_format.specs.declared.outcome.WordTally.{WordTally}
use Rattle.timefd_format.specs.declared.source.Clocks.{Clocks}
use Rattle.timefd_format.specs.declared.source.MomentSource.{MomentSource}
use Rattle.timefd_format.specs.declared.warned.Texts.{Texts}
use Rattle.timefd_format.specs.declared.warned.Warned.{Warned}
use Rattle.timefd_format.specs.Descriptions.{IsDescribed}
use Rattle.timefd_format.specs.LineReports.{ReportsLines, ReportsWords}
use Rattle.timefd_format.specs.Reports.{Gets}
use Rattle.timefd_format.specs.Sources.{IsSourceOf}
use Rattle.timefd_format.specs.TableReports.{ReportsTable}
use Rattle.timefd_format.specs.Warned.{IsNamed, warned_text}

-- The reports are on the input's lines, or on the records of a table if a column is asked for.
abbrev pub ReportsInput : Option Column → MomentSource → BorrowedOutput → Option Text → Option Text → Option Text → Bool
    → Bool → WordTally → Type 0
ReportsInput None source o input before after had_failed failed tally =
    ReportsLines source o tally.has_failed input before after had_failed failed
ReportsInput (Some column) source o input before after had_failed failed tally =
    ReportsTable source o column tally.has_failed input before after had_failed failed

-- The reports are on the words, or on the input if there is no word.
abbrev pub ReportsMoments : Option Column → MomentSource → BorrowedOutput → List Text → Option Text → Option Text
    → Option Text → Bool → Bool → WordTally → Type 0
ReportsMoments column source o [] input before after had_failed failed tally =
    ReportsInput column source o input before after had_failed failed tally
ReportsMoments column source o (word ∷ words) input before after had_failed failed tally =
    ReportsWords source o (word ∷ words) before after had_failed failed

-- The stream of messages gets the warnings about two descriptions.
abbrev pub GetsWarnings : Bool → Texts → Warned → Option Text → Option Text → Bool → Bool → Type 0
GetsWarnings colored texts warned before after had_failed failed = (read : Origin) × (written : Origin)
    × IsNamed (codes "<read>") read × IsNamed (codes "<description>") written
    × Gets (for_people colored (warned_text colored read written texts warned)) before after had_failed failed

-- The warnings about the descriptions come first, and the messages on moments after them. Nothing is said here of a
-- description that is refused.
abbrev pub ReportsRunFrom : Option Column → MomentSource → Bool → Languages → Option (Bor Text) → Bor Text → List Text
    → Option Text → Option Text → Option Text → Bool → Bool → RunOutcome → Type 0
ReportsRunFrom column source colored languages read text words input before after had_failed failed ends.Refused = ⊤
ReportsRunFrom column source colored languages read text words input before after had_failed failed
    (ends.Done warned tally) =
    (o : BorrowedOutput) × (between : Option Text) × (has_failed : Bool) × IsDescribed languages.written text.now o
    × GetsWarnings colored (record { read = read; written = text }) warned before between had_failed has_failed
    × ReportsMoments column source o words input between after has_failed failed tally

-- The same of a run whose descriptions are given as texts.
abbrev pub ReportsRun : Option Column → Clocks → Bool → Languages → Option (Bor Text) → Bor Text → List Text
    → Option Text → Option Text → Option Text → Bool → Bool → RunOutcome → Type 0
ReportsRun column clocks colored languages read text words input before after had_failed failed ends.Refused = ⊤
ReportsRun column clocks colored languages read text words input before after had_failed failed
    (ends.Done warned tally) =
    (source : MomentSource) × IsSourceOf clocks languages.read read (Some source)
    × ReportsRunFrom column source colored languages read text words input before after had_failed failed
    (ends.Done warned tally)
