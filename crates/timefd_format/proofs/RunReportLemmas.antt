-- What is reported in a whole run.
use Rattle.std.proofs.Common.{◌≡◌, Bool, List, codes, Option, Some, None, Result, Ok, Err, IfOk, subst}
use denote.Ref.{Bor}
use Rattle.timefd_lang_component.specs.Tree.{Text}
use Rattle.timefd_lint_drawing.specs.declared.position.Origin.{Origin}
use Rattle.timefd_lint_drawing.specs.People.{for_people}
use Rattle.timefd_parse.specs.declared.parsing.BorrowedOutput.{BorrowedOutput}
use Rattle.timefd_format.specs.declared.column.Column.{Column}
use Rattle.timefd_format.specs.declared.description.DescriptionReading.{DescriptionReading}
use Rattle.timefd_format.specs.declared.description.DescriptionReading.TheVariants as readings
use Rattle.timefd_format.specs.declared.end.RunOutcome.{RunOutcome}
use Rattle.timefd_format.specs.declared.end.RunOutcome.TheVariants as ends
use Rattle.timefd_format.specs.declared.language.Languages.{Languages}
use Rattle.timefd_format.specs.declared.outcome.RunError.{RunError}
use Rattle.timefd_format.specs.declared.outcome.WordTally.{WordTally}
use Rattle.timefd_format.specs.declared.source.Clocks.{Clocks}
use Rattle.timefd_format.specs.declared.source.MomentSource.{MomentSource}
use Rattle.timefd_format.specs.declared.warned.Texts.{Texts}
use Rattle.timefd_format.specs.declared.warned.Warned.{Warned}
use Rattle.timefd_format.specs.Descriptions.{IsReading}
use Rattle.timefd_format.specs.Reports.{Gets}
use Rattle.timefd_format.specs.RunReports.{GetsWarnings, ReportsMoments, ReportsRun, ReportsRunFrom}
use Rattle.timefd_format.specs.Sources.{IsSilentOn, IsSourceOf}
use Rattle.timefd_format.specs.Warned.{IsNamed, warned_text}

pub gets_warnings : (colored : Bool) (texts : Texts) (w : Warned) (before after : Option Text)
    (had_failed failed : Bool) (read written : Origin) (text : Text) → IsNamed (codes "<read>") read
    → IsNamed (codes "<description>") written → text ≡ warned_text colored read written texts w
    → Gets (for_people colored text) before after had_failed failed
    → GetsWarnings colored texts w before after had_failed failed
gets_warnings colored texts w before after had_failed failed read written text of_read of_written is gets =
    (read, written, of_read, of_written, subst (λ t. Gets (for_people colored t) before after had_failed failed) is gets)

pub ran : (column : Option Column) (source : MomentSource) (colored : Bool) (languages : Languages)
    (read : Option (Bor Text)) (text : Bor Text) (words : List Text) (input before between after : Option Text)
    (had_failed has_failed failed : Bool) (r : DescriptionReading) (o : BorrowedOutput) (warned : Warned) (tally : WordTally)
    → r ≡ readings.Description o → IsReading languages.written text.now r
    → GetsWarnings colored (record { read = read; written = text }) warned before between had_failed has_failed
    → ReportsMoments column source o words input between after has_failed failed tally
    → ReportsRunFrom column source colored languages read text words input before after had_failed failed
    (ends.Done warned tally)
ran column source colored languages read text words input before between after had_failed has_failed failed r o warned
    tally is reading warnings moments =
    (o, between, has_failed, subst (λ x. IsReading languages.written text.now x) is reading, warnings, moments)

pub run_reported : (column : Option Column) (clocks : Clocks) (source : MomentSource) (colored : Bool) (languages : Languages)
    (read : Option (Bor Text)) (text : Bor Text) (words : List Text) (input before between after : Option Text)
    (had_failed has_failed failed : Bool) (found : Option MomentSource) (r : Result RunOutcome RunError)
    → found ≡ Some source → IsSourceOf clocks languages.read read found
    → IsSilentOn before between had_failed has_failed found
    → IfOk r (ReportsRunFrom column source colored languages read text words input between after has_failed failed)
    → IfOk r (ReportsRun column clocks colored languages read text words input before after had_failed failed)
run_reported column clocks source colored languages read text words input before between after had_failed has_failed failed
    found (Err e) is of_text silent reported = tt
run_reported column clocks source colored languages read text words input before between after had_failed has_failed failed
    found (Ok ends.Refused) is of_text silent reported = tt
run_reported column clocks source colored languages read text words input before between after had_failed has_failed failed
    found (Ok (ends.Done warned tally)) is of_text silent reported =
    let same : (between ≡ before) × (has_failed ≡ had_failed) =
    subst (λ x. IsSilentOn before between had_failed has_failed x) is silent in (
      source,
      subst (λ x. IsSourceOf clocks languages.read read x) is of_text,
      subst (λ f. ReportsRunFrom column source colored languages read text words input before after f failed
          (ends.Done warned tally)) same.1
          (subst (λ b. ReportsRunFrom column source colored languages read text words input b after has_failed failed
          (ends.Done warned tally)) same.0 reported),
    )
