-- What is reported about one text.
use Rattle.std.proofs.Common.{◌≡◌, Option, Result, refl, sym, subst}
use Rattle.std.specs.Prelude.{IfOk, OnOk, Ok, Err, IsUtf8}
use Rattle.std.specs.Io.KnownBytes.{Appends}
use Rattle.timefd_parse.specs.Tree.{Text}
use Rattle.timefd_lint_options.specs.declared.wording.LineLanguage.{LineLanguage}
use Rattle.timefd_lint_drawing.specs.declared.draw.Style.{Style}
use Rattle.timefd_lint_drawing.specs.declared.position.Origin.{Origin}
use Rattle.timefd_lint_sources.specs.declared.reported.Reporting.{Reporting}
use Rattle.timefd_lint_sources.specs.declared.judgement.TextPlace.{TextPlace}
use Rattle.timefd_lint_sources.specs.declared.judgement.TextJudgement.{TextJudgement}
use Rattle.timefd_lint_sources.specs.declared.judgement.TextJudgement.TheVariants as judgements
use Rattle.timefd_lint_sources.specs.Judgements.{IsJudgement}
use Rattle.timefd_lint_sources.specs.Whole.{no_text_note}
use Rattle.timefd_lint.specs.declared.line.LintError.{LintError}
use Rattle.timefd_lint.specs.declared.line.TextEnd.{TextEnd}
use Rattle.timefd_lint.specs.declared.line.TextEnd.TheVariants.{NotText}
use Rattle.timefd_lint.specs.Lines.{IsEndOf, end_of, place_of}
use Rattle.timefd_lint.specs.Reported.{IsDrawn, IsMessageOn, Says}

-- A text's end and its message are those of its bytes.
pub end_of_bytes : (language : LineLanguage) (reporting : Reporting) (bytes text : Text)
    (end : Result TextEnd LintError) → text ≡ bytes → IfOk end (IsEndOf language reporting text)
    → IfOk end (IsEndOf language reporting bytes)
end_of_bytes language reporting bytes text end same ended =
    subst (λ t. IfOk end (IsEndOf language reporting t)) same ended

pub said_of_bytes : (language : LineLanguage) (reporting : Reporting) (origin : Origin) (bytes text : Text)
    (before after : Option Text) (end : Result TextEnd LintError) → text ≡ bytes
    → IfOk end (λ e. Says language reporting origin text e before after)
    → IfOk end (λ e. Says language reporting origin bytes e before after)
said_of_bytes language reporting origin bytes text before after end same said =
    subst (λ t. IfOk end (λ e. Says language reporting origin t e before after)) same said

-- Bytes that aren't UTF-8.
pub no_text_is : (language : LineLanguage) (reporting : Reporting) (bytes : Text)
    (end : Result TextEnd LintError) → ¬ IsUtf8 bytes → IfOk end (λ e. e ≡ NotText)
    → IfOk end (IsEndOf language reporting bytes)
no_text_is language reporting bytes (Ok e) none is =
    subst (λ x. IsEndOf language reporting bytes x) (sym is) none
no_text_is language reporting bytes (Err e) none is = tt

pub no_text_written : (style : Style) (origin : Origin) (before after : Option Text) (message : Text)
    → message ≡ no_text_note style origin → Appends before after message
    → Appends before after (no_text_note style origin)
no_text_written style origin before after message is written =
    subst (λ m. Appends before after m) is written

pub no_text_said : (language : LineLanguage) (reporting : Reporting) (origin : Origin) (bytes : Text)
    (before after : Option Text) (end : Result TextEnd LintError) → IfOk end (λ e. e ≡ NotText)
    → OnOk end (Appends before after (no_text_note reporting.style origin))
    → IfOk end (λ e. Says language reporting origin bytes e before after)
no_text_said language reporting origin bytes before after (Ok e) is written =
    subst (λ x. Says language reporting origin bytes x before after) (sym is)
    (no_text_note reporting.style origin, refl, written)
no_text_said language reporting origin bytes before after (Err e) is written = tt

-- A text that is UTF-8 is judged.

ended_so : (language : LineLanguage) (reporting : Reporting) (text : Text) (judgement : TextJudgement) → IsUtf8 text
    → IsJudgement (place_of language) reporting.levels text judgement → IsEndOf language reporting text (end_of judgement)
ended_so language reporting text (judgements.Accepted by found) utf8 judged =
    (utf8, (judgements.Accepted by found, record { judged = judged; ends = refl }))
ended_so language reporting text (judgements.Faulty faults) utf8 judged =
    (utf8, (judgements.Faulty faults, record { judged = judged; ends = refl }))
ended_so language reporting text (judgements.Right traps) utf8 judged =
    (utf8, (judgements.Right traps, record { judged = judged; ends = refl }))
ended_so language reporting text (judgements.Refused part) utf8 judged =
    (utf8, (judgements.Refused part, record { judged = judged; ends = refl }))

pub ended : (language : LineLanguage) (reporting : Reporting) (place : TextPlace) (text : Text) (judgement : TextJudgement)
    (end : TextEnd) → IsUtf8 text → place ≡ place_of language → IsJudgement place reporting.levels text judgement
    → end ≡ end_of judgement → IsEndOf language reporting text end
ended language reporting place text judgement end utf8 there judged is =
    subst (IsEndOf language reporting text) (sym is) (ended_so language reporting text judgement utf8
    (subst (λ p. IsJudgement p reporting.levels text judgement) there judged))

said_so : (language : LineLanguage) (reporting : Reporting) (origin : Origin) (text : Text) (judgement : TextJudgement)
    (message : Text) → IsJudgement (place_of language) reporting.levels text judgement
    → IsDrawn reporting origin text judgement message → IsMessageOn language reporting origin text (end_of judgement) message
said_so language reporting origin text (judgements.Accepted by found) message judged drawn =
    (judgements.Accepted by found, record { judged = judged; ends = refl }, drawn)
said_so language reporting origin text (judgements.Faulty faults) message judged drawn =
    (judgements.Faulty faults, record { judged = judged; ends = refl }, drawn)
said_so language reporting origin text (judgements.Right traps) message judged drawn =
    (judgements.Right traps, record { judged = judged; ends = refl }, drawn)
said_so language reporting origin text (judgements.Refused part) message judged drawn =
    (judgements.Refused part, record { judged = judged; ends = refl }, drawn)

pub said : (language : LineLanguage) (reporting : Reporting) (origin : Origin) (place : TextPlace) (text : Text)
    (judgement : TextJudgement) (message bytes : Text) (before after : Option Text) (end : TextEnd)
    → place ≡ place_of language → IsJudgement place reporting.levels text judgement
    → IsDrawn reporting origin text judgement message → bytes ≡ message → Appends before after bytes
    → end ≡ end_of judgement → Says language reporting origin text end before after
said language reporting origin place text judgement message bytes before after end there judged drawn same written is = (
  message,
  subst (λ e. IsMessageOn language reporting origin text e message) (sym is)
      (said_so language reporting origin text judgement message
      (subst (λ p. IsJudgement p reporting.levels text judgement) there judged) drawn),
  subst (λ b. Appends before after b) same written,
)
