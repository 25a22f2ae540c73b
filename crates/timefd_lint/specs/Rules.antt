-- The rules of a log: one for each code that a result may have.
use Rattle.std.specs.Prelude.{◌≡◌, List, [], ◌∷◌, ◌++◌, codes}
use Rattle.timefd_parse.specs.Tree.{Text}
use Rattle.timefd_parse.specs.Code.{Code}
use Rattle.timefd_parse.specs.Codes as faults
use Rattle.timefd_lint_drawing.specs.Json.{quoted}
use Rattle.timefd_lint_lsp.specs.Editor.Each.{AreOf}
use Rattle.timefd_lint.specs.declared.error_code.ErrorCode.{ErrorCode}
use Rattle.timefd_lint.specs.declared.error_code.ErrorCode.TheVariants.{Fault, NotText, Unreadable, Unwritable, ByteOrderMark, UnknownLanguage, UnknownCode}
use Rattle.timefd_lint.specs.ErrorCodes.{name_of}
use Rattle.timefd_lang_dialect.specs.declared.reason.Reason.{Reason}
use Rattle.timefd_lang_dialect.specs.declared.trap.Trap.{Trap}
use Rattle.timefd_lang_dialect.specs.declared.trap.Trap.TheVariants.{WeekYearBesideMonth, DayOfYearBesideMonth, MinuteBesideDay, SecondBeforeMinute, TwoLetterWeekday, WeekdayFromZero, Panic, YearWithoutCentury}
use Rattle.timefd_lang_dialect.specs.Reasons as reasons
use Rattle.timefd_lang_dialect.specs.TrapWords as traps
use Rattle.timefd_lint_warnings.specs.Dialects.Codes.{all_reasons}
use Rattle.timefd_lang_warnings.specs.declared.warning.Warning.{Warning}
use Rattle.timefd_lang_warnings.specs.Codes as warnings
use Rattle.timefd_lang_warnings.specs.Explanations.{explanation_of}

-- A rule begins with a comma, its name, and how bad a result of it is.
abbrev pub rule_front : Text → Text → Text
rule_front name level =
    (codes ",{\"id\":" ++ quoted name) ++ (codes ",\"defaultConfiguration\":{\"level\":" ++ quoted level)

-- Then follow what it is in a few words, and what it means.
abbrev pub rule_words : Text → Text → Text
rule_words summary explanation =
    (codes "},\"shortDescription\":{\"text\":" ++ quoted summary)
    ++ ((codes "},\"help\":{\"text\":" ++ quoted explanation) ++ codes "}}\n")

abbrev pub rule : Text → Text → Text → Text → Text
rule name level summary explanation = rule_front name level ++ rule_words summary explanation

-- the rule of an error, with some words on it
abbrev pub IsErrorRule : ErrorCode → Text → Type 0
IsErrorRule code text =
    (summary explanation : Text) × (text ≡ rule (name_of code) (codes "error") summary explanation)

abbrev pub IsFaultRule : Code → Text → Type 0
IsFaultRule code text = IsErrorRule (Fault code) text

abbrev pub IsWarningRule : Warning → Text → Type 0
IsWarningRule w text =
    text ≡ rule (warnings.name_of w) (codes "warning") (warnings.sentence_of w) (explanation_of w)

-- the errors that aren't faults of a description
abbrev pub others : List ErrorCode
others = NotText ∷ Unreadable ∷ Unwritable ∷ ByteOrderMark ∷ UnknownLanguage ∷ UnknownCode ∷ []

abbrev pub IsReasonRule : Reason → Text → Type 0
IsReasonRule r text = text ≡ rule (reasons.name r) (codes "error") (reasons.sentence r) (reasons.cure r)

abbrev pub IsTrapRule : Trap → Text → Type 0
IsTrapRule t text = text ≡ rule (traps.name t) (codes "warning") (traps.sentence t) (traps.cure t)

-- the traps without the one whose code a warning has too
abbrev pub own_traps : List Trap
own_traps =
    WeekYearBesideMonth ∷ DayOfYearBesideMonth ∷ MinuteBesideDay ∷ SecondBeforeMinute ∷ TwoLetterWeekday
    ∷ WeekdayFromZero ∷ Panic ∷ YearWithoutCentury ∷ []

-- The rules of what is reported of formats of other languages: of what is refused, and of traps.
pub record AreOtherRules (text : Text) : Type 0 where
  pub reasons_text : Text
  pub traps_text : Text
  pub refused : AreOf IsReasonRule all_reasons reasons_text
  pub trapped : AreOf IsTrapRule own_traps traps_text
  pub whole : text ≡ reasons_text ++ traps_text

-- All rules: those of faults, of other errors, of warnings, and of formats of other languages.
pub record AreRules (text : Text) : Type 0 where
  pub faults_text : Text
  pub others_text : Text
  pub warnings_text : Text
  pub dialects_text : Text
  pub faults : AreOf IsFaultRule faults.all faults_text
  pub errors : AreOf IsErrorRule others others_text
  pub warned : AreOf IsWarningRule warnings.all warnings_text
  pub dialects : AreOtherRules dialects_text
  pub whole : text ≡ faults_text ++ (others_text ++ (warnings_text ++ dialects_text))
