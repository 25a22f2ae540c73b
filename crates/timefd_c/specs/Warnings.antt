-- The answer to C about the warnings of a description.
use Rattle.std.specs.Prelude.{ℕ, ◌≡◌, ◌≢◌, ◌≤◌, ◌⊎◌, ◌++◌, List, [], ◌∷◌, Option, Some, None, IsSome, IsUtf8, drop, filter, flat_map, length, map, min, take}
use Rattle.timefd_c.specs.declared.answer.TheConstants.{ACCEPTED, REFUSED, NOT_UTF8, NO_MEMORY, UNKNOWN_KIND}
use Rattle.timefd_c.specs.declared.warning_fields.WarningFields.{WarningFields}
use Rattle.timefd_c.specs.declared.warning_fields.WarningsAnswer.{WarningsAnswer}
use Rattle.timefd_c.specs.Answers.{Describes, HasFault}
use Rattle.timefd_lang_component.specs.Tree.{Text, Tree}
use Rattle.timefd_parse.specs.Faults.{Fault}
use Rattle.timefd_lint_warnings.specs.Found.{style_of}
use Rattle.timefd_lang_node_list.specs.Leaves.{leaves_in}
use Rattle.timefd_language.specs.declared.description_version.Language.{Language}
use Rattle.timefd_parse.specs.Language.{amount}
use Rattle.timefd_lang_warnings.specs.declared.levels.Level.{Level}
use Rattle.timefd_lang_warnings.specs.declared.levels.Level.TheVariants.{Allowed, Warned, Denied}
use Rattle.timefd_lang_warnings.specs.declared.levels.Levels.{Levels}
use Rattle.timefd_lang_warnings.specs.declared.warning.Warning.{Warning}
use Rattle.timefd_lang_warnings.specs.declared.warning.Warning.TheVariants.{NoComponent, OtherLanguage, MonthForMinute, MinuteForMonth, HourWithoutPeriod, PeriodWithHour24, SubsecondWithoutSecond, WeekWithCalendarYear, DateWithIsoYear, ShownTwice, UndeterminedDate, UnsettledWidth, UnsettledYear, DeprecatedComponent}
use Rattle.timefd_lang_warnings.specs.Codes.{all}
use Rattle.timefd_lang_warnings.specs.Levels.{level_of}
use Rattle.timefd_lang_warnings.specs.Warns.{warns}

-- the numbers of the warnings
abbrev pub warning_number : Warning → ℕ
warning_number NoComponent = 1
warning_number OtherLanguage = 2
warning_number MonthForMinute = 3
warning_number MinuteForMonth = 4
warning_number HourWithoutPeriod = 5
warning_number PeriodWithHour24 = 6
warning_number SubsecondWithoutSecond = 7
warning_number WeekWithCalendarYear = 8
warning_number DateWithIsoYear = 9
warning_number ShownTwice = 10
warning_number UndeterminedDate = 11
warning_number UnsettledWidth = 12
warning_number UnsettledYear = 13
warning_number DeprecatedComponent = 14

-- A warning is about the text as a whole, which has `len` bytes.
abbrev pub fields_of : ℕ → Warning → WarningFields
fields_of len w = record { code = warning_number w; start = 0; end = len }

-- the warnings of a text that spells the list, in the order in which the linter reports them
abbrev pub warnings_of : Language → Text → List Tree → List WarningFields
warnings_of language text list =
    map (fields_of (length text)) (filter (λ w. warns (style_of language) w (leaves_in list)) all)

-- the warning, unless it is allowed
abbrev pub reported_at : Level → ℕ → Warning → List WarningFields
reported_at Allowed len w = []
reported_at Warned len w = fields_of len w ∷ []
reported_at Denied len w = fields_of len w ∷ []

-- the warnings among these that aren't allowed
abbrev pub reported_of : Levels → ℕ → List Warning → List WarningFields
reported_of found len ws = flat_map (λ w. reported_at (level_of found w) len w) ws

-- the answer with this status and value, if there are no warnings
abbrev pub silent : ℕ → ℕ → WarningsAnswer
silent status value = record { status = status; value = value; count = 0; written = 0 }

-- The buffer begins with the first of these, as far as they fit, and is otherwise unchanged.
pub record AreWritten (nodes_reported before after : List WarningFields) (answer : WarningsAnswer) : Type 0 where
  pub count : answer.count ≡ length nodes_reported
  pub written : answer.written ≡ min (length nodes_reported) (length before)
  pub front : after ≡ take answer.written nodes_reported ++ drop answer.written before

-- For a text that spells the list: all warnings that it has are reported, and no others; or memory ran out,
-- and nothing is written.
abbrev pub IsReported : Language → Text → List Tree → List WarningFields → List WarningFields
    → WarningsAnswer → Type 0
IsReported language text list before after answer =
    ((answer.status ≡ ACCEPTED) × (answer.value ≡ amount language list)
    × AreWritten (warnings_of language text list) before after answer)
    ⊎ ((answer ≡ silent NO_MEMORY 0) × (after ≡ before))

-- That is so of a text in a language. Nothing is reported where there is no language.
abbrev pub IsReportedIn : Option Language → Text → List Tree → List WarningFields → List WarningFields
    → WarningsAnswer → Type 0
IsReportedIn (Some language) text list before after answer = IsReported language text list before after answer
IsReportedIn None text list before after answer = ⊥

-- The answer says what the bytes are in the language, if there is one, and the buffer has the warnings of a
-- description.
pub record Warns (language : Option Language) (bytes : Text) (before after : List WarningFields)
    (answer : WarningsAnswer) : Type 0 where
  pub unknown_kind : language ≡ None → answer ≡ silent UNKNOWN_KIND 0
  pub not_utf8 : IsSome language → ¬ (IsUtf8 bytes) → answer ≡ silent NOT_UTF8 0
  pub faulty : (f : Fault) → HasFault language bytes f → answer ≡ silent REFUSED f.index
  pub spelled : (list : List Tree) → Describes language bytes list
      → IsReportedIn language bytes list before after answer
  pub kept : answer.status ≢ ACCEPTED → after ≡ before
  -- This much room is always enough.
  pub few : answer.count ≤ 14
