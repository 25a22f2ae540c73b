-- The help on a warning, and which languages read a text that has no component.
use Rattle.std.specs.Prelude.{◌==◌, Bool, true, not, List, [], ◌∷◌, ◌++◌, codes, flat_map}
use Rattle.std.specs.List.{filter, list_any}
use Rattle.timefd_parse.specs.Tree.{Text}
use Rattle.timefd_lang_dialect.specs.declared.dialect.Dialect.{Dialect}
use Rattle.timefd_lang_dialect.specs.declared.dialect.Dialect.TheVariants.{Python, C, Gnu, Chrono, Jiff, Ruby, Java, Go, Moment}
use Rattle.timefd_lang_dialect.specs.Dialects.{name_of}
use Rattle.timefd_lang_dialect.specs.Readers.{readers}
use Rattle.timefd_lang_warnings.specs.declared.warning.Warning.{Warning}
use Rattle.timefd_lang_warnings.specs.declared.warning.Warning.TheVariants.{NoComponent, OtherLanguage, MonthForMinute, MinuteForMonth, HourWithoutPeriod, PeriodWithHour24, SubsecondWithoutSecond, WeekWithCalendarYear, DateWithIsoYear, ShownTwice, UndeterminedDate, UnsettledWidth, UnsettledYear, DeprecatedComponent}
use Rattle.timefd_lang_warnings.specs.Explanations.{explanation_of}

abbrev pub has_percent : Text → Bool
has_percent text = list_any (λ b. b == 37) text

-- A text with a percent sign isn't written for Java or moment, which read the letters after the sign too.
abbrev pub is_offered : Bool → Dialect → Bool
is_offered percent Python = true
is_offered percent C = true
is_offered percent Gnu = true
is_offered percent Chrono = true
is_offered percent Jiff = true
is_offered percent Ruby = true
is_offered percent Java = not percent
is_offered percent Go = true
is_offered percent Moment = not percent

abbrev pub alone : Dialect → List Dialect
alone dialect = dialect ∷ []

-- the languages that are named: all that read the text as a format with a component
abbrev pub offered : Text → List Dialect
offered text = filter (is_offered (has_percent text)) (readers text)

-- the names, with a comma between two of them
abbrev pub names_of : Dialect → List Dialect → Text
names_of first more = name_of first ++ flat_map (λ dialect. codes ", " ++ name_of dialect) more

abbrev pub sentence : Text → Text → Text → Text
sentence explanation name names =
    explanation ++ (codes " It is a format of " ++ (names ++ (codes ": `timefd_format --language "
    ++ (name ++ codes "` reads it."))))

-- the explanation, and these languages if there are any
abbrev pub with_readers : Text → List Dialect → Text
with_readers explanation [] = explanation
with_readers explanation (first ∷ more) = sentence explanation (name_of first) (names_of first more)

-- the help on a warning about a text
abbrev pub help_on : Warning → Text → Text
help_on NoComponent text = with_readers (explanation_of NoComponent) (offered text)
help_on OtherLanguage text = explanation_of OtherLanguage
help_on MonthForMinute text = explanation_of MonthForMinute
help_on MinuteForMonth text = explanation_of MinuteForMonth
help_on HourWithoutPeriod text = explanation_of HourWithoutPeriod
help_on PeriodWithHour24 text = explanation_of PeriodWithHour24
help_on SubsecondWithoutSecond text = explanation_of SubsecondWithoutSecond
help_on WeekWithCalendarYear text = explanation_of WeekWithCalendarYear
help_on DateWithIsoYear text = explanation_of DateWithIsoYear
help_on ShownTwice text = explanation_of ShownTwice
help_on UndeterminedDate text = explanation_of UndeterminedDate
help_on UnsettledWidth text = explanation_of UnsettledWidth
help_on UnsettledYear text = explanation_of UnsettledYear
help_on DeprecatedComponent text = explanation_of DeprecatedComponent
