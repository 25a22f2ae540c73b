-- Which descriptions show something twice.
use Rattle.std.specs.Prelude.{Bool, true, false, if◌then◌else◌, List, [], ◌∷◌}
use Rattle.timefd_lang_component.specs.Tree.{Tree}
use Rattle.timefd_lang_warnings.specs.declared.field.ShownField.{ShownField}
use Rattle.timefd_lang_warnings.specs.declared.sought.HowMany.{HowMany}
use Rattle.timefd_lang_warnings.specs.declared.sought.Sought.TheVariants as seek
use Rattle.timefd_lang_warnings.specs.Sought.{amount_of}

-- everything that a component can show
abbrev pub fields : List ShownField
fields = ShownField.Year ∷ ShownField.Century ∷ ShownField.YearLastTwo ∷ ShownField.IsoYear ∷ ShownField.IsoCentury
    ∷ ShownField.IsoYearLastTwo ∷ ShownField.MonthName ∷ ShownField.MonthNumber ∷ ShownField.Day ∷ ShownField.Ordinal
    ∷ ShownField.WeekdayName ∷ ShownField.WeekdayNumber ∷ ShownField.IsoWeek ∷ ShownField.SundayWeek ∷ ShownField.MondayWeek
    ∷ ShownField.Hour24 ∷ ShownField.Hour12 ∷ ShownField.Period ∷ ShownField.Minute ∷ ShownField.Second ∷ ShownField.Subsecond
    ∷ ShownField.OffsetHour ∷ ShownField.OffsetMinute ∷ ShownField.OffsetSecond ∷ ShownField.Timestamp ∷ []

abbrev pub is_several : HowMany → Bool
is_several HowMany.Absent = false
is_several HowMany.Once = false
is_several HowMany.Several = true

abbrev pub one_twice : List ShownField → List Tree → Bool
one_twice [] ts = false
one_twice (field ∷ fields) ts =
    if is_several (amount_of (seek.Shows field) ts) then true else one_twice fields ts

-- Two components show the same. A month by name and a month by number are two fields, and so are
-- weekdays.
abbrev pub shown_twice : List Tree → Bool
shown_twice ts = one_twice fields ts
