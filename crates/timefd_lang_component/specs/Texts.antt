-- The texts of components and of trees.
use Rattle.std.specs.Prelude.{ℕ, ◌≡◌, ◌≤◌, ◌-◌, ◌/◌, ◌⊎◌, Bool, true, false, ◌||◌, ◌==◌, nat_le, if◌then◌else◌, List, [], ◌∷◌, ◌++◌, length, take, replicate, codes}
use Rattle.std.specs.Fmt.{decimal}
use Rattle.timefd_modifier.specs.declared.enums.Padding.{Padding}
use Rattle.timefd_modifier.specs.declared.enums.SubsecondDigits.{SubsecondDigits}
use Rattle.timefd_lang_component.specs.declared.component.Component.{Component}
use Rattle.timefd_lang_component.specs.declared.component.Component.TheVariants.{Day, MonthShort, MonthLong, MonthNumerical, Ordinal, WeekdayShort, WeekdayLong, WeekdaySunday, WeekdayMonday, WeekNumberIso, WeekNumberSunday, WeekNumberMonday, CalendarYearFullExtendedRange, CalendarYearFullStandardRange, CalendarYearCenturyExtendedRange, CalendarYearCenturyStandardRange, IsoYearFullExtendedRange, IsoYearFullStandardRange, IsoYearCenturyExtendedRange, IsoYearCenturyStandardRange, CalendarYearLastTwo, IsoYearLastTwo, Hour12, Hour24, Minute, Second, OffsetMinute, OffsetSecond, Period, Subsecond, OffsetHour, UnixTimestampSecond, UnixTimestampMillisecond, UnixTimestampMicrosecond, UnixTimestampNanosecond, Ignore, End}
use Rattle.timefd_lang_component.specs.Tree.{Text, Tree, component, literal, compound, optional, first, Trees, no_trees, more_trees}

-- Numbers.

-- a number in decimal, filled on the left with zeros, with spaces or not at all
abbrev pub filled : Padding → ℕ → ℕ → Text
filled Padding.Zero width n = replicate (width - length (decimal n)) 48 ++ decimal n
filled Padding.Space width n = replicate (width - length (decimal n)) 32 ++ decimal n
filled Padding.None width n = decimal n

abbrev pub IsNumber : ℕ → ℕ → Padding → ℕ → Text → Type 0
IsNumber lowest highest padding width text = (n : ℕ) × (lowest ≤ n) × (n ≤ highest)
    × (text ≡ filled padding width n)

abbrev pub plus_where : Bool → Text
plus_where true = codes "+"
plus_where false = []

-- a value from -lowest to highest: its sign, then its magnitude as `shown` writes it
abbrev pub IsSigned : ℕ → ℕ → (ℕ → Bool) → (ℕ → Text) → Text → Type 0
IsSigned lowest highest has_plus shown text =
    ((n : ℕ) × (1 ≤ n) × (n ≤ lowest) × (text ≡ codes "-" ++ shown n))
    ⊎ ((n : ℕ) × (n ≤ highest) × (text ≡ plus_where (has_plus n) ++ shown n))

abbrev pub full : Padding → ℕ → Text
full padding year = filled padding 4 year

abbrev pub century : Padding → ℕ → Text
century padding year = filled padding 2 (year / 100)

-- years of the extended range have a plus from 10,000 on
abbrev pub IsExtended : Bool → (ℕ → Text) → Text → Type 0
IsExtended mandatory = IsSigned 999999 999999 (λ year. mandatory || nat_le 10000 year)

abbrev pub IsStandard : Bool → (ℕ → Text) → Text → Type 0
IsStandard mandatory = IsSigned 9999 9999 (λ year. mandatory)

abbrev pub IsWeekday : Bool → Text → Type 0
IsWeekday true = IsNumber 1 7 Padding.None 1
IsWeekday false = IsNumber 0 6 Padding.None 1

-- a text without the zeros that it ends with
abbrev pub before_trimmed : ℕ → Text → Text
before_trimmed b [] = if b == 48 then [] else b ∷ []
before_trimmed b (c ∷ bytes) = b ∷ c ∷ bytes

abbrev pub trimmed : Text → Text
trimmed [] = []
trimmed (b ∷ bytes) = before_trimmed b (trimmed bytes)

abbrev pub at_least_one : Text → Text
at_least_one [] = codes "0"
at_least_one (b ∷ bytes) = b ∷ bytes

-- Of the nine digits of a number of nanoseconds, the first few, or all but the zeros at the end.
abbrev pub subsecond : SubsecondDigits → ℕ → Text
subsecond SubsecondDigits.One n = take 1 (filled Padding.Zero 9 n)
subsecond SubsecondDigits.Two n = take 2 (filled Padding.Zero 9 n)
subsecond SubsecondDigits.Three n = take 3 (filled Padding.Zero 9 n)
subsecond SubsecondDigits.Four n = take 4 (filled Padding.Zero 9 n)
subsecond SubsecondDigits.Five n = take 5 (filled Padding.Zero 9 n)
subsecond SubsecondDigits.Six n = take 6 (filled Padding.Zero 9 n)
subsecond SubsecondDigits.Seven n = take 7 (filled Padding.Zero 9 n)
subsecond SubsecondDigits.Eight n = take 8 (filled Padding.Zero 9 n)
subsecond SubsecondDigits.Nine n = take 9 (filled Padding.Zero 9 n)
subsecond SubsecondDigits.OneOrMore n = at_least_one (trimmed (filled Padding.Zero 9 n))

abbrev pub IsSubsecond : SubsecondDigits → Text → Type 0
IsSubsecond digits text = (n : ℕ) × (n ≤ 999999999) × (text ≡ subsecond digits n)

-- Names.

abbrev pub IsOneOf : List Text → Text → Type 0
IsOneOf [] text = ⊥
IsOneOf (name ∷ names) text = (text ≡ name) ⊎ IsOneOf names text

abbrev pub short_months : List Text
short_months = codes "Jan" ∷ codes "Feb" ∷ codes "Mar" ∷ codes "Apr" ∷ codes "May" ∷ codes
    "Jun" ∷ codes "Jul" ∷ codes "Aug" ∷ codes "Sep" ∷ codes "Oct" ∷ codes "Nov" ∷ codes "Dec" ∷ []

abbrev pub long_months : List Text
long_months =
    codes "January" ∷ codes "February" ∷ codes "March" ∷ codes "April" ∷ codes "May" ∷ codes
    "June" ∷ codes "July"
    ∷ codes "August" ∷ codes "September" ∷ codes "October" ∷ codes "November" ∷ codes
    "December" ∷ []

abbrev pub short_weekdays : List Text
short_weekdays = codes "Mon" ∷ codes "Tue" ∷ codes "Wed" ∷ codes "Thu" ∷ codes "Fri" ∷ codes
    "Sat" ∷ codes "Sun" ∷ []

abbrev pub long_weekdays : List Text
long_weekdays = codes "Monday" ∷ codes "Tuesday" ∷ codes "Wednesday" ∷ codes "Thursday" ∷ codes
    "Friday" ∷ codes "Saturday" ∷ codes "Sunday" ∷ []

abbrev pub periods : Bool → List Text
periods true = codes "AM" ∷ codes "PM" ∷ []
periods false = codes "am" ∷ codes "pm" ∷ []

-- Components. `ignore` and `end` have the empty text, and so has a deprecated component, which no
-- description has.

abbrev pub IsText : Component → Text → Type 0
IsText (Day m) = IsNumber 1 31 m.padding 2
IsText (MonthShort m) = IsOneOf short_months
IsText (MonthLong m) = IsOneOf long_months
IsText (MonthNumerical m) = IsNumber 1 12 m.padding 2
IsText (Ordinal m) = IsNumber 1 366 m.padding 3
IsText (WeekdayShort m) = IsOneOf short_weekdays
IsText (WeekdayLong m) = IsOneOf long_weekdays
IsText (WeekdaySunday m) = IsWeekday m.one_indexed
IsText (WeekdayMonday m) = IsWeekday m.one_indexed
IsText (WeekNumberIso m) = IsNumber 1 53 m.padding 2
IsText (WeekNumberSunday m) = IsNumber 0 53 m.padding 2
IsText (WeekNumberMonday m) = IsNumber 0 53 m.padding 2
IsText (CalendarYearFullExtendedRange m) = IsExtended m.sign_is_mandatory (full m.padding)
IsText (CalendarYearFullStandardRange m) = IsStandard m.sign_is_mandatory (full m.padding)
IsText (CalendarYearCenturyExtendedRange m) = IsExtended m.sign_is_mandatory (century m.padding)
IsText (CalendarYearCenturyStandardRange m) = IsStandard m.sign_is_mandatory (century m.padding)
IsText (IsoYearFullExtendedRange m) = IsExtended m.sign_is_mandatory (full m.padding)
IsText (IsoYearFullStandardRange m) = IsStandard m.sign_is_mandatory (full m.padding)
IsText (IsoYearCenturyExtendedRange m) = IsExtended m.sign_is_mandatory (century m.padding)
IsText (IsoYearCenturyStandardRange m) = IsStandard m.sign_is_mandatory (century m.padding)
IsText (CalendarYearLastTwo m) = IsNumber 0 99 m.padding 2
IsText (IsoYearLastTwo m) = IsNumber 0 99 m.padding 2
IsText (Hour12 m) = IsNumber 1 12 m.padding 2
IsText (Hour24 m) = IsNumber 0 23 m.padding 2
IsText (Minute m) = IsNumber 0 59 m.padding 2
IsText (Second m) = IsNumber 0 59 m.padding 2
IsText (OffsetMinute m) = IsNumber 0 59 m.padding 2
IsText (OffsetSecond m) = IsNumber 0 59 m.padding 2
IsText (Period m) = IsOneOf (periods m.is_uppercase)
IsText (Subsecond m) = IsSubsecond m.digits
IsText (OffsetHour m) = IsSigned 25 25 (λ n. m.sign_is_mandatory) (filled m.padding 2)
IsText (UnixTimestampSecond m) = IsSigned 31619087596800 31494784780799 (λ n. m.sign_is_mandatory)
    decimal
IsText (UnixTimestampMillisecond m) =
    IsSigned 31619087596800000 31494784780799999 (λ n. m.sign_is_mandatory) decimal
IsText (UnixTimestampMicrosecond m) =
    IsSigned 31619087596800000000 31494784780799999999 (λ n. m.sign_is_mandatory) decimal
IsText (UnixTimestampNanosecond m) =
    IsSigned 31619087596800000000000 31494784780799999999999 (λ n. m.sign_is_mandatory) decimal
IsText (Ignore m) = λ text. text ≡ []
IsText (End m) = λ text. text ≡ []
IsText deprecated = λ text. text ≡ []

-- Trees.

abbrev pub IsShown : Bool → Type 0 → Text → Type 0
IsShown true shown text = shown
IsShown false shown text = text ≡ []

abbrev mutual
  pub Renders : Tree → Text → Type 0
  Renders (component c) text = IsText c text
  Renders (literal bytes) text = text ≡ bytes
  Renders (compound ts) text = RendersAll ts text
  Renders (optional format t) text = IsShown format (Renders t text) text
  Renders (first ts) text = RendersFirst ts text

  pub RendersAll : Trees → Text → Type 0
  RendersAll no_trees text = text ≡ []
  RendersAll (more_trees t ts) text = (a : Text) × (b : Text) × Renders t a × RendersAll ts b
      × (text ≡ a ++ b)

  pub RendersFirst : Trees → Text → Type 0
  RendersFirst no_trees text = text ≡ []
  RendersFirst (more_trees t ts) text = Renders t text
