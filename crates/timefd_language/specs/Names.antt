-- The names of components, their keys, and the component that a name makes with its settings.
use Rattle.std.specs.Prelude.{Bool, codes, List, [], ◌∷◌, Option, Some, None, Result, Ok, Err, map}
use Rattle.std.specs.declared.num.NonZeroU16.{NonZeroU16}
use Rattle.timefd_lang_component.specs.Tree.{Text}
use Rattle.timefd_lang_fault.specs.Faults.{Kind, missing_modifier}
use Rattle.timefd_lang_component.specs.Modern.{modern}
use Rattle.timefd_lang_component.specs.declared.component.Component.{Component}
use Rattle.timefd_lang_component.specs.declared.component.Component.TheVariants.{Day, End, Hour, Ignore, Minute, Month, OffsetHour, OffsetMinute, OffsetSecond, Ordinal, Period, Second, Subsecond, UnixTimestamp, Weekday, WeekNumber, Year}
use Rattle.timefd_lang_fault.specs.declared.name.ComponentName.{ComponentName}
use Rattle.timefd_language.specs.Bytes.{named}
use Rattle.timefd_language.specs.declared.setting.Settings.{Settings}
use Rattle.timefd_language.specs.Values.{Key, padding, trailing_input, hour_repr, count, month_repr, case_sensitive, sign, case, digits, precision, weekday_repr, one_indexed, week_number_repr, year_repr, range, base}

-- The component of each name. If there are several forms, it is the modern one that its fields select.

abbrev pub day : Settings → Component
day s = Day (record { padding = s.padding })

abbrev pub end : Settings → Component
end s = End (record { trailing_input = s.trailing_input })

abbrev pub hour : Settings → Component
hour s = modern (Hour (record { padding = s.padding; is_12_hour_clock = s.is_12_hour_clock }))

abbrev pub minute : Settings → Component
minute s = Minute (record { padding = s.padding })

abbrev pub month : Settings → Component
month s =
    modern (Month (record {
      padding = s.padding;
      repr = s.month_repr;
      case_sensitive =
          s.case_sensitive;
    }))

abbrev pub offset_hour : Settings → Component
offset_hour s = OffsetHour (record { sign_is_mandatory = s.sign_is_mandatory; padding = s.padding })

abbrev pub offset_minute : Settings → Component
offset_minute s = OffsetMinute (record { padding = s.padding })

abbrev pub offset_second : Settings → Component
offset_second s = OffsetSecond (record { padding = s.padding })

abbrev pub ordinal : Settings → Component
ordinal s = Ordinal (record { padding = s.padding })

abbrev pub period : Settings → Component
period s = Period (record { is_uppercase = s.is_uppercase; case_sensitive = s.case_sensitive })

abbrev pub second : Settings → Component
second s = Second (record { padding = s.padding })

abbrev pub subsecond : Settings → Component
subsecond s = Subsecond (record { digits = s.digits })

abbrev pub unix_timestamp : Settings → Component
unix_timestamp s =
    modern (UnixTimestamp (record {
      precision = s.precision;
      sign_is_mandatory =
          s.sign_is_mandatory;
    }))

abbrev pub weekday : Settings → Component
weekday s =
    modern (Weekday (record {
      repr = s.weekday_repr;
      one_indexed = s.one_indexed;
      case_sensitive =
          s.case_sensitive;
    }))

abbrev pub week_number : Settings → Component
week_number s = modern (WeekNumber (record { padding = s.padding; repr = s.week_number_repr }))

abbrev pub year : Settings → Component
year s = modern (Year (record {
  padding = s.padding;
  repr = s.year_repr;
  range = s.range;
  iso_week_based = s.iso_week_based;
  sign_is_mandatory = s.sign_is_mandatory;
}))

-- `ignore` needs a count: there is no default
abbrev pub ignored : Option NonZeroU16 → Result Component Kind
ignored None = Err (missing_modifier (codes "count"))
ignored (Some n) = Ok (Ignore (record { count = n }))

abbrev pub ignore : Settings → Result Component Kind
ignore s = ignored s.count

-- a name, its keys, and the component that it makes with some settings
pub record Row : Type 0 where
  pub name : Text
  pub keys : List Key
  pub component : Settings → Result Component Kind

-- a row whose component may lack a key that has to be set
abbrev pub checked_row : Text → List Key → (Settings → Result Component Kind) → Row
checked_row name keys component = record { name = name; keys = keys; component = component }

abbrev pub row : Text → List Key → (Settings → Component) → Row
row name keys component = checked_row name keys (λ s. Ok (component s))

-- the row of each name
abbrev pub row_for : ComponentName → Row
row_for ComponentName.Day = row (codes "day") (padding ∷ []) day
row_for ComponentName.End = row (codes "end") (trailing_input ∷ []) end
row_for ComponentName.Hour = row (codes "hour") (padding ∷ hour_repr ∷ []) hour
row_for ComponentName.Ignore = checked_row (codes "ignore") (count ∷ []) ignore
row_for ComponentName.Minute = row (codes "minute") (padding ∷ []) minute
row_for ComponentName.Month = row (codes "month") (padding ∷ month_repr ∷ case_sensitive ∷ []) month
row_for ComponentName.OffsetHour = row (codes "offset_hour") (sign ∷ padding ∷ []) offset_hour
row_for ComponentName.OffsetMinute = row (codes "offset_minute") (padding ∷ []) offset_minute
row_for ComponentName.OffsetSecond = row (codes "offset_second") (padding ∷ []) offset_second
row_for ComponentName.Ordinal = row (codes "ordinal") (padding ∷ []) ordinal
row_for ComponentName.Period = row (codes "period") (case ∷ case_sensitive ∷ []) period
row_for ComponentName.Second = row (codes "second") (padding ∷ []) second
row_for ComponentName.Subsecond = row (codes "subsecond") (digits ∷ []) subsecond
row_for ComponentName.UnixTimestamp =
    row (codes "unix_timestamp") (precision ∷ sign ∷ []) unix_timestamp
row_for ComponentName.Weekday = row (codes "weekday")
    (weekday_repr ∷ one_indexed ∷ case_sensitive ∷ []) weekday
row_for ComponentName.WeekNumber = row (codes "week_number") (padding ∷ week_number_repr ∷ [])
    week_number
row_for ComponentName.Year = row (codes "year") (padding ∷ year_repr ∷ range ∷ base ∷ sign ∷ [])
    year

abbrev pub component_names : List ComponentName
component_names =
    ComponentName.Day
    ∷ ComponentName.End
    ∷ ComponentName.Hour
    ∷ ComponentName.Ignore
    ∷ ComponentName.Minute
    ∷ ComponentName.Month
    ∷ ComponentName.OffsetHour
    ∷ ComponentName.OffsetMinute
    ∷ ComponentName.OffsetSecond
    ∷ ComponentName.Ordinal
    ∷ ComponentName.Period
    ∷ ComponentName.Second
    ∷ ComponentName.Subsecond
    ∷ ComponentName.UnixTimestamp
    ∷ ComponentName.Weekday
    ∷ ComponentName.WeekNumber
    ∷ ComponentName.Year ∷ []

abbrev pub rows : List Row
rows = map row_for component_names

abbrev pub row_of : Bool → Text → Option Row
row_of strict name = named (λ r. r.name) strict name rows
