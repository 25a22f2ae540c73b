-- What a reader finds in a text that these parts wrote, and which of it determines a date.
use Rattle.std.specs.Prelude.{◌≡◌, is_ok, is_some, List}
use Rattle.timefd_lang_component.specs.Tree.{Tree}
use Rattle.timefd_date_moment.specs.declared.fields.fields.Fields.{Fields}
use Rattle.timefd_date_moment.specs.Reading.Ways.{date_way}
use Rattle.timefd_lang_warnings.specs.declared.field.ShownField.{ShownField}
use Rattle.timefd_lang_warnings.specs.Dates.{determines_date, shows_month, shows_weekday}
use Rattle.timefd_lang_warnings.specs.Sought.{shows}

-- A field of a date is read exactly if the parts show it.
pub record IsReadOf (ts : List Tree) (f : Fields) : Type 0 where
  pub year : is_some f.year ≡ shows ShownField.Year ts
  pub century : is_some f.century ≡ shows ShownField.Century ts
  pub year_last_two : is_some f.year_last_two ≡ shows ShownField.YearLastTwo ts
  pub iso_year : is_some f.iso_year ≡ shows ShownField.IsoYear ts
  pub iso_century : is_some f.iso_century ≡ shows ShownField.IsoCentury ts
  pub iso_year_last_two : is_some f.iso_year_last_two ≡ shows ShownField.IsoYearLastTwo ts
  pub month : is_some f.month ≡ shows_month ts
  pub day : is_some f.day ≡ shows ShownField.Day ts
  pub ordinal : is_some f.ordinal ≡ shows ShownField.Ordinal ts
  pub weekday : is_some f.weekday ≡ shows_weekday ts
  pub iso_week : is_some f.iso_week ≡ shows ShownField.IsoWeek ts
  pub sunday_week : is_some f.sunday_week ≡ shows ShownField.SundayWeek ts
  pub monday_week : is_some f.monday_week ≡ shows ShownField.MondayWeek ts

-- The parts determine a date exactly if the fields do that are read of them.
abbrev pub DeterminedAsRead : Type 0
DeterminedAsRead = (ts : List Tree) (f : Fields) → IsReadOf ts f
    → is_ok (date_way f) ≡ determines_date ts
