use Rattle.std.proofs.Common.{refl}
use Rattle.timefd_c_nodes.proofs.laws.component_numbers.Goals as goal

pub returns : goal.returns
returns c = record {
  day = λ m. refl;
  month_short = λ m. refl;
  month_long = λ m. refl;
  month_numerical = λ m. refl;
  ordinal = λ m. refl;
  weekday_short = λ m. refl;
  weekday_long = λ m. refl;
  weekday_sunday = λ m. refl;
  weekday_monday = λ m. refl;
  week_number_iso = λ m. refl;
  week_number_sunday = λ m. refl;
  week_number_monday = λ m. refl;
  calendar_year_full_extended_range = λ m. refl;
  calendar_year_full_standard_range = λ m. refl;
  calendar_year_century_extended_range = λ m. refl;
  calendar_year_century_standard_range = λ m. refl;
  iso_year_full_extended_range = λ m. refl;
  iso_year_full_standard_range = λ m. refl;
  iso_year_century_extended_range = λ m. refl;
  iso_year_century_standard_range = λ m. refl;
  calendar_year_last_two = λ m. refl;
  iso_year_last_two = λ m. refl;
  hour_12 = λ m. refl;
  hour_24 = λ m. refl;
  minute = λ m. refl;
  period = λ m. refl;
  second = λ m. refl;
  subsecond = λ m. refl;
  offset_hour = λ m. refl;
  offset_minute = λ m. refl;
  offset_second = λ m. refl;
  ignore = λ m. refl;
  unix_timestamp_second = λ m. refl;
  unix_timestamp_millisecond = λ m. refl;
  unix_timestamp_microsecond = λ m. refl;
  unix_timestamp_nanosecond = λ m. refl;
  end = λ m. refl;
}
