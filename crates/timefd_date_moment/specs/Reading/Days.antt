-- Days, counted from 1 January of the year -1,000,000.
use Rattle.std.specs.Prelude.{ℕ, ◌+◌, ◌-◌, ◌*◌, ◌%◌, true, false, nat_lt, if◌then◌else◌}
use Rattle.timefd_date_moment.specs.declared.unix_time.UnixTime.{UnixTime}
use Rattle.timefd_date_moment.specs.Calendar.{days_of_years, weekday_of_day}
use Rattle.timefd_date_moment.specs.Laws.{first_monday}

abbrev pub ordinal_day : ℕ → ℕ → ℕ
ordinal_day years position = days_of_years years + position - 1

abbrev pub iso_week_day : ℕ → ℕ → ℕ → ℕ
iso_week_day years week weekday = first_monday years + 7 * week + weekday - 7

-- Week 1 begins on the first Sunday of a year, or on its first Monday.

abbrev pub sunday_in : ℕ → ℕ
sunday_in first = first + 6 - weekday_of_day first

abbrev pub monday_in : ℕ → ℕ
monday_in first = first + (7 - weekday_of_day first) % 7

abbrev pub sunday_week_day : ℕ → ℕ → ℕ → ℕ
sunday_week_day years week weekday =
    sunday_in (days_of_years years) + 7 * week + (weekday + 1) % 7 - 7

abbrev pub monday_week_day : ℕ → ℕ → ℕ → ℕ
monday_week_day years week weekday = monday_in (days_of_years years) + 7 * week + weekday - 7

-- the start of a day in UTC: the day 365,962,028 is 1 January 1970
abbrev pub midnight : ℕ → UnixTime
midnight day = if nat_lt day 365962028 then (record {
  is_negative = true;
  nanoseconds = (365962028 - day) * (86400 * 1000000000);
}) else (record {
  is_negative = false;
  nanoseconds = (day - 365962028) * (86400 * 1000000000);
})
