-- Dates that don't exist.
use Rattle.std.specs.Prelude.{ℕ, ℤ, ◌++◌, ◌==◌, ◌||◌, nat_lt, codes, if◌then◌else◌, Option, Some, None}
use Rattle.std.specs.Fmt.{decimal, signed_decimal}
use Rattle.timefd_lang_component.specs.Tree.{Text}
use Rattle.timefd_date_moment.specs.declared.component_range.ComponentRange.{ComponentRange}
use Rattle.timefd_date_moment.specs.declared.component_range.ComponentRange.TheVariants as of
use Rattle.timefd_date_moment.specs.Faults.{date_fault}
use Rattle.timefd_date_moment.specs.Signed.{signed}
use Rattle.timefd_date_moment.specs.declared.fields.fields.Fields.{Fields}
use Rattle.timefd_date_moment.specs.declared.fields.fields.Signed.{Signed}
use Rattle.timefd_format.specs.declared.absent.AbsentDay.{AbsentDay}

abbrev pub signed_year : Signed → ℤ
signed_year s = signed s.is_negative s.magnitude

-- The day is wrong, while the year and the month are right.
abbrev pub absent_by : Option ComponentRange → ℤ → ℕ → ℕ → Option AbsentDay
absent_by (Some of.Day) y m d = Some (record { year = y; month = m; day = d })
absent_by _ y m d = None

abbrev pub absent_if : ℤ → ℕ → ℕ → Option AbsentDay
absent_if y m d = absent_by (date_fault y m d) y m d

-- years are those from -999,999 to 999,999
abbrev pub absent_of : Signed → ℕ → ℕ → Option AbsentDay
absent_of s m d =
    if (nat_lt 999999 s.magnitude || nat_lt 255 m) || nat_lt 255 d then None
    else absent_if (signed_year s) m d

abbrev pub absent_among : Option Signed → Option ℕ → Option ℕ → Option AbsentDay
absent_among (Some s) (Some m) (Some d) = absent_of s m d
absent_among (Some s) (Some m) None = None
absent_among (Some s) None d = None
absent_among None m d = None

-- The date that was read, if its month has no such day.
abbrev pub absent_day : Fields → Option AbsentDay
absent_day f = absent_among f.year f.month f.day

abbrev pub month_name : ℕ → Text
month_name m =
    if m == 1 then codes "January" else (if m == 2 then codes "February" else (if m == 3 then codes "March"
    else (if m == 4 then codes "April" else (if m == 5 then codes "May" else (if m == 6 then codes "June"
    else (if m == 7 then codes "July" else (if m == 8 then codes "August" else (if m == 9 then codes "September"
    else (if m == 10 then codes "October" else (if m == 11 then codes "November" else codes "December"))))))))))

-- "February 2026 has no day 31"
abbrev pub absent_sentence : AbsentDay → Text
absent_sentence a =
    month_name a.month ++ (codes " " ++ (signed_decimal a.year ++ (codes " has no day " ++ decimal a.day)))
