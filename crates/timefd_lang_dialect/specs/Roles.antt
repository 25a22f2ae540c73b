-- What a directive says of a moment, as far as traps depend on it.
use Rattle.std.specs.Prelude.{ℕ, ◌==◌, ◌-◌, ◌||◌, Bool, false, nat_lt, codes, if◌then◌else◌, length}
use Rattle.std.specs.List.{slice_index}
use Rattle.std.specs.Str.{bytes_eq}
use Rattle.timefd_lang_component.specs.Tree.{Text}
use Rattle.timefd_lang_dialect.specs.declared.dialect.Dialect.{Dialect}
use Rattle.timefd_lang_dialect.specs.declared.dialect.Dialect.TheVariants.{Python, C, Gnu, Chrono, Jiff, Ruby, Java, Go, Moment}
use Rattle.timefd_lang_dialect.specs.declared.role.Role.{Role}
use Rattle.timefd_lang_dialect.specs.declared.role.Role.TheVariants.{Other, Year, YearOfTwoDigits, WeekYear, Month, Day, DayOfYear, HourOf24, HourOf12, Period, Minute, Second, TwoLetterWeekday, WeekdayFromZero, Panic}
use Rattle.timefd_lang_dialect.specs.Reasons.{is_unknown}
use Rattle.timefd_lang_dialect.specs.Rows.{Entry, Meaning, written, refused}

abbrev pub first_of : Text → ℕ
first_of text = slice_index text 0

abbrev pub last_of : Text → ℕ
last_of text = slice_index text (length text - 1)

-- a letter of strftime
abbrev pub strftime_role : ℕ → Role
strftime_role b =
    if (((b == 89) || (b == 67)) || (b == 70)) || (b == 99) then Year
    else if ((b == 121) || (b == 68)) || (b == 120) then YearOfTwoDigits
    else if b == 71 then WeekYear
    else if (((b == 109) || (b == 98)) || (b == 66)) || (b == 104) then Month
    else if (b == 100) || (b == 101) then Day
    else if b == 106 then DayOfYear
    else if (b == 72) || (b == 107) then HourOf24
    else if (b == 73) || (b == 108) then HourOf12
    else if (b == 112) || (b == 80) then Period
    else if b == 77 then Minute
    else if b == 83 then Second
    else if b == 119 then WeekdayFromZero
    else Other

-- a year of this many letters
abbrev pub year_role : ℕ → Role
year_role count = if count == 2 then YearOfTwoDigits else Year

-- this many of a letter of Java
abbrev pub java_role : ℕ → ℕ → Role
java_role b count =
    if (b == 121) || (b == 117) then year_role count
    else if b == 89 then WeekYear
    else if (b == 77) || (b == 76) then Month
    else if b == 100 then Day
    else if b == 68 then DayOfYear
    else if (b == 72) || (b == 107) then HourOf24
    else if (b == 104) || (b == 75) then HourOf12
    else if (b == 97) || (b == 66) then Period
    else if b == 109 then Minute
    else if b == 115 then Second
    else Other

-- a token of moment with this many bytes
abbrev pub moment_role : ℕ → ℕ → Role
moment_role b count =
    if b == 89 then year_role count
    else if (b == 71) || (b == 103) then WeekYear
    else if b == 77 then Month
    else if b == 68 then (if nat_lt count 3 then Day else DayOfYear)
    else if b == 100 then (if count == 2 then TwoLetterWeekday else Other)
    else if (b == 72) || (b == 107) then HourOf24
    else if b == 104 then HourOf12
    else if (b == 65) || (b == 97) then Period
    else if b == 109 then Minute
    else if b == 115 then Second
    else Other

-- a part of Go's reference time
abbrev pub go_role : Text → Role
go_role text =
    if bytes_eq text (codes "2006") || bytes_eq text (codes "_2006") then Year
    else if bytes_eq text (codes "06") then YearOfTwoDigits
    else if ((bytes_eq text (codes "01") || bytes_eq text (codes "1"))
    || bytes_eq text (codes "Jan")) || bytes_eq text (codes "January") then Month
    else if (bytes_eq text (codes "02") || bytes_eq text (codes "2"))
    || bytes_eq text (codes "_2") then Day
    else if bytes_eq text (codes "002") || bytes_eq text (codes "__2") then DayOfYear
    else if bytes_eq text (codes "15") then HourOf24
    else if bytes_eq text (codes "03") || bytes_eq text (codes "3") then HourOf12
    else if bytes_eq text (codes "PM") || bytes_eq text (codes "pm") then Period
    else if bytes_eq text (codes "04") || bytes_eq text (codes "4") then Minute
    else if bytes_eq text (codes "05") || bytes_eq text (codes "5") then Second
    else Other

abbrev pub is_panic : Meaning → Bool
is_panic (written text range) = false
is_panic (refused reason) = is_unknown reason

abbrev pub role_of : Dialect → Entry → Role
role_of Python row = strftime_role (last_of row.text)
role_of C row = strftime_role (last_of row.text)
role_of Gnu row = strftime_role (last_of row.text)
role_of Chrono row =
    if is_panic row.meaning then Panic else strftime_role (last_of row.text)
role_of Jiff row = strftime_role (last_of row.text)
role_of Ruby row = strftime_role (last_of row.text)
role_of Java row = java_role (first_of row.text) (length row.text)
role_of Go row = go_role row.text
role_of Moment row = moment_role (first_of row.text) (length row.text)
