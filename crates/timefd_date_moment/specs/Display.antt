-- What `{}` writes: the forms of ISO 8601.
use Rattle.std.specs.Prelude.{ℕ, ◌+◌, ◌/◌, ◌%◌, ◌==◌, nat_le, nat_lt, if◌then◌else◌, List, [], ◌∷◌, ◌++◌, codes, Option, Some, None}
use Rattle.std.specs.Fmt.{decimal}
use Rattle.timefd_date_moment.specs.declared.date.Date.{Date}
use Rattle.timefd_date_moment.specs.declared.time.Time.{Time}
use Rattle.timefd_date_moment.specs.declared.offset.UtcOffset.{UtcOffset}
use Rattle.timefd_date_moment.specs.declared.moment.Moment.{Moment}
use Rattle.timefd_date_moment.specs.declared.unix_time.UnixTime.{UnixTime}
use Rattle.timefd_date_moment.specs.Moments.{magnitude, is_before_zero}

-- two digits, or more if the number has more
unfoldable pub two_digits : ℕ → List ℕ
two_digits n = if nat_lt n 100 then (48 + n / 10) ∷ (48 + n % 10) ∷ [] else decimal n

-- years from 10,000 on have a plus, and those before the year 0 a minus
abbrev pub year_sign : ℕ → List ℕ
year_sign years =
    if is_before_zero years then codes "-"
    else (if nat_le 10000 (magnitude years) then codes "+" else codes "")

-- `YYYY`, or `+YYYYY` if the year has more than four digits
unfoldable pub year_text : ℕ → List ℕ
year_text years =
    year_sign years ++ (two_digits (magnitude years / 100) ++ two_digits (magnitude years % 100))

-- `YYYY-MM-DD`
unfoldable pub date_text : Date → List ℕ
date_text d =
    year_text d.years ++ (codes "-" ++ (two_digits d.month ++ (codes "-" ++ two_digits d.day)))

-- a whole second has no fraction; any other has one of nine digits
unfoldable pub fraction_text : ℕ → List ℕ
fraction_text n =
    if n == 0 then [] else codes "." ++ (two_digits (n / 10000000)
    ++ (two_digits (n / 100000 % 100) ++ (two_digits (n / 1000 % 100)
    ++ (two_digits (n / 10 % 100) ++ decimal (n % 10)))))

-- `HH:MM:SS`, and the fraction of the second
unfoldable pub time_text : Time → List ℕ
time_text t =
    two_digits t.hour ++ (codes ":" ++ (two_digits t.minute ++ (codes ":"
    ++ (two_digits t.second ++ fraction_text t.nanosecond))))

-- the seconds of an offset, if it has some
unfoldable pub offset_seconds_text : ℕ → List ℕ
offset_seconds_text s = if s == 0 then [] else codes ":" ++ two_digits s

-- `+HH:MM`, and the seconds if there are some
unfoldable pub offset_text : UtcOffset → List ℕ
offset_text o =
    (if o.is_negative then codes "-" else codes "+") ++ (two_digits (o.seconds / 3600)
    ++ (codes ":" ++ (two_digits (o.seconds / 60 % 60) ++ offset_seconds_text (o.seconds % 60))))

-- The parts that are known, one after another, with a `T` between a date and a time.

abbrev pub known_date : Option Date → List ℕ
known_date None = []
known_date (Some d) = date_text d

abbrev pub between : Option Date → Option Time → List ℕ
between None t = codes ""
between (Some d) None = codes ""
between (Some d) (Some t) = codes "T"

abbrev pub known_time : Option Time → List ℕ
known_time None = []
known_time (Some t) = time_text t

abbrev pub known_offset : Option UtcOffset → List ℕ
known_offset None = []
known_offset (Some o) = offset_text o

unfoldable pub moment_text : Moment → List ℕ
moment_text m =
    known_date m.date ++ (between m.date m.time ++ (known_time m.time ++ known_offset m.offset))

-- the seconds after the start of 1970, with a minus before 1970, and the fraction of a second
unfoldable pub unix_text : UnixTime → List ℕ
unix_text u =
    (if u.is_negative then codes "-" else codes "") ++ (decimal (u.nanoseconds / 1000000000)
    ++ fraction_text (u.nanoseconds % 1000000000))
