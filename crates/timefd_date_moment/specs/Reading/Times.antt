-- The time of day that its own fields determine.
use Rattle.std.specs.Prelude.{ℕ, ◌≡◌, ◌+◌, ◌%◌, Bool, false, ◌||◌, if◌then◌else◌, Option, Some, None, is_some, Result, Ok, Err}
use Rattle.timefd_date_moment.specs.declared.fields.fields.Fields.{Fields}
use Rattle.timefd_date_moment.specs.declared.fields.fields.Fraction.{Fraction}
use Rattle.timefd_date_moment.specs.declared.time.Time.{Time}
use Rattle.timefd_date_moment.specs.declared.reading.error.ValueError.{ValueError}
use Rattle.timefd_date_moment.specs.declared.reading.error.ValueError.TheVariants as error
use Rattle.timefd_date_moment.specs.declared.reading.part.TimePart.{TimePart}
use Rattle.timefd_date_moment.specs.declared.reading.part.Part.{Part}
use Rattle.timefd_date_moment.specs.declared.reading.part.Part.TheVariants as part
use Rattle.timefd_date_moment.specs.declared.reading.times.Clock.{Clock}
use Rattle.timefd_date_moment.specs.Reading.Faults.{IsNamed, time_fault}
use Rattle.timefd_date_moment.specs.Reading.Shown.{TimeAgrees, first_false, time_has, time_parts}
use Rattle.timefd_date_moment.specs.Reading.Ways.{IsDetermined}

abbrev pub hour_by_period : Option ℕ → Option Bool → Option ℕ
hour_by_period None is_afternoon = None
hour_by_period (Some h) None = None
hour_by_period (Some h) (Some is_afternoon) = Some (h % 12 + (if is_afternoon then 12 else 0))

-- the hour, read by either clock
abbrev pub hour_read : Option ℕ → Option ℕ → Option Bool → Option ℕ
hour_read (Some h) hour_12 is_afternoon = Some h
hour_read None hour_12 is_afternoon = hour_by_period hour_12 is_afternoon

abbrev pub lack_of_hour : Fields → TimePart
lack_of_hour f =
    if is_some f.hour_12 then TimePart.Period
    else (if is_some f.is_afternoon then TimePart.Hour12 else TimePart.Hour)

abbrev pub number : Option ℕ → ℕ
number None = 0
number (Some n) = n

abbrev pub nanosecond_read : Option Fraction → ℕ
nanosecond_read None = 0
nanosecond_read (Some f) = f.nanosecond

abbrev pub has_second : Fields → Bool
has_second f = is_some f.second || is_some f.subsecond

-- the coarser part wasn't read, though the finer one was
abbrev pub is_left_out : Option ℕ → Bool → Bool
is_left_out None is_finer_read = is_finer_read
is_left_out (Some n) is_finer_read = false

-- Nothing is read without the parts that are coarser. An hour alone is a whole hour.
abbrev pub clock_from : Fields → ℕ → Result Clock TimePart
clock_from f h =
    if is_left_out f.minute (has_second f) then Err TimePart.Minute
    else (if is_left_out f.second (is_some f.subsecond) then Err TimePart.Second else Ok (record {
      hour = h;
      minute = number f.minute;
      second = number f.second;
      nanosecond = nanosecond_read f.subsecond;
    }))

abbrev pub clock_at : Fields → Option ℕ → Result Clock TimePart
clock_at f (Some h) = clock_from f h
clock_at f None = Err (lack_of_hour f)

-- the numbers of the time that the fields determine, or the part that was not read
abbrev pub clock_read : Fields → Result Clock TimePart
clock_read f = clock_at f (hour_read f.hour f.hour_12 f.is_afternoon)

abbrev pub ClockHas : Clock → Time → Type 0
ClockHas c t = (c.hour ≡ t.hour) × (c.minute ≡ t.minute) × (c.second ≡ t.second)
    × (c.nanosecond ≡ t.nanosecond)

abbrev pub IsSame : Time → Time → Type 0
IsSame t u = (t.hour ≡ u.hour) × (t.minute ≡ u.minute) × (t.second ≡ u.second)
    × (t.nanosecond ≡ u.nanosecond)

-- the only time of this kind; or a part that no time has, if there is none of the kind
abbrev pub Selects : (Time → Type 0) → Result Time TimePart → Type 0
Selects Is (Ok t) = (u : Time) → Is u → IsSame t u
Selects Is (Err part) = (u : Time) → Is u → ⊥

abbrev pub IsMissing : Fields → Part → Type 0
IsMissing f (part.Date p) = ⊥
IsMissing f (part.Time p) = clock_read f ≡ Err p
IsMissing f (part.Offset p) = ⊥
IsMissing f (part.Instant p) = ⊥

-- the time has the fields that determine one
abbrev pub HasClock : Result Clock TimePart → Time → Type 0
HasClock (Ok c) t = ClockHas c t
HasClock (Err p) t = ⊥

-- The first part in which the time of these numbers differs from what was read. If no time has them, the
-- first number that none has.
abbrev pub IsAtFault : Fields → Part → Type 0
IsAtFault f (part.Date p) = ⊥
IsAtFault f (part.Time p) =
    IsNamed (HasClock (clock_read f)) (λ t. first_false (time_has f t) time_parts) (time_fault (clock_read f)) p
IsAtFault f (part.Offset p) = ⊥
IsAtFault f (part.Instant p) = ⊥

-- The time that agrees with all that was read, if the fields determine one. Otherwise the error names what
-- was not read, or the part at fault if no time agrees with all of it.
abbrev pub IsTimeByParts : Fields → Result Time ValueError → Type 0
IsTimeByParts f (Ok t) = TimeAgrees f t × IsDetermined (clock_read f)
IsTimeByParts f (Err (error.Missing p)) = IsMissing f p
IsTimeByParts f (Err (error.Contradiction p)) =
    IsDetermined (clock_read f) × ((t : Time) → TimeAgrees f t → ⊥) × IsAtFault f p
