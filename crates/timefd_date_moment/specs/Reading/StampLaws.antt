-- Laws about the values of fields with a timestamp.
use Rattle.std.specs.Prelude.{ℕ, ◌≡◌, ◌%◌, ⊤, Bool, true, false, Option, Some, None, IsTrue, Result, Ok, Err}
use Rattle.timefd_date_moment.specs.declared.fields.fields.Fields.{Fields}
use Rattle.timefd_date_moment.specs.declared.fields.fields.Fraction.{Fraction}
use Rattle.timefd_date_moment.specs.declared.fields.fields.Signed.{Signed}
use Rattle.timefd_date_moment.specs.declared.date.Date.{Date}
use Rattle.timefd_date_moment.specs.declared.time.Time.{Time}
use Rattle.timefd_date_moment.specs.declared.offset.UtcOffset.{UtcOffset}
use Rattle.timefd_date_moment.specs.declared.moment.Moment.{Moment}
use Rattle.timefd_date_moment.specs.declared.unix_time.UnixTime.{UnixTime}
use Rattle.timefd_date_moment.specs.Instants.{is_within}
use Rattle.timefd_date_moment.specs.Moments.{unix_time}
use Rattle.timefd_date_moment.specs.declared.reading.error.ValueError.{ValueError}
use Rattle.timefd_date_moment.specs.Reading.Dates as of_date
use Rattle.timefd_date_moment.specs.Reading.Known.{has_date, has_offset, has_time}
use Rattle.timefd_date_moment.specs.Reading.Laws.{Answers}
use Rattle.timefd_date_moment.specs.Reading.Offsets as of_offset
use Rattle.timefd_date_moment.specs.Reading.Offsets.{HasShift, shift_read}
use Rattle.timefd_date_moment.specs.Reading.Shown.{DateAgrees, OffsetAgrees, TimeAgrees}
use Rattle.timefd_date_moment.specs.Reading.Stamped.{MomentAgrees, zone_read}
use Rattle.timefd_date_moment.specs.Reading.Stamps.{instant_read, is_finer}
use Rattle.timefd_date_moment.specs.Reading.Times as of_time
use Rattle.timefd_date_moment.specs.Reading.Times.{clock_read, nanosecond_read}
use Rattle.timefd_date_moment.specs.Reading.Values.{IsDateOf, IsInstantOf, IsMomentOf, IsTimeOf}
use Rattle.timefd_date_moment.specs.Reading.Ways.{IsDetermined, date_way}

-- A fraction with more digits than the timestamp has all digits of the second. Without one, the digits
-- after those of the timestamp are 0.
abbrev pub HasRest : Bool → Option Fraction → ℕ → ℕ → Type 0
HasRest true fraction unit n = nanosecond_read fraction ≡ n
HasRest false fraction unit n = n % unit ≡ 0

abbrev pub HasDigitsBy : Option Fraction → Option Signed → Option Signed → Option Signed → ℕ → Type 0
HasDigitsBy fraction (Some s) us ms n = ⊤
HasDigitsBy fraction None (Some s) ms n = HasRest (is_finer fraction 6) fraction 1000 n
HasDigitsBy fraction None None (Some s) n = HasRest (is_finer fraction 3) fraction 1000000 n
HasDigitsBy fraction None None None n = nanosecond_read fraction ≡ n

-- the digits of the second that weren't read are 0
abbrev pub HasDigits : Fields → Time → Type 0
HasDigits f t =
    HasDigitsBy f.subsecond f.unix_nanosecond f.unix_microsecond f.unix_millisecond t.nanosecond

-- The moment agrees with all that was read, its offset is the one that was read, and its year in UTC is
-- within range.
abbrev pub IsRead : Fields → Date → Time → UtcOffset → Type 0
IsRead f d t o = MomentAgrees f d t o × HasShift (zone_read f) o × IsTrue (is_within (unix_time d t o))
    × HasDigits f t

abbrev pub AreThese : Date → Time → UtcOffset → Option Date → Option Time → Option UtcOffset → Type 0
AreThese d t o (Some e) (Some u) (Some p) =
    of_date.IsSame d e × of_time.IsSame t u × of_offset.IsSame o p
AreThese d t o _ _ _ = ⊥

abbrev pub AnswersMoment : Date → Time → UtcOffset → Result Moment ValueError → Type 0
AnswersMoment d t o (Ok m) = AreThese d t o m.date m.time m.offset
AnswersMoment d t o (Err e) = ⊥

-- If everything was read from one moment, the results are those of that moment: nothing else satisfies
-- the contracts.

abbrev pub StampedDateBack : Type 0
StampedDateBack = (f : Fields) (u : UnixTime) (d : Date) (t : Time) (o : UtcOffset)
    (r : Result Date ValueError) → instant_read f ≡ Some u → IsRead f d t o → IsDateOf f r
    → Answers of_date.IsSame d r

abbrev pub StampedTimeBack : Type 0
StampedTimeBack = (f : Fields) (u : UnixTime) (d : Date) (t : Time) (o : UtcOffset)
    (r : Result Time ValueError) → instant_read f ≡ Some u → IsRead f d t o → IsTimeOf f r
    → Answers of_time.IsSame t r

abbrev pub StampedMomentBack : Type 0
StampedMomentBack = (f : Fields) (u : UnixTime) (d : Date) (t : Time) (o : UtcOffset)
    (r : Result Moment ValueError) → instant_read f ≡ Some u → IsRead f d t o → IsMomentOf f r
    → AnswersMoment d t o r

abbrev pub StampedInstantBack : Type 0
StampedInstantBack = (f : Fields) (u : UnixTime) (d : Date) (t : Time) (o : UtcOffset)
    (r : Result UnixTime ValueError) → instant_read f ≡ Some u → IsRead f d t o → IsInstantOf f r
    → r ≡ Ok (unix_time d t o)

-- Without a timestamp, the instant is that of the date, the time and the offset that the fields
-- determine.
abbrev pub InstantBack : Type 0
InstantBack = (f : Fields) (d : Date) (t : Time) (o : UtcOffset) (r : Result UnixTime ValueError)
    → instant_read f ≡ None → IsDetermined (date_way f) → IsDetermined (clock_read f)
    → IsDetermined (shift_read f) → DateAgrees f d → TimeAgrees f t → OffsetAgrees f o → IsInstantOf f r
    → r ≡ Ok (unix_time d t o)

-- If no part of the value was read, it isn't known; otherwise it is this one.
abbrev pub IsKnown : {A : Type 0} → Bool → (A → A → Type 0) → A → Option A → Type 0
IsKnown false IsSame a None = ⊤
IsKnown false IsSame a (Some b) = ⊥
IsKnown true IsSame a None = ⊥
IsKnown true IsSame a (Some b) = IsSame a b

abbrev pub AnswersParts : Fields → Date → Time → UtcOffset → Result Moment ValueError → Type 0
AnswersParts f d t o (Ok m) = IsKnown (has_date f) of_date.IsSame d m.date
    × IsKnown (has_time f) of_time.IsSame t m.time × IsKnown (has_offset f) of_offset.IsSame o m.offset
AnswersParts f d t o (Err e) = ⊥

-- Without a timestamp, the moment has each part that something was read of, if the fields determine it.
abbrev pub MomentBack : Type 0
MomentBack = (f : Fields) (d : Date) (t : Time) (o : UtcOffset) (r : Result Moment ValueError)
    → instant_read f ≡ None → (has_date f ≡ true → IsDetermined (date_way f) × DateAgrees f d)
    → (has_time f ≡ true → IsDetermined (clock_read f) × TimeAgrees f t)
    → (has_offset f ≡ true → IsDetermined (shift_read f) × OffsetAgrees f o) → IsMomentOf f r
    → AnswersParts f d t o r
