-- Laws about the values that fields determine.
use Rattle.std.specs.Prelude.{◌≡◌, None, Result, Ok, Err}
use Rattle.timefd_date_moment.specs.declared.fields.fields.Fields.{Fields}
use Rattle.timefd_date_moment.specs.declared.date.Date.{Date}
use Rattle.timefd_date_moment.specs.declared.time.Time.{Time}
use Rattle.timefd_date_moment.specs.declared.offset.UtcOffset.{UtcOffset}
use Rattle.timefd_date_moment.specs.declared.reading.error.ValueError.{ValueError}
use Rattle.timefd_date_moment.specs.Reading.Dates as of_date
use Rattle.timefd_date_moment.specs.Reading.Offsets as of_offset
use Rattle.timefd_date_moment.specs.Reading.Offsets.{IsOffsetOf, shift_read}
use Rattle.timefd_date_moment.specs.Reading.Shown.{DateAgrees, OffsetAgrees, TimeAgrees}
use Rattle.timefd_date_moment.specs.Reading.Times as of_time
use Rattle.timefd_date_moment.specs.Reading.Times.{clock_read}
use Rattle.timefd_date_moment.specs.Reading.Stamps.{instant_read}
use Rattle.timefd_date_moment.specs.Reading.Values.{IsDateOf, IsTimeOf}
use Rattle.timefd_date_moment.specs.Reading.Ways.{IsDetermined, date_way}

-- Fields that determine a value agree with at most one.

abbrev pub OneDate : Type 0
OneDate = (f : Fields) (d e : Date) → IsDetermined (date_way f) → DateAgrees f d → DateAgrees f e
    → of_date.IsSame d e

abbrev pub OneTime : Type 0
OneTime = (f : Fields) (t u : Time) → IsDetermined (clock_read f) → TimeAgrees f t → TimeAgrees f u
    → of_time.IsSame t u

abbrev pub OneOffset : Type 0
OneOffset = (f : Fields) (o p : UtcOffset) → IsDetermined (shift_read f) → OffsetAgrees f o
    → OffsetAgrees f p → of_offset.IsSame o p

-- If the fields read from a value determine one, the result is that value: nothing else satisfies the
-- contract. Fields with a timestamp have laws of their own.

abbrev pub Answers : {A : Type 0} → (A → A → Type 0) → A → Result A ValueError → Type 0
Answers IsSame a (Ok b) = IsSame a b
Answers IsSame a (Err e) = ⊥

abbrev pub DateBack : Type 0
DateBack = (f : Fields) (d : Date) (r : Result Date ValueError) → instant_read f ≡ None
    → IsDetermined (date_way f) → DateAgrees f d → IsDateOf f r → Answers of_date.IsSame d r

abbrev pub TimeBack : Type 0
TimeBack = (f : Fields) (t : Time) (r : Result Time ValueError) → instant_read f ≡ None
    → IsDetermined (clock_read f) → TimeAgrees f t → IsTimeOf f r → Answers of_time.IsSame t r

abbrev pub OffsetBack : Type 0
OffsetBack = (f : Fields) (o : UtcOffset) (r : Result UtcOffset ValueError) → IsDetermined (shift_read f)
    → OffsetAgrees f o → IsOffsetOf f r → Answers of_offset.IsSame o r
