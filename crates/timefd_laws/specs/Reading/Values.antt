-- What is read from a text that was written for a moment: as a date, a time, an offset and an instant.
use Rattle.std.specs.Prelude.{ℕ, ◌≡◌, ◌/◌, ◌%◌, ⊤, true, Option, Some, None, Result, Ok}
use Rattle.timefd_lang_component.specs.Tree.{Text, Tree}
use Rattle.timefd_date_format.specs.Written.{written}
use Rattle.timefd_date_moment.specs.declared.date.Date.{Date}
use Rattle.timefd_date_moment.specs.declared.time.Time.{Time}
use Rattle.timefd_date_moment.specs.declared.offset.UtcOffset.{UtcOffset}
use Rattle.timefd_date_moment.specs.declared.moment.Moment.{Moment}
use Rattle.timefd_date_moment.specs.declared.unix_time.UnixTime.{UnixTime}
use Rattle.timefd_date_moment.specs.Moments.{unix_time}
use Rattle.timefd_date_moment.specs.declared.fields.fields.Fields.{Fields}
use Rattle.timefd_date_moment.specs.declared.fields.fields.Fraction.{Fraction}
use Rattle.timefd_date_moment.specs.Fields.Readings.{unit}
use Rattle.timefd_date_moment.specs.Fields.Reads.{fields_of}
use Rattle.timefd_date_moment.specs.declared.reading.error.ValueError.{ValueError}
use Rattle.timefd_date_moment.specs.Reading.Dates as of_date
use Rattle.timefd_date_moment.specs.Reading.Known.{has_date, has_offset, has_time}
use Rattle.timefd_date_moment.specs.Reading.Laws.{Answers}
use Rattle.timefd_date_moment.specs.Reading.Offsets as of_offset
use Rattle.timefd_date_moment.specs.Reading.Offsets.{IsOffsetOf, shift_read}
use Rattle.timefd_date_moment.specs.Reading.StampLaws.{AnswersParts}
use Rattle.timefd_date_moment.specs.Reading.Stamps.{instant_read}
use Rattle.timefd_date_moment.specs.Reading.Times as of_time
use Rattle.timefd_date_moment.specs.Reading.Times.{clock_read}
use Rattle.timefd_date_moment.specs.Reading.Values.{IsDateOf, IsInstantOf, IsMomentOf, IsTimeOf}
use Rattle.timefd_date_moment.specs.Reading.Ways.{IsDetermined, date_way}
use Rattle.timefd_lang_warnings.specs.Settling.Settled.{is_settled}
use Rattle.timefd_laws.specs.Reading.Shown.{IsOf}

-- A settled description wrote the text for this date, time and offset, and read it back as these fields.
pub record IsReadBack (d : Date) (t : Time) (o : UtcOffset) (tree : Tree) (f : Fields) : Type 0 where
  pub moment : Moment
  pub text : Text
  pub is_of : IsOf moment d t o
  pub settles : is_settled tree ≡ true
  pub wrote : written moment tree ≡ Ok text
  pub read : fields_of tree text ≡ Ok f

-- Finer parts that the description doesn't show are 0.

abbrev pub IsZeroWithout : Option ℕ → ℕ → Type 0
IsZeroWithout None n = n ≡ 0
IsZeroWithout (Some read) n = ⊤

abbrev pub EndsWith : Option Fraction → ℕ → Type 0
EndsWith None n = n ≡ 0
EndsWith (Some fraction) n = n % unit fraction.digits ≡ 0

abbrev pub HasNoMoreTime : Fields → Time → Type 0
HasNoMoreTime f t = IsZeroWithout f.minute t.minute × IsZeroWithout f.second t.second
    × EndsWith f.subsecond t.nanosecond

abbrev pub HasNoMoreOffset : Fields → UtcOffset → Type 0
HasNoMoreOffset f o = IsZeroWithout f.offset_minute (o.seconds / 60 % 60)
    × IsZeroWithout f.offset_second (o.seconds % 60)

-- The laws for texts without a timestamp.

abbrev pub DateReadBack : Type 0
DateReadBack = (d : Date) (t : Time) (o : UtcOffset) (tree : Tree) (f : Fields) (r : Result Date ValueError)
    → IsReadBack d t o tree f → instant_read f ≡ None → IsDetermined (date_way f) → IsDateOf f r
    → Answers of_date.IsSame d r

abbrev pub TimeReadBack : Type 0
TimeReadBack = (d : Date) (t : Time) (o : UtcOffset) (tree : Tree) (f : Fields) (r : Result Time ValueError)
    → IsReadBack d t o tree f → instant_read f ≡ None → IsDetermined (clock_read f) → HasNoMoreTime f t
    → IsTimeOf f r → Answers of_time.IsSame t r

abbrev pub OffsetReadBack : Type 0
OffsetReadBack = (d : Date) (t : Time) (o : UtcOffset) (tree : Tree) (f : Fields)
    (r : Result UtcOffset ValueError) → IsReadBack d t o tree f → IsDetermined (shift_read f)
    → HasNoMoreOffset f o → IsOffsetOf f r → Answers of_offset.IsSame o r

abbrev pub InstantReadBack : Type 0
InstantReadBack = (d : Date) (t : Time) (o : UtcOffset) (tree : Tree) (f : Fields)
    (r : Result UnixTime ValueError) → IsReadBack d t o tree f → instant_read f ≡ None
    → IsDetermined (date_way f) → IsDetermined (clock_read f) → IsDetermined (shift_read f)
    → HasNoMoreTime f t → HasNoMoreOffset f o → IsInstantOf f r → r ≡ Ok (unix_time d t o)

abbrev pub MomentReadBack : Type 0
MomentReadBack = (d : Date) (t : Time) (o : UtcOffset) (tree : Tree) (f : Fields)
    (r : Result Moment ValueError) → IsReadBack d t o tree f → instant_read f ≡ None
    → (has_date f ≡ true → IsDetermined (date_way f))
    → (has_time f ≡ true → IsDetermined (clock_read f) × HasNoMoreTime f t)
    → (has_offset f ≡ true → IsDetermined (shift_read f) × HasNoMoreOffset f o) → IsMomentOf f r
    → AnswersParts f d t o r
