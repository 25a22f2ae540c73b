-- What is read from a text with a timestamp that was written for a moment.
use Rattle.std.specs.Prelude.{◌≡◌, IsTrue, Some, Result, Ok}
use Rattle.timefd_lang_component.specs.Tree.{Tree}
use Rattle.timefd_date_moment.specs.declared.date.Date.{Date}
use Rattle.timefd_date_moment.specs.declared.time.Time.{Time}
use Rattle.timefd_date_moment.specs.declared.offset.UtcOffset.{UtcOffset}
use Rattle.timefd_date_moment.specs.declared.moment.Moment.{Moment}
use Rattle.timefd_date_moment.specs.declared.unix_time.UnixTime.{UnixTime}
use Rattle.timefd_date_moment.specs.Instants.{is_within}
use Rattle.timefd_date_moment.specs.Moments.{unix_time}
use Rattle.timefd_date_moment.specs.declared.fields.fields.Fields.{Fields}
use Rattle.timefd_date_moment.specs.declared.reading.error.ValueError.{ValueError}
use Rattle.timefd_date_moment.specs.Reading.Dates as of_date
use Rattle.timefd_date_moment.specs.Reading.Laws.{Answers}
use Rattle.timefd_date_moment.specs.Reading.Offsets.{HasShift}
use Rattle.timefd_date_moment.specs.Reading.StampLaws.{AnswersMoment, HasDigits}
use Rattle.timefd_date_moment.specs.Reading.Stamped.{zone_read}
use Rattle.timefd_date_moment.specs.Reading.Stamps.{instant_read}
use Rattle.timefd_date_moment.specs.Reading.Times as of_time
use Rattle.timefd_date_moment.specs.Reading.Values.{IsDateOf, IsInstantOf, IsMomentOf, IsTimeOf}
use Rattle.timefd_laws.specs.Reading.Values.{HasNoMoreOffset, IsReadBack}

-- The offset is the one that was read, or UTC if none was. Everything finer than what was read is 0, and the
-- instant is in the years of UTC.
abbrev pub IsStampedBack : Date → Time → UtcOffset → Tree → Fields → Type 0
IsStampedBack d t o tree f = IsReadBack d t o tree f × HasShift (zone_read f) o × HasNoMoreOffset f o
    × HasDigits f t × IsTrue (is_within (unix_time d t o))

abbrev pub StampedDateReadBack : Type 0
StampedDateReadBack = (d : Date) (t : Time) (o : UtcOffset) (tree : Tree) (f : Fields) (u : UnixTime)
    (r : Result Date ValueError) → IsStampedBack d t o tree f → instant_read f ≡ Some u → IsDateOf f r
    → Answers of_date.IsSame d r

abbrev pub StampedTimeReadBack : Type 0
StampedTimeReadBack = (d : Date) (t : Time) (o : UtcOffset) (tree : Tree) (f : Fields) (u : UnixTime)
    (r : Result Time ValueError) → IsStampedBack d t o tree f → instant_read f ≡ Some u → IsTimeOf f r
    → Answers of_time.IsSame t r

abbrev pub StampedMomentReadBack : Type 0
StampedMomentReadBack = (d : Date) (t : Time) (o : UtcOffset) (tree : Tree) (f : Fields) (u : UnixTime)
    (r : Result Moment ValueError) → IsStampedBack d t o tree f → instant_read f ≡ Some u → IsMomentOf f r
    → AnswersMoment d t o r

abbrev pub StampedInstantReadBack : Type 0
StampedInstantReadBack = (d : Date) (t : Time) (o : UtcOffset) (tree : Tree) (f : Fields) (u : UnixTime)
    (r : Result UnixTime ValueError) → IsStampedBack d t o tree f → instant_read f ≡ Some u
    → IsInstantOf f r → r ≡ Ok (unix_time d t o)
