-- A moment that was read from a text and is written again gives the same moment.
use Rattle.std.specs.Prelude.{ℕ, ◌≡◌, ◌&&◌, ⊤, Bool, true, false, Option, Some, None, is_some, Result, Ok, Err}
use Rattle.timefd_lang_component.specs.Tree.{Text, Tree, component, literal, compound, optional, first, Trees, no_trees, more_trees}
use Rattle.timefd_date_format.specs.Written.{written}
use Rattle.timefd_date_moment.specs.declared.date.Date.{Date}
use Rattle.timefd_date_moment.specs.declared.time.Time.{Time}
use Rattle.timefd_date_moment.specs.declared.offset.UtcOffset.{UtcOffset}
use Rattle.timefd_date_moment.specs.declared.moment.Moment.{Moment}
use Rattle.timefd_date_moment.specs.declared.fields.fields.Fields.{Fields}
use Rattle.timefd_date_moment.specs.declared.fields.fields.Fraction.{Fraction}
use Rattle.timefd_date_moment.specs.Fields.Reads.{fields_of}
use Rattle.timefd_date_moment.specs.declared.reading.error.ValueError.{ValueError}
use Rattle.timefd_date_moment.specs.Reading.Dates as of_date
use Rattle.timefd_date_moment.specs.Reading.Offsets as of_offset
use Rattle.timefd_date_moment.specs.Reading.Times as of_time
use Rattle.timefd_date_moment.specs.Reading.Values.{IsMomentOf}
use Rattle.timefd_lang_warnings.specs.Settling.Settled.{is_settled}
use Rattle.timefd_laws.specs.Reading.Shown.{IsOf, Shows, fields_shown, shows}

abbrev pub digits_of : Option Fraction → Option ℕ
digits_of None = None
digits_of (Some fraction) = Some fraction.digits

-- which fields were read, and how many digits of a second's fraction
abbrev pub parts : Fields → Shows
parts f = record {
  year = is_some f.year;
  century = is_some f.century;
  year_last_two = is_some f.year_last_two;
  iso_year = is_some f.iso_year;
  iso_century = is_some f.iso_century;
  iso_year_last_two = is_some f.iso_year_last_two;
  month = is_some f.month;
  day = is_some f.day;
  ordinal = is_some f.ordinal;
  weekday = is_some f.weekday;
  iso_week = is_some f.iso_week;
  sunday_week = is_some f.sunday_week;
  monday_week = is_some f.monday_week;
  hour = is_some f.hour;
  hour_12 = is_some f.hour_12;
  is_afternoon = is_some f.is_afternoon;
  minute = is_some f.minute;
  second = is_some f.second;
  subsecond = digits_of f.subsecond;
  offset_hour = is_some f.offset_hour;
  offset_minute = is_some f.offset_minute;
  offset_second = is_some f.offset_second;
  unix_second = is_some f.unix_second;
  unix_millisecond = is_some f.unix_millisecond;
  unix_microsecond = is_some f.unix_microsecond;
  unix_nanosecond = is_some f.unix_nanosecond;
}

-- a description without optional parts and alternatives, like all of versions 1 and 2 and of strftime
abbrev mutual
  pub is_plain : Tree → Bool
  is_plain (component c) = true
  is_plain (literal bytes) = true
  is_plain (compound ts) = are_plain ts
  is_plain (optional format t) = false
  is_plain (first ts) = false

  pub are_plain : Trees → Bool
  are_plain no_trees = true
  are_plain (more_trees t ts) = is_plain t && are_plain ts

-- A plain description reads everything that it writes, and nothing else.
abbrev pub PartsRead : Type 0
PartsRead = (tree : Tree) (text : Text) (f : Fields) → is_plain tree ≡ true → fields_of tree text ≡ Ok f
    → parts f ≡ shows tree

-- A settled description read a text as a moment, and wrote that moment. The optional parts and alternatives
-- that were read are those that are written. The date, the time and the offset are those of the moment, if it
-- has them; with a timestamp it has all three.
pub record IsWrittenAgain (m : Moment) (d : Date) (t : Time) (o : UtcOffset) (tree : Tree) (f : Fields)
    (again : Text) : Type 0 where
  pub text : Text
  pub settles : is_settled tree ≡ true
  pub read : fields_of tree text ≡ Ok f
  pub same_parts : parts f ≡ shows tree
  pub moment : IsMomentOf f (Ok m)
  pub is_of : IsOf m d t o
  pub wrote : written m tree ≡ Ok again

-- The fields that are read from the new text are those of the moment.
abbrev pub FieldsAgain : Type 0
FieldsAgain = (m : Moment) (d : Date) (t : Time) (o : UtcOffset) (tree : Tree) (f : Fields) (again : Text)
    → IsWrittenAgain m d t o tree f again → fields_of tree again ≡ Ok (fields_shown d t o (shows tree))

-- both are known and are the same, or neither is known
abbrev pub BothKnown : {A : Type 0} → (A → A → Type 0) → Option A → Option A → Type 0
BothKnown IsSame None None = ⊤
BothKnown IsSame None (Some b) = ⊥
BothKnown IsSame (Some a) None = ⊥
BothKnown IsSame (Some a) (Some b) = IsSame a b

abbrev pub AnswersSame : Moment → Result Moment ValueError → Type 0
AnswersSame m (Ok n) = BothKnown of_date.IsSame m.date n.date × BothKnown of_time.IsSame m.time n.time
    × BothKnown of_offset.IsSame m.offset n.offset
AnswersSame m (Err e) = ⊥

-- The new text gives the same moment as the text that was read.
abbrev pub ShowsBack : Type 0
ShowsBack = (m : Moment) (d : Date) (t : Time) (o : UtcOffset) (tree : Tree) (f g : Fields) (again : Text)
    (r : Result Moment ValueError) → IsWrittenAgain m d t o tree f again → fields_of tree again ≡ Ok g
    → IsMomentOf g r → AnswersSame m r
