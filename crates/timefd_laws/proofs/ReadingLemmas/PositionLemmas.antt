-- The fields. Each comes with what holds of it, whatever else was read.
use Rattle.std.proofs.Common.{ℕ, ◌≡◌, ◌/◌, ◌%◌, Bool, true, nat_le, Option, Some, None, refl}
use Rattle.std.specs.Prelude.{is_some}
use Rattle.std.proofs.lemmas.Bool.{or_left, or_right}
use Rattle.timefd_date_format.specs.Kinds.{Kind}
use Rattle.timefd_date_format.specs.Kinds as of
use Rattle.timefd_date_moment.specs.declared.date.Date.{Date}
use Rattle.timefd_date_moment.specs.declared.time.Time.{Time}
use Rattle.timefd_date_moment.specs.declared.offset.UtcOffset.{UtcOffset}
use Rattle.timefd_date_moment.specs.Moments as moment
use Rattle.timefd_date_moment.specs.Moments.{date_ordinal, days_from_monday, hour_of_twelve, iso_years, magnitude, unix_time}
use Rattle.timefd_date_moment.specs.declared.fields.fields.Fields.{Fields}
use Rattle.timefd_date_moment.specs.declared.fields.fields.Signed.{Signed}
use Rattle.timefd_date_moment.specs.Reading.Known.{has_hour}
use Rattle.timefd_date_moment.specs.Reading.Stamped.{whole_seconds}
use Rattle.timefd_laws.specs.Reading.Again.{parts}
use Rattle.timefd_laws.specs.Reading.Shown.{Shows, fields_shown, if_shown, with_sign, year_part}
use Rattle.timefd_laws.proofs.ReadingLemmas.GrowLemmas.{InRange, Range, but, century_more, iso_century_more, iso_year_more, kinds}
use Rattle.timefd_laws.proofs.ReadingLemmas.GrowLemmas.{year_more, years, has_kind, in_clock, in_day, in_hour, in_iso_year, in_week}
use Rattle.timefd_laws.proofs.ReadingLemmas.GrowLemmas.{in_year, one, three, two}
use Rattle.timefd_laws.proofs.ReadingLemmas.RowLemmas.{merged}

-- Setting the field adds one part of its kind, and everything else stays: which other kinds are known, and
-- the digits of a second.
abbrev IsSet : {A : Type 0} → Kind → (Fields → Option A) → (Fields → A → Fields) → (Shows → Bool → Shows) → Type 0
IsSet {A = A} k get set put_in = (f : Fields) (a : A) → (get (set f a) ≡ Some a)
    × (but k (kinds f) ≡ but k (kinds (set f a))) × (parts (set f a) ≡ put_in (parts f) true)
    × (parts f ≡ put_in (parts f) (is_some (get f))) × ((set f a).subsecond ≡ f.subsecond)

-- Setting the field to its value for a moment is the same as showing it.
abbrev IsShown : {A : Type 0} → (Fields → Option A) → (Fields → A → Fields) → (Shows → Bool) → (Shows → Bool → Shows)
    → (Date → Time → UtcOffset → A) → Type 0
IsShown get set is_in put_in value = (d : Date) (t : Time) (o : UtcOffset) (s : Shows)
    → (set (fields_shown d t o s) (value d t o) ≡ fields_shown d t o (put_in s true))
    × (get (fields_shown d t o s) ≡ if_shown (is_in s) (value d t o)) × (put_in s (is_in s) ≡ s)

-- a field of this kind, with the part that it is, and its value for a moment
pub record WriteCursor (A : Type 0) : Type 0 where
  pub kind : Kind
  pub get : Fields → Option A
  pub set : Fields → A → Fields
  pub is_in : Shows → Bool
  pub put_in : Shows → Bool → Shows
  pub value : Date → Time → UtcOffset → A
  pub known : (f : Fields) → is_some (get f) ≡ true → has_kind kind f ≡ true
  pub is_set : IsSet kind get set put_in
  pub is_shown : IsShown get set is_in put_in value
  -- Years that were read keep their bounds.
  pub range : (f : Fields) (a : A) → get f ≡ None → (r : Range) → InRange r (years f) → InRange r (years (set f a))

abbrev position : {A : Type 0} (k : Kind) (get : Fields → Option A) (set : Fields → A → Fields) (is_in : Shows → Bool)
    (put_in : Shows → Bool → Shows) (value : Date → Time → UtcOffset → A)
    → ((f : Fields) → is_some (get f) ≡ true → has_kind k f ≡ true) → IsSet k get set put_in
    → IsShown get set is_in put_in value
    → ((f : Fields) (a : A) → get f ≡ None → (r : Range) → InRange r (years f) → InRange r (years (set f a))) → WriteCursor A
position k get set is_in put_in value known is_set is_shown range = record {
  kind = k;
  get = get;
  set = set;
  is_in = is_in;
  put_in = put_in;
  value = value;
  known = known;
  is_set = is_set;
  is_shown = is_shown;
  range = range;
}

abbrev pub year_last_two : WriteCursor ℕ
year_last_two = position of.Date (λ f. f.year_last_two) (λ f x. record f { year_last_two = Some x }) (λ s. s.year_last_two)
    (λ s b. record s { year_last_two = b }) (λ d t o. magnitude d.years % 100)
    (λ f e. in_year f (three (is_some f.year) (is_some f.century) _ e)) (λ f a. (refl, refl, refl, refl, refl))
    (λ d t o s. (refl, refl, refl)) (λ f a none r h. h)

abbrev pub iso_year_last_two : WriteCursor ℕ
iso_year_last_two = position of.Date (λ f. f.iso_year_last_two) (λ f x. record f { iso_year_last_two = Some x })
    (λ s. s.iso_year_last_two) (λ s b. record s { iso_year_last_two = b }) (λ d t o. magnitude (iso_years d) % 100)
    (λ f e. in_iso_year f (three (is_some f.iso_year) (is_some f.iso_century) _ e))
    (λ f a. (refl, refl, refl, refl, refl)) (λ d t o s. (refl, refl, refl)) (λ f a none r h. h)

abbrev pub month : WriteCursor ℕ
month = position of.Date (λ f. f.month) (λ f x. record f { month = Some x }) (λ s. s.month) (λ s b. record s { month = b })
    (λ d t o. d.month) (λ f e. in_day f (one _ _ _ e)) (λ f a. (refl, refl, refl, refl, refl))
    (λ d t o s. (refl, refl, refl)) (λ f a none r h. h)

abbrev pub day : WriteCursor ℕ
day = position of.Date (λ f. f.day) (λ f x. record f { day = Some x }) (λ s. s.day) (λ s b. record s { day = b })
    (λ d t o. d.day) (λ f e. in_day f (two _ _ _ e)) (λ f a. (refl, refl, refl, refl, refl))
    (λ d t o s. (refl, refl, refl)) (λ f a none r h. h)

abbrev pub ordinal : WriteCursor ℕ
ordinal = position of.Date (λ f. f.ordinal) (λ f x. record f { ordinal = Some x }) (λ s. s.ordinal)
    (λ s b. record s { ordinal = b }) (λ d t o. date_ordinal d)
    (λ f e. in_day f (three (is_some f.month) (is_some f.day) _ e)) (λ f a. (refl, refl, refl, refl, refl))
    (λ d t o s. (refl, refl, refl)) (λ f a none r h. h)

abbrev pub weekday : WriteCursor ℕ
weekday = position of.Date (λ f. f.weekday) (λ f x. record f { weekday = Some x }) (λ s. s.weekday)
    (λ s b. record s { weekday = b }) (λ d t o. days_from_monday d) (λ f e. in_week f (or_left _ _ (one _ _ _ e)))
    (λ f a. (refl, refl, refl, refl, refl)) (λ d t o s. (refl, refl, refl)) (λ f a none r h. h)

abbrev pub iso_week : WriteCursor ℕ
iso_week = position of.Date (λ f. f.iso_week) (λ f x. record f { iso_week = Some x }) (λ s. s.iso_week)
    (λ s b. record s { iso_week = b }) (λ d t o. moment.iso_week d) (λ f e. in_week f (or_left _ _ (two _ _ _ e)))
    (λ f a. (refl, refl, refl, refl, refl)) (λ d t o s. (refl, refl, refl)) (λ f a none r h. h)

abbrev pub sunday_week : WriteCursor ℕ
sunday_week = position of.Date (λ f. f.sunday_week) (λ f x. record f { sunday_week = Some x }) (λ s. s.sunday_week)
    (λ s b. record s { sunday_week = b }) (λ d t o. moment.sunday_week d)
    (λ f e. in_week f (or_left _ (is_some f.monday_week) (three (is_some f.weekday) (is_some f.iso_week) _ e)))
    (λ f a. (refl, refl, refl, refl, refl)) (λ d t o s. (refl, refl, refl)) (λ f a none r h. h)

abbrev pub monday_week : WriteCursor ℕ
monday_week = position of.Date (λ f. f.monday_week) (λ f x. record f { monday_week = Some x }) (λ s. s.monday_week)
    (λ s b. record s { monday_week = b }) (λ d t o. moment.monday_week d) (λ f e. in_week f (or_right _ _ e))
    (λ f a. (refl, refl, refl, refl, refl)) (λ d t o s. (refl, refl, refl)) (λ f a none r h. h)

abbrev pub hour : WriteCursor ℕ
hour = position of.Time (λ f. f.hour) (λ f x. record f { hour = Some x }) (λ s. s.hour) (λ s b. record s { hour = b })
    (λ d t o. t.hour) (λ f e. in_hour f (one _ _ _ e)) (λ f a. (refl, refl, refl, refl, refl))
    (λ d t o s. (refl, refl, refl)) (λ f a none r h. h)

abbrev pub hour_12 : WriteCursor ℕ
hour_12 = position of.Time (λ f. f.hour_12) (λ f x. record f { hour_12 = Some x }) (λ s. s.hour_12)
    (λ s b. record s { hour_12 = b }) (λ d t o. hour_of_twelve t.hour) (λ f e. in_hour f (two _ _ _ e))
    (λ f a. (refl, refl, refl, refl, refl)) (λ d t o s. (refl, refl, refl)) (λ f a none r h. h)

abbrev pub is_afternoon : WriteCursor Bool
is_afternoon = position of.Time (λ f. f.is_afternoon) (λ f x. record f { is_afternoon = Some x }) (λ s. s.is_afternoon)
    (λ s b. record s { is_afternoon = b }) (λ d t o. nat_le 12 t.hour)
    (λ f e. in_hour f (three (is_some f.hour) (is_some f.hour_12) _ e)) (λ f a. (refl, refl, refl, refl, refl))
    (λ d t o s. (refl, refl, refl)) (λ f a none r h. h)

abbrev pub minute : WriteCursor ℕ
minute = position of.Time (λ f. f.minute) (λ f x. record f { minute = Some x }) (λ s. s.minute)
    (λ s b. record s { minute = b }) (λ d t o. t.minute) (λ f e. in_clock f (two _ _ _ e))
    (λ f a. (refl, refl, refl, refl, refl)) (λ d t o s. (refl, refl, refl)) (λ f a none r h. h)

abbrev pub second : WriteCursor ℕ
second = position of.Time (λ f. f.second) (λ f x. record f { second = Some x }) (λ s. s.second)
    (λ s b. record s { second = b }) (λ d t o. t.second) (λ f e. in_clock f (three (has_hour f) (is_some f.minute) _ e))
    (λ f a. (refl, refl, refl, refl, refl)) (λ d t o s. (refl, refl, refl)) (λ f a none r h. h)

abbrev pub offset_hour : WriteCursor Signed
offset_hour = position of.Offset (λ f. f.offset_hour) (λ f x. record f { offset_hour = Some x }) (λ s. s.offset_hour)
    (λ s b. record s { offset_hour = b }) (λ d t o. with_sign o.is_negative (o.seconds / 3600)) (λ f e. one _ _ _ e)
    (λ f a. (refl, refl, refl, refl, refl)) (λ d t o s. (refl, refl, refl)) (λ f a none r h. h)

abbrev pub offset_minute : WriteCursor ℕ
offset_minute = position of.Offset (λ f. f.offset_minute) (λ f x. record f { offset_minute = Some x }) (λ s. s.offset_minute)
    (λ s b. record s { offset_minute = b }) (λ d t o. o.seconds / 60 % 60) (λ f e. two _ _ _ e)
    (λ f a. (refl, refl, refl, refl, refl)) (λ d t o s. (refl, refl, refl)) (λ f a none r h. h)

abbrev pub offset_second : WriteCursor ℕ
offset_second = position of.Offset (λ f. f.offset_second) (λ f x. record f { offset_second = Some x }) (λ s. s.offset_second)
    (λ s b. record s { offset_second = b }) (λ d t o. o.seconds % 60)
    (λ f e. three (is_some f.offset_hour) (is_some f.offset_minute) _ e) (λ f a. (refl, refl, refl, refl, refl))
    (λ d t o s. (refl, refl, refl)) (λ f a none r h. h)

abbrev pub unix_second : WriteCursor Signed
unix_second = position of.Instant (λ f. f.unix_second) (λ f x. record f { unix_second = Some x }) (λ s. s.unix_second)
    (λ s b. record s { unix_second = b })
    (λ d t o. with_sign (unix_time d t o).is_negative (whole_seconds (unix_time d t o)))
    (λ f e. or_right (is_some f.unix_nanosecond) _ (or_right (is_some f.unix_microsecond) _
    (or_right (is_some f.unix_millisecond) _ e)))
    (λ f a. (refl, refl, refl, refl, refl)) (λ d t o s. (refl, refl, refl)) (λ f a none r h. h)

abbrev pub unix_millisecond : WriteCursor Signed
unix_millisecond = position of.Instant (λ f. f.unix_millisecond) (λ f x. record f { unix_millisecond = Some x })
    (λ s. s.unix_millisecond) (λ s b. record s { unix_millisecond = b })
    (λ d t o. with_sign (unix_time d t o).is_negative ((unix_time d t o).nanoseconds / 1000000))
    (λ f e. or_right _ _ (or_right _ _ (or_left _ _ e))) (λ f a. (refl, refl, refl, refl, refl))
    (λ d t o s. (refl, refl, refl)) (λ f a none r h. h)

abbrev pub unix_microsecond : WriteCursor Signed
unix_microsecond = position of.Instant (λ f. f.unix_microsecond) (λ f x. record f { unix_microsecond = Some x })
    (λ s. s.unix_microsecond) (λ s b. record s { unix_microsecond = b })
    (λ d t o. with_sign (unix_time d t o).is_negative ((unix_time d t o).nanoseconds / 1000))
    (λ f e. or_right _ _ (or_left _ _ e)) (λ f a. (refl, refl, refl, refl, refl)) (λ d t o s. (refl, refl, refl))
    (λ f a none r h. h)

abbrev pub unix_nanosecond : WriteCursor Signed
unix_nanosecond = position of.Instant (λ f. f.unix_nanosecond) (λ f x. record f { unix_nanosecond = Some x })
    (λ s. s.unix_nanosecond) (λ s b. record s { unix_nanosecond = b })
    (λ d t o. with_sign (unix_time d t o).is_negative (unix_time d t o).nanoseconds) (λ f e. or_left _ _ e)
    (λ f a. (refl, refl, refl, refl, refl)) (λ d t o s. (refl, refl, refl)) (λ f a none r h. h)

-- years, which may have any value if none was read before

abbrev pub year : WriteCursor Signed
year = position of.Date (λ f. f.year) (λ f x. record f { year = Some x }) (λ s. s.year) (λ s b. record s { year = b })
    (λ d t o. year_part d.years 1) (λ f e. in_year f (one _ _ _ e)) (λ f a. (refl, refl, refl, refl, refl))
    (λ d t o s. (refl, refl, refl)) (λ f a none. year_more (years f) (years (record f { year = Some a })) none refl)

abbrev pub century : WriteCursor Signed
century = position of.Date (λ f. f.century) (λ f x. record f { century = Some x }) (λ s. s.century)
    (λ s b. record s { century = b }) (λ d t o. year_part d.years 100) (λ f e. in_year f (two _ _ _ e))
    (λ f a. (refl, refl, refl, refl, refl)) (λ d t o s. (refl, refl, refl))
    (λ f a none. century_more (years f) (years (record f { century = Some a })) none refl)

abbrev pub iso_year : WriteCursor Signed
iso_year = position of.Date (λ f. f.iso_year) (λ f x. record f { iso_year = Some x }) (λ s. s.iso_year)
    (λ s b. record s { iso_year = b }) (λ d t o. year_part (iso_years d) 1) (λ f e. in_iso_year f (one _ _ _ e))
    (λ f a. (refl, refl, refl, refl, refl)) (λ d t o s. (refl, refl, refl))
    (λ f a none. iso_year_more (years f) (years (record f { iso_year = Some a })) none refl)

abbrev pub iso_century : WriteCursor Signed
iso_century = position of.Date (λ f. f.iso_century) (λ f x. record f { iso_century = Some x }) (λ s. s.iso_century)
    (λ s b. record s { iso_century = b }) (λ d t o. year_part (iso_years d) 100) (λ f e. in_iso_year f (two _ _ _ e))
    (λ f a. (refl, refl, refl, refl, refl)) (λ d t o s. (refl, refl, refl))
    (λ f a none. iso_century_more (years f) (years (record f { iso_century = Some a })) none refl)

-- The field that has this name in the reader is the field of this `WriteCursor`.
abbrev pub IsAt : {A F : Type 0} → (A → A → Bool) → (Fields → F → A → Option A → Option Fields) → (Fields → F → Option A)
    → F → WriteCursor A → Type 0
IsAt {A = A} is_same with_field get field position = (f : Fields) (n : A)
    → with_field f field n (get f field) ≡ merged is_same f (position.set f) n (position.get f)
