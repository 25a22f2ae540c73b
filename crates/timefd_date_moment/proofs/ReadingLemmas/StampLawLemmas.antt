-- What was read from a moment with its timestamp gives back that moment.
use Rattle.std.proofs.Common.{ℕ, ◌≡◌, ◌∙◌, ◌+◌, ◌-◌, ◌*◌, inl, inr, Bool, true, false, Option, Some, None, Result, Ok, Err, if◌then◌else◌, refl, sym, ap, subst}
use Rattle.timefd_date_moment.specs.declared.fields.fields.Fields.{Fields}
use Rattle.timefd_date_moment.specs.declared.date.Date.{Date}
use Rattle.timefd_date_moment.specs.declared.time.Time.{Time}
use Rattle.timefd_date_moment.specs.declared.offset.UtcOffset.{UtcOffset}
use Rattle.timefd_date_moment.specs.declared.moment.Moment.{Moment}
use Rattle.timefd_date_moment.specs.declared.unix_time.UnixTime.{UnixTime}
use Rattle.timefd_date_moment.specs.Calendar.{days_of_years, ordinal}
use Rattle.timefd_date_moment.specs.Moments.{unix_time, utc_nanoseconds}
use Rattle.timefd_date_moment.specs.declared.reading.error.ValueError.{ValueError}
use Rattle.timefd_date_moment.specs.declared.reading.error.ValueError.TheVariants as error
use Rattle.timefd_date_moment.specs.declared.reading.offsets.Shift.{Shift}
use Rattle.timefd_date_moment.specs.declared.reading.part.OffsetPart.{OffsetPart}
use Rattle.timefd_date_moment.specs.declared.reading.part.Part.TheVariants as part
use Rattle.timefd_date_moment.specs.declared.reading.stamped.Stamped.{Stamped}
use Rattle.timefd_date_moment.specs.Reading.Dates as of_date
use Rattle.timefd_date_moment.specs.Reading.Known.{has_date, has_offset, has_time}
use Rattle.timefd_date_moment.specs.Reading.Laws.{Answers}
use Rattle.timefd_date_moment.specs.Reading.Offsets as of_offset
use Rattle.timefd_date_moment.specs.Reading.Offsets.{HasShift}
use Rattle.timefd_date_moment.specs.Reading.StampLaws.{AnswersMoment, AnswersParts, AreThese, InstantBack, IsKnown, IsRead, MomentBack, StampedDateBack, StampedInstantBack, StampedMomentBack, StampedTimeBack}
use Rattle.timefd_date_moment.specs.Reading.Stamped.{IsStamped, moment_has, moment_parts, zone_read}
use Rattle.timefd_date_moment.specs.Reading.Stamps.{instant_read}
use Rattle.timefd_date_moment.specs.Reading.Times as of_time
use Rattle.timefd_date_moment.specs.Reading.Values.{IsDateBy, IsInstantBy, IsInstantByParts, IsMomentBy, IsMomentByParts, IsPart, IsTimeBy}
use Rattle.timefd_date_moment.proofs.ReadingLemmas.InstantLemmas.{shown_back}
use Rattle.timefd_date_moment.proofs.ReadingLemmas.LawLemmas.{date_answered, offset_back, one_shift, time_answered}
use Rattle.timefd_date_moment.proofs.ReadingLemmas.ShownLemmas.{clash, some_false}
use Rattle.timefd_date_moment.proofs.ReadingLemmas.StampedLemmas.{one_local, unix_at}

one_zone : (r : Result Shift OffsetPart) (o p : UtcOffset) → HasShift r o → HasShift r p → of_offset.IsSame o p
one_zone (Ok s) o p x y = one_shift s o p x y
one_zone (Err q) o p x y = absurd x

-- what the clock shows at the instant is the moment
one_stamped : (f : Fields) (u : UnixTime) (d : Date) (t : Time) (o : UtcOffset) (s : Stamped)
    → instant_read f ≡ Some u → IsRead f d t o → IsStamped f u (Ok s)
    → AreThese d t o (Some s.date) (Some s.time) (Some s.offset)
one_stamped f u d t o s e is h =
    let same = one_zone (zone_read f) o s.offset is.1 h.1.1 in
    let instant : utc_nanoseconds d t o ≡ utc_nanoseconds s.date s.time s.offset =
    (shown_back f u d t o e is).0 ∙ sym h.1.0.0 in
    let local = one_local d s.date t s.time o s.offset same instant in
    (local.0, local.1, same)

-- and so there is no error
none_wrong : (f : Fields) (u : UnixTime) (d : Date) (t : Time) (o : UtcOffset) (r : ValueError)
    → instant_read f ≡ Some u → IsRead f d t o → IsStamped f u (Err r) → ⊥
none_wrong f u d t o (error.Missing (part.Date p)) e is h = absurd h
none_wrong f u d t o (error.Missing (part.Time p)) e is h = absurd h
none_wrong f u d t o (error.Missing (part.Offset p)) e is h =
    subst (λ (r : Result Shift OffsetPart). HasShift r o) h is.1
none_wrong f u d t o (error.Missing (part.Instant p)) e is h = absurd h
none_wrong f u d t o (error.Contradiction p) e is h =
    clash (moment_has f d t o p)
    (some_false (moment_has f d t o) moment_parts p (h.1.0 d t o (shown_back f u d t o e is, is.1))) (is.0 p)

date_answered_by : (f : Fields) (u : UnixTime) (d : Date) (t : Time) (o : UtcOffset)
    (r : Result Date ValueError) → instant_read f ≡ Some u → IsRead f d t o → IsDateBy (Some u) f r
    → Answers of_date.IsSame d r
date_answered_by f u d t o (Ok x) e is h =
    subst (λ (y : Date). of_date.IsSame d y) (sym h.2) (one_stamped f u d t o h.0 e is h.1).0
date_answered_by f u d t o (Err x) e is h = none_wrong f u d t o x e is h

pub stamped_date_back : StampedDateBack
stamped_date_back f u d t o r e is h =
    date_answered_by f u d t o r e is (subst (λ (x : Option UnixTime). IsDateBy x f r) e h)

time_answered_by : (f : Fields) (u : UnixTime) (d : Date) (t : Time) (o : UtcOffset)
    (r : Result Time ValueError) → instant_read f ≡ Some u → IsRead f d t o → IsTimeBy (Some u) f r
    → Answers of_time.IsSame t r
time_answered_by f u d t o (Ok x) e is h =
    subst (λ (y : Time). of_time.IsSame t y) (sym h.2) (one_stamped f u d t o h.0 e is h.1).1
time_answered_by f u d t o (Err x) e is h = none_wrong f u d t o x e is h

pub stamped_time_back : StampedTimeBack
stamped_time_back f u d t o r e is h =
    time_answered_by f u d t o r e is (subst (λ (x : Option UnixTime). IsTimeBy x f r) e h)

moment_answered : (f : Fields) (u : UnixTime) (d : Date) (t : Time) (o : UtcOffset)
    (r : Result Moment ValueError) → instant_read f ≡ Some u → IsRead f d t o → IsMomentBy (Some u) f r
    → AnswersMoment d t o r
moment_answered f u d t o (Ok m) e is h =
    subst (λ (x : Moment). AreThese d t o x.date x.time x.offset) (sym h.2)
    (one_stamped f u d t o h.0 e is h.1)
moment_answered f u d t o (Err x) e is h = none_wrong f u d t o x e is h

pub stamped_moment_back : StampedMomentBack
stamped_moment_back f u d t o r e is h =
    moment_answered f u d t o r e is (subst (λ (x : Option UnixTime). IsMomentBy x f r) e h)

instant_answered : (f : Fields) (u : UnixTime) (d : Date) (t : Time) (o : UtcOffset)
    (r : Result UnixTime ValueError) → instant_read f ≡ Some u → IsRead f d t o → IsInstantBy (Some u) f r
    → r ≡ Ok (unix_time d t o)
instant_answered f u d t o (Ok v) e is h =
    let same : utc_nanoseconds h.0.date h.0.time h.0.offset ≡ utc_nanoseconds d t o =
    h.1.1.0.0 ∙ sym (shown_back f u d t o e is).0 in
    ap (λ (x : UnixTime). Ok x) (h.2 ∙ ap unix_at same)
instant_answered f u d t o (Err x) e is h = absurd (none_wrong f u d t o x e is h)

pub stamped_instant_back : StampedInstantBack
stamped_instant_back f u d t o r e is h =
    instant_answered f u d t o r e is (subst (λ (x : Option UnixTime). IsInstantBy x f r) e h)

-- the nanoseconds of these numbers
abbrev counted : ℕ → ℕ → ℕ → ℕ → ℕ → ℕ → ℕ → Bool → ℕ → ℕ
counted y m n h x s k b seconds =
    (if b then (days_of_years y + (ordinal y m n - 1)) * 86400 + (h * 3600 + x * 60 + s) + 100000 + seconds
    else (days_of_years y + (ordinal y m n - 1)) * 86400 + (h * 3600 + x * 60 + s) + 100000 - seconds)
    * 1000000000 + k

counted_same : (d e : Date) (t u : Time) (o p : UtcOffset) → of_date.IsSame d e → of_time.IsSame t u
    → of_offset.IsSame o p → utc_nanoseconds d t o ≡ utc_nanoseconds e u p
counted_same d e t u o p x y z = λ i.
    counted (x.0 i) (x.1 i) (x.2 i) (y.0 i) (y.1 i) (y.2 i) (y.3 i) (z.1 i) (z.0 i)

instant_of : (f : Fields) (d : Date) (t : Time) (o : UtcOffset) (r : Result UnixTime ValueError)
    → ((x : Result Date ValueError) → of_date.IsDateByParts f x → Answers of_date.IsSame d x)
    → ((x : Result Time ValueError) → of_time.IsTimeByParts f x → Answers of_time.IsSame t x)
    → ((x : Result UtcOffset ValueError) → of_offset.IsOffsetOf f x → Answers of_offset.IsSame o x)
    → IsInstantByParts f r → r ≡ Ok (unix_time d t o)
instant_of f d t o (Ok u) date time offset (e, v, p, x, y, z, is) =
    ap (λ (w : UnixTime). Ok w)
    (is ∙ ap unix_at (sym (counted_same d e t v o p (date (Ok e) x) (time (Ok v) y) (offset (Ok p) z))))
instant_of f d t o (Err r) date time offset (inl x) = absurd (date (Err r) x)
instant_of f d t o (Err r) date time offset (inr (e, inl x)) = absurd (time (Err r) x)
instant_of f d t o (Err r) date time offset (inr (e, inr (v, x))) = absurd (offset (Err r) x)

pub instant_back : InstantBack
instant_back f d t o r none way clock shift x y z is =
    instant_of f d t o r (λ k. date_answered f d k way x) (λ k. time_answered f t k clock y)
    (λ k. offset_back f o k shift z) (subst (λ (k : Option UnixTime). IsInstantBy k f r) none is)

-- A value is the one that its fields determine, or isn't known.
part_of : {A : Type 0} (b : Bool) (IsSame : A → A → Type 0) (a : A) (Is : Result A ValueError → Type 0)
    (r : Result (Option A) ValueError) → (b ≡ true → (x : Result A ValueError) → Is x → Answers IsSame a x)
    → IsPart b Is r → (o : Option A) → r ≡ Ok o → IsKnown b IsSame a o
part_of {A = A} b IsSame a Is r back is o e =
    known b o back (subst (λ (x : Result (Option A) ValueError). IsPart b Is x) e is)
  where
    known : (t : Bool) (x : Option A)
        → (t ≡ true → (y : Result A ValueError) → Is y → Answers IsSame a y) → IsPart t Is (Ok x)
        → IsKnown t IsSame a x
    known false None back is = tt
    known false (Some x) back is = absurd is
    known true None back is = absurd is
    known true (Some x) back is = back refl (Ok x) is

part_wrong : {A : Type 0} (b : Bool) (IsSame : A → A → Type 0) (a : A) (Is : Result A ValueError → Type 0)
    (e : ValueError) → (b ≡ true → (x : Result A ValueError) → Is x → Answers IsSame a x)
    → IsPart b Is (Err e) → ⊥
part_wrong false IsSame a Is e back is = absurd is
part_wrong true IsSame a Is e back is = back refl (Err e) is

moment_of : (f : Fields) (d : Date) (t : Time) (o : UtcOffset) (r : Result Moment ValueError)
    → (has_date f ≡ true → (x : Result Date ValueError) → of_date.IsDateByParts f x
    → Answers of_date.IsSame d x)
    → (has_time f ≡ true → (x : Result Time ValueError) → of_time.IsTimeByParts f x
    → Answers of_time.IsSame t x)
    → (has_offset f ≡ true → (x : Result UtcOffset ValueError) → of_offset.IsOffsetOf f x
    → Answers of_offset.IsSame o x)
    → IsMomentByParts f r → AnswersParts f d t o r
moment_of f d t o (Ok m) date time offset is = (
  part_of (has_date f) of_date.IsSame d (of_date.IsDateByParts f) (Ok m.date) date is.0 m.date refl,
  part_of (has_time f) of_time.IsSame t (of_time.IsTimeByParts f) (Ok m.time) time is.1 m.time refl,
  part_of (has_offset f) of_offset.IsSame o (of_offset.IsOffsetOf f) (Ok m.offset) offset is.2 m.offset refl,
)
moment_of f d t o (Err e) date time offset (inl x) =
    part_wrong (has_date f) of_date.IsSame d (of_date.IsDateByParts f) e date x
moment_of f d t o (Err e) date time offset (inr (k, inl x)) =
    part_wrong (has_time f) of_time.IsSame t (of_time.IsTimeByParts f) e time x
moment_of f d t o (Err e) date time offset (inr (k, inr (n, x))) =
    part_wrong (has_offset f) of_offset.IsSame o (of_offset.IsOffsetOf f) e offset x

pub moment_back : MomentBack
moment_back f d t o r none date time offset is =
    moment_of f d t o r (λ h x. date_answered f d x (date h).0 (date h).1)
    (λ h x. time_answered f t x (time h).0 (time h).1) (λ h x. offset_back f o x (offset h).0 (offset h).1)
    (subst (λ (k : Option UnixTime). IsMomentBy k f r) none is)
