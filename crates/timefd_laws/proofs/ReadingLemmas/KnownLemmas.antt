-- Whether fields determine a value depends only on which fields there are.
use Rattle.std.proofs.Common.{ℕ, ◌≡◌, ◌∙◌, ◌&&◌, ◌||◌, not, Bool, true, false, if◌then◌else◌, Option, Some, None, Result}
use Rattle.std.proofs.Common.{Ok, Err, refl, sym, ap, is_ok}
use Rattle.std.specs.Prelude.{is_some}
use Rattle.timefd_date_format.specs.Kinds.{Kind}
use Rattle.timefd_date_format.specs.Kinds as of
use Rattle.timefd_date_moment.specs.declared.fields.fields.Fields.{Fields}
use Rattle.timefd_date_moment.specs.declared.fields.fields.Fraction.{Fraction}
use Rattle.timefd_date_moment.specs.declared.fields.fields.Signed.{Signed}
use Rattle.timefd_date_moment.specs.declared.reading.part.OffsetPart.{OffsetPart}
use Rattle.timefd_date_moment.specs.declared.reading.part.TimePart.{TimePart}
use Rattle.timefd_date_moment.specs.Reading.Known.{has_time}
use Rattle.timefd_date_moment.specs.Reading.Offsets.{shift_at, shift_read}
use Rattle.timefd_date_moment.specs.Reading.Stamps.{instant_by, instant_read}
use Rattle.timefd_date_moment.specs.Reading.Times.{clock_at, clock_read, has_second, hour_read, is_left_out}
use Rattle.timefd_date_moment.specs.Reading.Ways.{IsDetermined, calendar, date_way, iso_week, lack, monday_week, or_else, ordinal}
use Rattle.timefd_date_moment.specs.Reading.Ways.{sunday_week, unless, way_of}
use Rattle.timefd_date_moment.specs.Reading.Years.{years_read}
use Rattle.timefd_date_moment.proofs.ReadingLemmas.ShownLemmas.{clash}
use Rattle.timefd_laws.specs.Reading.Again.{digits_of, parts}
use Rattle.timefd_laws.specs.Reading.Shown.{Shows}
use Rattle.timefd_laws.proofs.ReadingLemmas.GrowLemmas.{has_kind}

some_digits : (x : Option Fraction) → is_some (digits_of x) ≡ is_some x
some_digits None = refl
some_digits (Some f) = refl

-- what is determined

determined : {A E : Type 0} (r : Result A E) → is_ok r ≡ true → IsDetermined r
determined (Ok a) e = tt
determined (Err p) e = absurd (clash true (sym e) refl)

was_determined : {A E : Type 0} (r : Result A E) → IsDetermined r → is_ok r ≡ true
was_determined (Ok a) h = refl
was_determined (Err p) h = absurd h

-- dates

some_years : (y c : Option Signed) (n : Option ℕ)
    → is_some (years_read y c n) ≡ is_some y || (is_some c && is_some n)
some_years (Some y) c n = refl
some_years None None n = refl
some_years None (Some c) None = refl
some_years None (Some c) (Some n) = refl

some_calendar : (y m d : Option ℕ) → is_some (calendar y m d) ≡ is_some y && (is_some m && is_some d)
some_calendar (Some y) (Some m) (Some d) = refl
some_calendar y m d = refl

some_ordinal : (y n : Option ℕ) → is_some (ordinal y n) ≡ is_some y && is_some n
some_ordinal (Some y) (Some n) = refl
some_ordinal y n = refl

some_iso_week : (y w d : Option ℕ) → is_some (iso_week y w d) ≡ is_some y && (is_some w && is_some d)
some_iso_week (Some y) (Some w) (Some d) = refl
some_iso_week y w d = refl

some_sunday_week : (y w d : Option ℕ) → is_some (sunday_week y w d) ≡ is_some y && (is_some w && is_some d)
some_sunday_week (Some y) (Some w) (Some d) = refl
some_sunday_week y w d = refl

some_monday_week : (y w d : Option ℕ) → is_some (monday_week y w d) ≡ is_some y && (is_some w && is_some d)
some_monday_week (Some y) (Some w) (Some d) = refl
some_monday_week y w d = refl

-- either of two ways
either_way : {W : Type 0} (either : Option W → Option W → Option W) (a b : Option W)
    → ((w : W) → is_some (either (Some w) b) ≡ true) → is_some (either None b) ≡ is_some b
    → is_some (either a b) ≡ is_some a || is_some b
either_way either (Some w) b one other = one w
either_way either None b one other = other

any_way : {W E : Type 0} (g : Option W → Result W E) (w : Option W) → ((x : W) → is_ok (g (Some x)) ≡ true)
    → is_ok (g None) ≡ false → is_ok (g w) ≡ is_some w
any_way g None some none = none
any_way g (Some x) some none = some x

-- with a year and an ISO year or without
abbrev way_known : Bool → Bool → Shows → Bool
way_known years iso_years s =
    (years && (s.month && s.day)) || ((years && s.ordinal) || ((iso_years && (s.iso_week && s.weekday))
    || ((years && (s.sunday_week && s.weekday)) || (years && (s.monday_week && s.weekday)))))

abbrev date_known : Shows → Bool
date_known s = way_known (s.year || (s.century && s.year_last_two))
    (s.iso_year || (s.iso_century && s.iso_year_last_two)) s

some_way : (f : Fields) (y i : Option ℕ) → is_some (way_of f y i) ≡ way_known (is_some y) (is_some i) (parts f)
some_way f y i =
    let by_day = calendar y f.month f.day in
    let by_ordinal = ordinal y f.ordinal in
    let by_iso_week = iso_week i f.iso_week f.weekday in
    let by_sunday_week = sunday_week y f.sunday_week f.weekday in
    let by_monday_week = monday_week y f.monday_week f.weekday in
    let weeks = or_else by_sunday_week by_monday_week in
    either_way or_else by_day (or_else by_ordinal (or_else by_iso_week weeks)) (λ w. refl) refl
    ∙ ap (λ b. is_some by_day || b) (either_way or_else by_ordinal (or_else by_iso_week weeks) (λ w. refl) refl)
    ∙ ap (λ b. is_some by_day || (is_some by_ordinal || b))
    (either_way or_else by_iso_week weeks (λ w. refl) refl)
    ∙ ap (λ b. is_some by_day || (is_some by_ordinal || (is_some by_iso_week || b)))
    (either_way or_else by_sunday_week by_monday_week (λ w. refl) refl)
    ∙ (λ j. some_calendar y f.month f.day j || (some_ordinal y f.ordinal j
    || (some_iso_week i f.iso_week f.weekday j || (some_sunday_week y f.sunday_week f.weekday j
    || some_monday_week y f.monday_week f.weekday j))))

date_known_is : (f : Fields) → is_ok (date_way f) ≡ date_known (parts f)
date_known_is f =
    let y = years_read f.year f.century f.year_last_two in
    let i = years_read f.iso_year f.iso_century f.iso_year_last_two in
    any_way (unless (lack f (is_some y) (is_some i))) (way_of f y i) (λ w. refl) refl ∙ some_way f y i
    ∙ ap (λ b. way_known b (is_some i) (parts f)) (some_years f.year f.century f.year_last_two)
    ∙ ap (λ b. way_known (is_some f.year || (is_some f.century && is_some f.year_last_two)) b (parts f))
    (some_years f.iso_year f.iso_century f.iso_year_last_two)

pub same_date : (f g : Fields) → parts f ≡ parts g → IsDetermined (date_way f) → IsDetermined (date_way g)
same_date f g e h =
    determined (date_way g)
    (date_known_is g ∙ ap date_known (sym e) ∙ sym (date_known_is f) ∙ was_determined (date_way f) h)

-- times

some_hour : (h h12 : Option ℕ) (p : Option Bool)
    → is_some (hour_read h h12 p) ≡ is_some h || (is_some h12 && is_some p)
some_hour (Some h) h12 p = refl
some_hour None None p = refl
some_hour None (Some n) None = refl
some_hour None (Some n) (Some p) = refl

left_out : (a : Option ℕ) (b : Bool) → is_left_out a b ≡ not (is_some a) && b
left_out None b = refl
left_out (Some n) b = refl

clock_unless : {A : Type 0} (l m : Bool) (c : A)
    → is_ok (if l then Err TimePart.Minute else (if m then Err TimePart.Second else Ok c)) ≡ not l && not m
clock_unless true m c = refl
clock_unless false true c = refl
clock_unless false false c = refl

some_clock : (f : Fields) (h : Option ℕ)
    → is_ok (clock_at f h) ≡ is_some h && (not (is_left_out f.minute (has_second f))
    && not (is_left_out f.second (is_some f.subsecond)))
some_clock f None = refl
some_clock f (Some h) =
    clock_unless (is_left_out f.minute (has_second f)) (is_left_out f.second (is_some f.subsecond)) _

-- with a fraction or without
abbrev clock_with : Bool → Shows → Bool
clock_with fraction s = (s.hour || (s.hour_12 && s.is_afternoon))
    && (not (not s.minute && (s.second || fraction)) && not (not s.second && fraction))

abbrev clock_known : Shows → Bool
clock_known s = clock_with (is_some s.subsecond) s

clock_known_is : (f : Fields) → is_ok (clock_read f) ≡ clock_known (parts f)
clock_known_is f =
    some_clock f (hour_read f.hour f.hour_12 f.is_afternoon)
    ∙ ap (λ b. b && (not (is_left_out f.minute (has_second f))
    && not (is_left_out f.second (is_some f.subsecond)))) (some_hour f.hour f.hour_12 f.is_afternoon)
    ∙ ap (λ b. (is_some f.hour || (is_some f.hour_12 && is_some f.is_afternoon))
    && (not b && not (is_left_out f.second (is_some f.subsecond)))) (left_out f.minute (has_second f))
    ∙ ap (λ b. (is_some f.hour || (is_some f.hour_12 && is_some f.is_afternoon))
    && (not (not (is_some f.minute) && has_second f) && not b))
    (left_out f.second (is_some f.subsecond))
    ∙ ap (λ b. clock_with b (parts f)) (sym (some_digits f.subsecond))

pub same_time : (f g : Fields) → parts f ≡ parts g → IsDetermined (clock_read f) → IsDetermined (clock_read g)
same_time f g e h =
    determined (clock_read g)
    (clock_known_is g ∙ ap clock_known (sym e) ∙ sym (clock_known_is f) ∙ was_determined (clock_read f) h)

abbrev time_with : Bool → Shows → Bool
time_with fraction s =
    ((((s.hour || s.hour_12) || s.is_afternoon) || s.minute) || s.second) || fraction

time_known_is : (f : Fields) → has_time f ≡ time_with (is_some (parts f).subsecond) (parts f)
time_known_is f = ap (λ b. time_with b (parts f)) (sym (some_digits f.subsecond))

same_has_time : (f g : Fields) → parts f ≡ parts g → has_time f ≡ has_time g
same_has_time f g e =
    time_known_is f ∙ ap (λ (s : Shows). time_with (is_some s.subsecond) s) e ∙ sym (time_known_is g)

-- offsets

shift_unless : {A : Type 0} (l : Bool) (s : A) → is_ok (if l then Err OffsetPart.Minute else Ok s) ≡ not l
shift_unless true s = refl
shift_unless false s = refl

some_shift : (f : Fields) (h : Option Signed)
    → is_ok (shift_at f h) ≡ is_some h && not (is_left_out f.offset_minute (is_some f.offset_second))
some_shift f None = refl
some_shift f (Some h) = shift_unless (is_left_out f.offset_minute (is_some f.offset_second)) _

abbrev shift_known : Shows → Bool
shift_known s = s.offset_hour && not (not s.offset_minute && s.offset_second)

shift_known_is : (f : Fields) → is_ok (shift_read f) ≡ shift_known (parts f)
shift_known_is f =
    some_shift f f.offset_hour
    ∙ ap (λ b. is_some f.offset_hour && not b) (left_out f.offset_minute (is_some f.offset_second))

pub same_offset : (f g : Fields) → parts f ≡ parts g → IsDetermined (shift_read f) → IsDetermined (shift_read g)
same_offset f g e h =
    determined (shift_read g)
    (shift_known_is g ∙ ap shift_known (sym e) ∙ sym (shift_known_is f) ∙ was_determined (shift_read f) h)

-- timestamps

pub some_instant : (fraction : Option Fraction) (ns us ms s : Option Signed)
    → is_some (instant_by fraction ns us ms s) ≡ is_some ns || (is_some us || (is_some ms || is_some s))
some_instant fraction (Some n) us ms s = refl
some_instant fraction None (Some n) ms s = refl
some_instant fraction None None (Some n) s = refl
some_instant fraction None None None (Some n) = refl
some_instant fraction None None None None = refl

abbrev stamp_known : Shows → Bool
stamp_known s = s.unix_nanosecond || (s.unix_microsecond || (s.unix_millisecond || s.unix_second))

stamp_known_is : (f : Fields) → is_some (instant_read f) ≡ stamp_known (parts f)
stamp_known_is f =
    some_instant f.subsecond f.unix_nanosecond f.unix_microsecond f.unix_millisecond f.unix_second

pub same_stamp : (f g : Fields) → parts f ≡ parts g → is_some (instant_read f) ≡ is_some (instant_read g)
same_stamp f g e = stamp_known_is f ∙ ap stamp_known e ∙ sym (stamp_known_is g)

-- The kinds that were read depend only on which fields there are.

abbrev date_shown : Shows → Bool
date_shown s =
    ((((s.year || s.century) || s.year_last_two) || ((s.iso_year || s.iso_century) || s.iso_year_last_two))
    || ((s.month || s.day) || s.ordinal)) || (((s.weekday || s.iso_week) || s.sunday_week) || s.monday_week)

pub same_kind : (k : Kind) (f g : Fields) → parts f ≡ parts g → has_kind k f ≡ has_kind k g
same_kind of.Date f g e = ap date_shown e
same_kind of.Time f g e = same_has_time f g e
same_kind of.Offset f g e = ap (λ (s : Shows). (s.offset_hour || s.offset_minute) || s.offset_second) e
same_kind of.Instant f g e = ap stamp_known e
same_kind of.Nothing f g e = refl
