-- All components show something of the moment, and none shows the zero of a negative number.
use Rattle.std.proofs.Common.{ℕ, ◌≡◌, ◌∙◌, ◌+◌, ◌-◌, ◌*◌, ◌≤◌, Bool, true, false, nat_le, nat_lt, if◌then◌else◌, [], ◌∷◌, Option, Some, None, MatchOption, Result, Ok, Err, IfOk, IfErr, IfSome, rules, refl, sym, ap, subst, arith, append-nil, string_bytes}
use Rattle.std.specs.Str.{IsUtf8}
use Rattle.std.specs.declared.alloc.AllocError.{AllocError}
use Rattle.std.specs.declared.alloc.Global.{Global}
use Rattle.std.specs.declared.string.String.{String}
use Rattle.std.specs.declared.vec.Vec.{Vec}
use Rattle.timefd_modifier.specs.declared.enums.Padding.{Padding}
use Rattle.timefd_lang_component.specs.Modern.{modern}
use Rattle.timefd_lang_component.specs.Texts.{IsText}
use Rattle.timefd_lang_component.specs.Tree.{Text, component, trees}
use Rattle.timefd_lang_component.proofs.ModernLemmas.{modern_twice_law}
use Rattle.timefd_lang_component.specs.declared.component.Component.{Component}
use Rattle.timefd_lang_component.specs.declared.component.Component.TheVariants.{Day, MonthShort, MonthLong, MonthNumerical, Ordinal, WeekdayShort, WeekdayLong, WeekdaySunday, WeekdayMonday, WeekNumberIso, WeekNumberSunday, WeekNumberMonday, CalendarYearFullExtendedRange, CalendarYearFullStandardRange, CalendarYearCenturyExtendedRange, CalendarYearCenturyStandardRange, IsoYearFullExtendedRange, IsoYearFullStandardRange, IsoYearCenturyExtendedRange, IsoYearCenturyStandardRange, CalendarYearLastTwo, IsoYearLastTwo, Hour12, Hour24, Minute, Period, Second, Subsecond, OffsetHour, OffsetMinute, OffsetSecond, UnixTimestampSecond, UnixTimestampMillisecond, UnixTimestampMicrosecond, UnixTimestampNanosecond, Ignore, End, Month, Weekday, WeekNumber, Hour, UnixTimestamp, Year}
use Rattle.timefd_date_format.specs.Answers.{AreBytes}
use Rattle.timefd_date_format.specs.Fields.{field, year, on_date, on_time, on_offset, instant_field}
use Rattle.timefd_date_format.specs.Laws.{HasHours, HasMilliseconds, HasNoMinusZero}
use Rattle.timefd_date_format.specs.Literals.{HaveUtf8Literals}
use Rattle.timefd_date_format.specs.Written.{shown, text_of, followed, written_all}
use Rattle.timefd_date_format.specs.declared.field.WrittenField.{WrittenField}
use Rattle.timefd_date_format.specs.declared.field.Lack.{Lack}
use Rattle.timefd_date_format.specs.declared.text.TextError.{TextError}
use Rattle.timefd_date_format.specs.declared.text.TextError.TheVariants as reported
use Rattle.timefd_date_format.specs.declared.field.Unshown.{Unshown}
use Rattle.timefd_date_format.proofs.RenderingLemmas.{writes_listed}
use Rattle.timefd_lang_node_list.specs.Item.Meaning.{item_tree, item_trees}
use Rattle.timefd_lang_node_list.specs.declared.item.borrowed_format_item.BorrowedFormatItem.TheVariants as items
use Rattle.timefd_lang_node_list.specs.declared.item.borrowed_format_item.BorrowedFormatItem.TheFolds.{the_lemmas}
use Rattle.timefd_date_moment.specs.Calendar.{days_in_year, days_of_months, days_of_years}
use Rattle.timefd_date_moment.specs.Moments.{date_ordinal, day_number, iso_years, thursday, unix_start, unix_time, utc_nanoseconds, utc_seconds, local_seconds}
use Rattle.timefd_date_moment.specs.declared.date.Date.{Date}
use Rattle.timefd_date_moment.specs.declared.moment.Moment.{Moment}
use Rattle.timefd_date_moment.specs.declared.offset.UtcOffset.{UtcOffset}
use Rattle.timefd_date_moment.specs.declared.time.Time.{Time}
use Rattle.timefd_date_moment.specs.declared.unix_time.UnixTime.{UnixTime}
use Rattle.timefd_date_moment.proofs.CalendarLemmas.{days_before, months_next, months_none}
use Rattle.timefd_lint_explain.specs.Samples.{IsDate, IsExample, IsMemory, IsOffset, IsSample, IsTime}

-- Something is shown.
abbrev Shown : Result WrittenField Lack → Type 0
Shown r = IfErr r (λ lack. ⊥)

of_date : (o : Option Date) (g : Date → Result WrittenField Lack) → MatchOption o ⊥ IsDate
    → ((d : Date) → IsDate d → Shown (g d)) → Shown (on_date o g)
of_date None g is h = absurd is
of_date (Some d) g is h = h d is

of_time : (o : Option Time) (g : Time → Result WrittenField Lack) → MatchOption o ⊥ IsTime
    → ((t : Time) → IsTime t → Shown (g t)) → Shown (on_time o g)
of_time None g is h = absurd is
of_time (Some t) g is h = h t is

of_offset : (o : Option UtcOffset) (g : UtcOffset → Result WrittenField Lack) → MatchOption o ⊥ IsOffset
    → ((z : UtcOffset) → IsOffset z → Shown (g z)) → Shown (on_offset o g)
of_offset None g is h = absurd is
of_offset (Some z) g is h = h z is

-- Years: the year itself and those next to it are short enough.

standard : (width unit y : ℕ) (p : Padding) (b : Bool) → y ≡ 1002026
    → Shown (year 9999 width unit p b y)
standard width unit y p b e = subst (λ n. Shown (year 9999 width unit p b n)) (sym e) tt

extended : (width unit y : ℕ) (p : Padding) (b : Bool) → y ≡ 1002026
    → Shown (year 999999 width unit p b y)
extended width unit y p b e = subst (λ n. Shown (year 999999 width unit p b n)) (sym e) tt

-- The year of a week is the date's year or one next to it.
beside : (P : ℕ → Type 0) → P 1002025 → P 1002026 → P 1002027 → (d : Date) → d.years ≡ 1002026
    → P (iso_years d)
beside P before same after d e =
    by d.years e (nat_le (thursday d) 7) (nat_lt (days_in_year d.years + 7) (thursday d))
  where
    at : (early late : Bool)
        → P (if early then 1002026 - 1 else (if late then 1002026 + 1 else 1002026))
    at true late = before
    at false true = after
    at false false = same

    by : (y : ℕ) → y ≡ 1002026 → (early late : Bool)
        → P (if early then y - 1 else (if late then y + 1 else y))
    by y e early late =
        subst (λ n. P (if early then n - 1 else (if late then n + 1 else n))) (sym e) (at early late)

iso_standard : (width unit : ℕ) (p : Padding) (b : Bool) (d : Date) → d.years ≡ 1002026
    → Shown (year 9999 width unit p b (iso_years d))
iso_standard width unit p b = beside (λ n. Shown (year 9999 width unit p b n)) tt tt tt

iso_extended : (width unit : ℕ) (p : Padding) (b : Bool) (d : Date) → d.years ≡ 1002026
    → Shown (year 999999 width unit p b (iso_years d))
iso_extended width unit p b = beside (λ n. Shown (year 999999 width unit p b n)) tt tt tt

-- The instant.

ordinal_is : (d : Date) → IsDate d → date_ordinal d ≡ 34
ordinal_is d is =
    let months : days_of_months d.years (d.month - 1) ≡ days_of_months 1002026 1 =
    ap (λ y. days_of_months y (d.month - 1)) is.0 ∙ ap (λ n. days_of_months 1002026 (n - 1)) is.1 in
    omega (arith, months, is.2, months_next 1002026 0, months_none 1002026)

day_is : (d : Date) → IsDate d → day_number d ≡ 365982515
day_is d is =
    omega (arith, ordinal_is d is, ap days_of_years is.0, sym (days_before 1002026))

utc_is : (d : Date) (t : Time) (o : UtcOffset) → IsDate d → IsTime t → IsOffset o
    → utc_nanoseconds d t o ≡ 31620889423307012345678
utc_is d t o day time offset =
    let ahead : utc_seconds d t o ≡ local_seconds d t - o.seconds =
    ap (λ b. if b then local_seconds d t + o.seconds else local_seconds d t - o.seconds) offset.0 in
    omega (
      arith,
      ahead,
      day_is d day,
      time.0,
      time.1,
      time.2,
      time.3,
      offset.1,
    )

-- The time since 1970, as a number of nanoseconds.
abbrev since : ℕ → UnixTime
since n =
    if nat_lt n (unix_start * 1000000000)
    then (record { is_negative = true; nanoseconds = unix_start * 1000000000 - n })
    else (record { is_negative = false; nanoseconds = n - unix_start * 1000000000 })

instant_shown : (d : Date) (t : Time) (o : UtcOffset) (c : Component) → IsDate d → IsTime t
    → IsOffset o → Shown (instant_field (unix_time d t o) c)
instant_shown d t o c day time offset =
    subst (λ n. Shown (instant_field (since n) c)) (sym (utc_is d t o day time offset)) tt

all_shown : (m : Moment) (c : Component) → IsSample m
    → Shown (on_date m.date (λ d. on_time m.time (λ t. on_offset m.offset (λ o.
    instant_field (unix_time d t o) c))))
all_shown m c is =
    of_date m.date _ is.date (λ d day. of_time m.time _ is.time (λ t time.
    of_offset m.offset _ is.offset (λ o offset. instant_shown d t o c day time offset)))

field_shown : (m : Moment) → IsSample m → (c : Component) → Shown (field m c)
field_shown m is (Day p) = of_date m.date _ is.date (λ d day. tt)
field_shown m is (MonthShort p) = of_date m.date _ is.date (λ d day. tt)
field_shown m is (MonthLong p) = of_date m.date _ is.date (λ d day. tt)
field_shown m is (MonthNumerical p) = of_date m.date _ is.date (λ d day. tt)
field_shown m is (Ordinal p) = of_date m.date _ is.date (λ d day. tt)
field_shown m is (WeekdayShort p) = of_date m.date _ is.date (λ d day. tt)
field_shown m is (WeekdayLong p) = of_date m.date _ is.date (λ d day. tt)
field_shown m is (WeekdaySunday p) = of_date m.date _ is.date (λ d day. tt)
field_shown m is (WeekdayMonday p) = of_date m.date _ is.date (λ d day. tt)
field_shown m is (WeekNumberIso p) = of_date m.date _ is.date (λ d day. tt)
field_shown m is (WeekNumberSunday p) = of_date m.date _ is.date (λ d day. tt)
field_shown m is (WeekNumberMonday p) = of_date m.date _ is.date (λ d day. tt)
field_shown m is (CalendarYearFullExtendedRange p) =
    of_date m.date _ is.date (λ d day. extended 4 1 d.years p.padding p.sign_is_mandatory day.0)
field_shown m is (CalendarYearFullStandardRange p) =
    of_date m.date _ is.date (λ d day. standard 4 1 d.years p.padding p.sign_is_mandatory day.0)
field_shown m is (CalendarYearCenturyExtendedRange p) =
    of_date m.date _ is.date (λ d day. extended 2 100 d.years p.padding p.sign_is_mandatory day.0)
field_shown m is (CalendarYearCenturyStandardRange p) =
    of_date m.date _ is.date (λ d day. standard 2 100 d.years p.padding p.sign_is_mandatory day.0)
field_shown m is (IsoYearFullExtendedRange p) =
    of_date m.date _ is.date (λ d day. iso_extended 4 1 p.padding p.sign_is_mandatory d day.0)
field_shown m is (IsoYearFullStandardRange p) =
    of_date m.date _ is.date (λ d day. iso_standard 4 1 p.padding p.sign_is_mandatory d day.0)
field_shown m is (IsoYearCenturyExtendedRange p) =
    of_date m.date _ is.date (λ d day. iso_extended 2 100 p.padding p.sign_is_mandatory d day.0)
field_shown m is (IsoYearCenturyStandardRange p) =
    of_date m.date _ is.date (λ d day. iso_standard 2 100 p.padding p.sign_is_mandatory d day.0)
field_shown m is (CalendarYearLastTwo p) = of_date m.date _ is.date (λ d day. tt)
field_shown m is (IsoYearLastTwo p) = of_date m.date _ is.date (λ d day. tt)
field_shown m is (Hour12 p) = of_time m.time _ is.time (λ t time. tt)
field_shown m is (Hour24 p) = of_time m.time _ is.time (λ t time. tt)
field_shown m is (Minute p) = of_time m.time _ is.time (λ t time. tt)
field_shown m is (Period p) = of_time m.time _ is.time (λ t time. tt)
field_shown m is (Second p) = of_time m.time _ is.time (λ t time. tt)
field_shown m is (Subsecond p) = of_time m.time _ is.time (λ t time. tt)
field_shown m is (OffsetHour p) = of_offset m.offset _ is.offset (λ o offset. tt)
field_shown m is (OffsetMinute p) = of_offset m.offset _ is.offset (λ o offset. tt)
field_shown m is (OffsetSecond p) = of_offset m.offset _ is.offset (λ o offset. tt)
field_shown m is (UnixTimestampSecond p) = all_shown m (UnixTimestampSecond p) is
field_shown m is (UnixTimestampMillisecond p) = all_shown m (UnixTimestampMillisecond p) is
field_shown m is (UnixTimestampMicrosecond p) = all_shown m (UnixTimestampMicrosecond p) is
field_shown m is (UnixTimestampNanosecond p) = all_shown m (UnixTimestampNanosecond p) is
field_shown m is (Ignore p) = tt
field_shown m is (End p) = tt
field_shown m is (Month p) = tt
field_shown m is (Weekday p) = tt
field_shown m is (WeekNumber p) = tt
field_shown m is (Hour p) = tt
field_shown m is (UnixTimestamp p) = tt
field_shown m is (Year p) = tt

-- No component shows nothing.
never : (m : Moment) (c : Component) (r : Result WrittenField Lack) (u : Unshown) → Shown r
    → text_of c r ≡ Err u → ⊥
never m c (Ok f) u h e = absurd cc
never m c (Err l) u h e = h

-- A single item.

component_tree : (c : Component) → item_tree (items.Component c) ≡ component c
component_tree c = search (rules, the_lemmas)

alone : (r : Result Text Unshown) → followed r (Ok []) ≡ r
alone (Ok a) = ap (λ x. Ok x) (append-nil a)
alone (Err u) = refl

of_item : (m : Moment) (c : Component) (r : Result (Vec ℕ Global) TextError)
    → AreBytes (written_all m (trees (item_trees (items.Component c ∷ [])))) r
    → AreBytes (shown m c) r
of_item m c r h =
    subst (λ x. AreBytes x r) (alone (shown m c))
    (subst (λ t. AreBytes (written_all m (trees (t ∷ []))) r) (component_tree c) h)

answered : (x : Result Text Unshown) (r : Result (Vec ℕ Global) TextError) → AreBytes x r
    → IfOk r (λ bytes. x ≡ Ok bytes.items)
answered (Ok text) (Ok v) is = ap (λ t. Ok t) (sym is)
answered (Err u) (Ok v) is = absurd is
answered x (Err e) is = tt

pub one_written : (m : Moment) (c : Component) (r : Result (Vec ℕ Global) TextError)
    → AreBytes (written_all m (trees (item_trees (items.Component c ∷ [])))) r
    → IfOk r (λ bytes. shown m c ≡ Ok bytes.items)
one_written m c r h = answered (shown m c) r (of_item m c r h)

pub one_utf8 : (c : Component) (r : Result (Vec ℕ Global) TextError)
    → (HaveUtf8Literals (trees (item_trees (items.Component c ∷ [])))
    → IfOk r (λ bytes. IsUtf8 bytes.items))
    → IfOk r (λ bytes. IsUtf8 bytes.items)
one_utf8 c r h = h (subst (λ t. HaveUtf8Literals (trees (t ∷ []))) (sym (component_tree c)) (tt, tt))

memory_alone : (x : Result Text Unshown) (r : Result (Vec ℕ Global) TextError)
    → ((u : Unshown) → x ≡ Err u → ⊥) → AreBytes x r → IfErr r IsMemory
memory_alone x (Ok v) h is = tt
memory_alone x (Err (reported.Memory e)) h is = tt
memory_alone (Ok text) (Err (reported.Unshown u)) h is = absurd is
memory_alone (Err v) (Err (reported.Unshown u)) h is = h v refl

pub one_memory : (m : Moment) (c : Component) (r : Result (Vec ℕ Global) TextError) → IsSample m
    → AreBytes (written_all m (trees (item_trees (items.Component c ∷ [])))) r
    → IfErr r IsMemory
one_memory m c r is h =
    memory_alone (shown m c) r
    (λ u. never m (modern c) (field m (modern c)) u (field_shown m is (modern c))) (of_item m c r h)

pub ruleset one = (one_written, one_utf8, one_memory)

-- The example is a text of the component.

has_hours : (o : Option UtcOffset) → MatchOption o ⊥ IsOffset → IfSome o HasHours
has_hours None is = tt
has_hours (Some o) is = λ negative. omega (arith, is.1)

after_1970 : (n : ℕ) → n ≡ 31620889423307012345678 → (since n).is_negative ≡ true
    → 1000000 ≤ (since n).nanoseconds
after_1970 n e =
    subst (λ n. (since n).is_negative ≡ true → 1000000 ≤ (since n).nanoseconds) (sym e)
    (λ negative. omega arith)

has_milliseconds : (d : Option Date) (t : Option Time) (o : Option UtcOffset)
    → MatchOption d ⊥ IsDate → MatchOption t ⊥ IsTime → MatchOption o ⊥ IsOffset
    → HasMilliseconds d t o
has_milliseconds None t o day time offset = absurd day
has_milliseconds (Some d) None o day time offset = absurd time
has_milliseconds (Some d) (Some t) None day time offset = absurd offset
has_milliseconds (Some d) (Some t) (Some o) day time offset =
    after_1970 (utc_nanoseconds d t o) (utc_is d t o day time offset)

no_minus_zero : (m : Moment) → IsSample m → HasNoMinusZero m
no_minus_zero m is = (
  has_hours m.offset is.offset,
  has_milliseconds m.date m.time m.offset is.date is.time is.offset,
)

listed : (c : Component) (text : Text) → IsExample c text → IsText (modern c) text
listed c text is =
    let same : shown is.0 (modern c) ≡ shown is.0 c =
    ap (λ k. text_of k (field is.0 k)) (modern_twice_law c) in
    subst (λ r. IfOk r (IsText (modern c))) (same ∙ is.2)
    (writes_listed is.0 (component (modern c)) (modern_twice_law c) (no_minus_zero is.0 is.1))

pub of_example : (r : Result (String Global) AllocError) (m : Moment) (c : Component) → IsSample m
    → IfOk r (λ t. shown m c ≡ Ok (string_bytes t)) → IfOk r (λ t. IsExample c (string_bytes t))
of_example (Ok t) m c is h = (m, is, h)
of_example (Err e) m c is h = tt

pub of_text : (r : Result (String Global) AllocError) (m : Moment) (c : Component) → IsSample m
    → IfOk r (λ t. shown m c ≡ Ok (string_bytes t))
    → IfOk r (λ t. IsText (modern c) (string_bytes t))
of_text (Ok t) m c is h = listed c (string_bytes t) (m, is, h)
of_text (Err e) m c is h = tt
