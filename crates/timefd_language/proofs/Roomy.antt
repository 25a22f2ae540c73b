-- The text of a component is at least as long as what the component reserves.
use Rattle.std.proofs.Common.{ℕ, ◌≡◌, ◌+◌, ◌≤◌, ◌⊎◌, inl, inr, cond, Bool, true, false, List, [], ◌∷◌, ◌++◌, map, codes, Result, Ok, Err, Option, Some, None, length, length-append, refl, ap, subst, arith, leb-true}
use Rattle.std.proofs.Math.Dec.{leb}
use Rattle.std.specs.List.{list_all}
use Rattle.std.specs.declared.num.NonZeroU16.{NonZeroU16}
use Rattle.timefd_modifier.specs.declared.enums.MonthRepr.{MonthRepr}
use Rattle.timefd_modifier.specs.declared.enums.WeekdayRepr.{WeekdayRepr}
use Rattle.timefd_modifier.specs.declared.enums.WeekNumberRepr.{WeekNumberRepr}
use Rattle.timefd_modifier.specs.declared.enums.YearRepr.{YearRepr}
use Rattle.timefd_modifier.specs.declared.enums.YearRange.{YearRange}
use Rattle.timefd_modifier.specs.declared.enums.SubsecondDigits.{SubsecondDigits}
use Rattle.timefd_modifier.specs.declared.enums.UnixTimestampPrecision.{UnixTimestampPrecision}
use Rattle.timefd_modifier.specs.declared.month.Month.{Month}
use Rattle.timefd_modifier.specs.declared.day.Weekday.{Weekday}
use Rattle.timefd_modifier.specs.declared.week.WeekNumber.{WeekNumber}
use Rattle.timefd_modifier.specs.declared.clock.Hour.{Hour}
use Rattle.timefd_modifier.specs.declared.timestamp.UnixTimestamp.{UnixTimestamp}
use Rattle.timefd_modifier.specs.declared.year.Year.{Year}
use Rattle.timefd_lang_component.specs.declared.component.Component.{Component}
use Rattle.timefd_lang_component.specs.Tree.{Text, Tree, component, optional, first, trees, pack}
use Rattle.timefd_lang_fault.specs.Faults.{Kind, Fault}
use Rattle.timefd_lang_component.specs.Modern.{modern_month, modern_weekday, modern_week_number, modern_hour, modern_timestamp, modern_year}
use Rattle.timefd_lang_component.specs.Reserved.{digits_shown, reserved}
use Rattle.timefd_language.specs.Bytes.{colon, named, same}
use Rattle.timefd_language.specs.Head.{Modifier, Head, IsHead, modifier_text, modifiers_text, head_text, placed_from, placed, name_index}
use Rattle.timefd_language.specs.declared.setting.Setting.{Setting}
use Rattle.timefd_language.specs.declared.setting.Settings.{Settings}
use Rattle.timefd_language.specs.Settings.{defaults, with}
use Rattle.timefd_language.specs.Values.{Value, Values, words, numbers, Key, sets_of, setting_in, key_in}
use Rattle.timefd_lang_fault.specs.declared.name.ComponentName.{ComponentName}
use Rattle.timefd_language.specs.Names.{Row, row, rows, row_of, row_for, component_names, ignored, day, end, hour, minute, month, offset_hour, offset_minute, offset_second, ordinal, period, second, subsecond, unix_timestamp, weekday, week_number, year}
use Rattle.timefd_language.proofs.Lookup.{Each, each-map, each-passes, named-found, count_of-sets}
use Rattle.timefd_language.specs.Verdict.{PlacedDescription, touching, nested_refused, is_formatted, only, optional_verdict, first_verdict, verdict, unless, after, bad_modifiers, setting_of, with_option, settings_from, settings, combination, made, component_verdict}

-- Settings that need room: how many bytes more than the name has.

abbrev of_month : MonthRepr → ℕ
of_month MonthRepr.Long = 2
of_month _ = 0

abbrev of_precision : UnixTimestampPrecision → ℕ
of_precision UnixTimestampPrecision.Second = 0
of_precision UnixTimestampPrecision.Millisecond = 2
of_precision UnixTimestampPrecision.Microsecond = 5
of_precision UnixTimestampPrecision.Nanosecond = 8

abbrev of_range : YearRange → ℕ
of_range YearRange.Standard = 0
of_range YearRange.Extended = 1

abbrev of_setting : Setting → ℕ
of_setting (Setting.MonthRepr r) = of_month r
of_setting (Setting.Precision p) = of_precision p
of_setting (Setting.Range r) = of_range r
of_setting _ = 0

-- n bytes are enough
record HaveRoom (s : Settings) (n : ℕ) : Type 0 where
  month : of_month s.month_repr ≤ n
  precision : of_precision s.precision ≤ n
  range : of_range s.range ≤ n

more_room : (s : Settings) (n m : ℕ) → HaveRoom s n → HaveRoom s (n + m)
more_room s n m h = record {
  month = (let a = h.month in omega arith);
  precision = (let a = h.precision in omega arith);
  range = (let a = h.range in omega arith);
}

with_room : (s : Settings) (v : Setting) (n m : ℕ) → HaveRoom s n → of_setting v ≤ m
    → HaveRoom (with s v) (n + m)
with_room s (Setting.MonthRepr r) n m h e = record {
  month = omega arith;
  precision = (let a = h.precision in omega arith);
  range = (let a = h.range in omega arith);
}
with_room s (Setting.Precision p) n m h e = record {
  month = (let a = h.month in omega arith);
  precision = omega arith;
  range = (let a = h.range in omega arith);
}
with_room s (Setting.Range r) n m h e = record {
  month = (let a = h.month in omega arith);
  precision = (let a = h.precision in omega arith);
  range = omega arith;
}
with_room s _ n m h e = record {
  month = (let a = h.month in omega arith);
  precision = (let a = h.precision in omega arith);
  range = (let a = h.range in omega arith);
}

-- a key is as long as what its values need
fits : ℕ → Values → Bool
fits n (words vs) = list_all (λ v. leb (of_setting v.sets) n) vs
fits n numbers = true

is_long : Key → Bool
is_long k = fits (length k.key) k.values

abbrev IsLong : Key → Type 0
IsLong k = is_long k ≡ true

word-fits : (n : ℕ) (vs : List (Value Setting)) (text : Text) (v : Setting)
    → list_all (λ x. leb (of_setting x.sets) n) vs ≡ true
    → (o : Option (Value Setting)) → named (λ x. x.word) true text vs ≡ o → sets_of o ≡ Some v
    → of_setting v ≤ n
word-fits n vs text v long None e h = absurd cc
word-fits n vs text v long (Some x) e h =
    let is : x.sets ≡ v = cc in
    let all = each-passes (λ y. leb (of_setting y.sets) n) (λ y. of_setting y.sets ≤ n)
    (λ y. leb-true (of_setting y.sets) n) vs long in
    subst (λ y. of_setting y ≤ n) is
    (named-found (λ y. y.word) (λ y. of_setting y.sets ≤ n) text vs x all e).0

setting_in-fits : (n : ℕ) (values : Values) (text : Text) (v : Setting) → fits n values ≡ true
    → setting_in true values text ≡ Some v → of_setting v ≤ n
unfolding fits
setting_in-fits n (words vs) text v long e = word-fits n vs text v long _ refl e
setting_in-fits n numbers text v long e =
    let is = count_of-sets text v e in
    let free : of_setting v ≡ 0 = ap of_setting is.1 in
    omega (arith, free)

modifier_long : (m : Modifier) → length m.key ≤ length (modifier_text m)
modifier_long m = omega (
  arith,
  length-append (m.white ++ m.key) (colon ∷ m.value),
  length-append m.white m.key,
)

one_room : (keys : List Key) (s : Settings) (m : Modifier) (n : ℕ) → Each IsLong keys → HaveRoom s n
    → HaveRoom (with_option s (setting_of true (key_in true m.key keys) m.value))
    (n + length (modifier_text m))
unfolding is_long
one_room keys s m n long h = by (key_in true m.key keys) refl
  where
    set : (k : Key) → key_in true m.key keys ≡ Some k → (o : Option Setting)
        → setting_in true k.values m.value ≡ o
        → HaveRoom (with_option s o) (n + length (modifier_text m))
    set k e None i = more_room s n (length (modifier_text m)) h
    set k e (Some v) i =
        let found = named-found (λ x. x.key) IsLong m.key keys k long e in
        with_room s v n (length (modifier_text m)) h
        (omega (
          arith,
          setting_in-fits (length k.key) k.values m.value v found.0 i,
          ap length found.1,
          modifier_long m,
        ))

    by : (o : Option Key) → key_in true m.key keys ≡ o
        → HaveRoom (with_option s (setting_of true o m.value)) (n + length (modifier_text m))
    by None e = more_room s n (length (modifier_text m)) h
    by (Some k) e = set k e (setting_in true k.values m.value) refl

all_room : (keys : List Key) (s : Settings) (ms : List Modifier) (j n : ℕ) → Each IsLong keys
    → HaveRoom s n
    → HaveRoom (settings_from true keys s (placed_from j ms)) (n + length (modifiers_text ms))
all_room keys s [] j n long h = more_room s n 0 h
all_room keys s (m ∷ ms) j n long h =
    let whole : length (modifiers_text (m ∷ ms)) ≡ length (modifier_text m) + length
    (modifiers_text ms) = length-append (modifier_text m) (modifiers_text ms) in
    subst (HaveRoom (settings_from true keys s (placed_from j (m ∷ ms)))) (omega (arith, whole))
    (all_room keys (with_option s (setting_of true (key_in true m.key keys) m.value)) ms
    (j + length (modifier_text m)) (n + length (modifier_text m)) long
    (one_room keys s m n long h))

-- Rows.

month_room : (r : MonthRepr) (m : Month) (n : ℕ) → of_month r ≤ n
    → reserved (modern_month r m) ≤ 7 + n
month_room MonthRepr.Short m n h = omega arith
month_room MonthRepr.Long m n h = omega arith
month_room MonthRepr.Numerical m n h = omega arith

weekday_room : (r : WeekdayRepr) (w : Weekday) → reserved (modern_weekday r w) ≤ 9
weekday_room WeekdayRepr.Short w = omega arith
weekday_room WeekdayRepr.Long w = omega arith
weekday_room WeekdayRepr.Sunday w = omega arith
weekday_room WeekdayRepr.Monday w = omega arith

week_room : (r : WeekNumberRepr) (w : WeekNumber) → reserved (modern_week_number r w) ≤ 2
week_room WeekNumberRepr.Iso w = omega arith
week_room WeekNumberRepr.Sunday w = omega arith
week_room WeekNumberRepr.Monday w = omega arith

hour_room : (b : Bool) (h : Hour) → reserved (modern_hour b h) ≤ 2
hour_room true h = omega arith
hour_room false h = omega arith

timestamp_room : (p : UnixTimestampPrecision) (t : UnixTimestamp) (n : ℕ) → of_precision p ≤ n
    → reserved (modern_timestamp p t) ≤ 16 + n
timestamp_room UnixTimestampPrecision.Second t n h = omega arith
timestamp_room UnixTimestampPrecision.Millisecond t n h = omega arith
timestamp_room UnixTimestampPrecision.Microsecond t n h = omega arith
timestamp_room UnixTimestampPrecision.Nanosecond t n h = omega arith

year_room : (iso : Bool) (k : YearRepr) (r : YearRange) (y : Year) (n : ℕ) → of_range r ≤ n
    → reserved (modern_year iso k r y) ≤ 6 + n
year_room true YearRepr.Full YearRange.Extended y n h = omega arith
year_room true YearRepr.Full YearRange.Standard y n h = omega arith
year_room true YearRepr.Century YearRange.Extended y n h = omega arith
year_room true YearRepr.Century YearRange.Standard y n h = omega arith
year_room true YearRepr.LastTwo r y n h = omega arith
year_room false YearRepr.Full YearRange.Extended y n h = omega arith
year_room false YearRepr.Full YearRange.Standard y n h = omega arith
year_room false YearRepr.Century YearRange.Extended y n h = omega arith
year_room false YearRepr.Century YearRange.Standard y n h = omega arith
year_room false YearRepr.LastTwo r y n h = omega arith

digits_room : (d : SubsecondDigits) → digits_shown d ≤ 9
digits_room SubsecondDigits.One = omega arith
digits_room SubsecondDigits.Two = omega arith
digits_room SubsecondDigits.Three = omega arith
digits_room SubsecondDigits.Four = omega arith
digits_room SubsecondDigits.Five = omega arith
digits_room SubsecondDigits.Six = omega arith
digits_room SubsecondDigits.Seven = omega arith
digits_room SubsecondDigits.Eight = omega arith
digits_room SubsecondDigits.Nine = omega arith
digits_room SubsecondDigits.OneOrMore = omega arith

-- a `[`, the name, one more byte and the modifiers are room enough for a row's component
record IsRoomy (r : Row) : Type 0 where
  keys : Each IsLong r.keys
  enough : (s : Settings) (n : ℕ) → HaveRoom s n → (c : Component) → r.component s ≡ Ok c
      → reserved c ≤ 2 + length r.name + n

roomy : (name : Text) (keys : List Key) (f : Settings → Component) → list_all is_long keys ≡ true
    → ((s : Settings) (n : ℕ) → HaveRoom s n → reserved (f s) ≤ 2 + length name + n)
    → IsRoomy (row name keys f)
roomy name keys f long fits = record {
  keys = each-passes is_long IsLong (λ k e. e) keys long;
  enough = λ s n h c e. let is : f s ≡ c = cc in
      subst (λ x. reserved x ≤ 2 + length name + n) is (fits s n h);
}

ignore_room : (o : Option NonZeroU16) (c : Component) → ignored o ≡ Ok c → reserved c ≡ 0
ignore_room None c e = absurd cc
ignore_room (Some n) c e = let is : Component.Ignore (record { count = n }) ≡ c = cc in
    subst (λ x. reserved x ≡ 0) is refl

name_roomy : (n : ComponentName) → IsRoomy (row_for n)
unfolding is_long fits
name_roomy ComponentName.Day = roomy _ _ day refl (λ s n h. omega arith)
name_roomy ComponentName.End = roomy _ _ end refl (λ s n h. omega arith)
name_roomy ComponentName.Hour = roomy _ _ hour refl
    (λ s n h. omega (
      arith,
      hour_room s.is_12_hour_clock
          (record { padding = s.padding; is_12_hour_clock = s.is_12_hour_clock }),
    ))
name_roomy ComponentName.Ignore = record {
  keys = (refl, tt);
  enough =
      λ s n h c e. omega (arith, ignore_room s.count c e);
}
name_roomy ComponentName.Minute = roomy _ _ minute refl (λ s n h. omega arith)
name_roomy ComponentName.Month = roomy _ _ month refl (λ s n h. month_room s.month_repr _ n h.month)
name_roomy ComponentName.OffsetHour = roomy _ _ offset_hour refl (λ s n h. omega arith)
name_roomy ComponentName.OffsetMinute = roomy _ _ offset_minute refl (λ s n h. omega arith)
name_roomy ComponentName.OffsetSecond = roomy _ _ offset_second refl (λ s n h. omega arith)
name_roomy ComponentName.Ordinal = roomy _ _ ordinal refl (λ s n h. omega arith)
name_roomy ComponentName.Period = roomy _ _ period refl (λ s n h. omega arith)
name_roomy ComponentName.Second = roomy _ _ second refl (λ s n h. omega arith)
name_roomy ComponentName.Subsecond =
    roomy _ _ subsecond refl (λ s n h. omega (arith, digits_room s.digits))
name_roomy ComponentName.UnixTimestamp =
    roomy _ _ unix_timestamp refl (λ s n h. timestamp_room s.precision _ n h.precision)
name_roomy ComponentName.Weekday = roomy _ _ weekday refl
    (λ s n h. omega (
      arith,
      weekday_room s.weekday_repr
          (record {
            repr = s.weekday_repr;
            one_indexed = s.one_indexed;
            case_sensitive =
                s.case_sensitive;
          }),
    ))
name_roomy ComponentName.WeekNumber =
    roomy _ _ week_number refl (λ s n h. omega (
      arith,
      week_room s.week_number_repr
          (record { padding = s.padding; repr = s.week_number_repr }),
    ))
name_roomy ComponentName.Year = roomy _ _ year refl
    (λ s n h. year_room s.iso_week_based s.year_repr s.range _ n h.range)

all_roomy : Each IsRoomy rows
all_roomy = each-map row_for IsRoomy component_names name_roomy

-- Verdicts.

pub unless_ok : (o : Option Fault) (t u : Tree) → unless o t ≡ Ok u → t ≡ u
unless_ok (Some f) t u e = absurd cc
unless_ok None t u e = cc

pub after_ok : (o : Option Fault) (r : Result Tree Fault) (t : Tree) → after o r ≡ Ok t → r ≡ Ok t
after_ok (Some f) r t e = absurd cc
after_ok None r t e = e

either : (b : Bool) (x y z : Result Tree Fault) → cond b x y ≡ z → (x ≡ z) ⊎ (y ≡ z)
either true x y z e = inl e
either false x y z e = inr e

-- what holds of an optional item, of a first and of the tree of a component holds of the tree of a
-- verdict
pub verdict_has : (P : Tree → Type 0) (strict : Bool) (h : Head) (parts : List PlacedDescription)
    (close : ℕ) (tree : Tree)
    → P (optional (is_formatted strict (placed h)) (only parts))
    → P (first (trees (map (λ p. pack p.trees) parts)))
    → (component_verdict strict h (row_of strict h.name) ≡ Ok tree → P tree)
    → verdict strict h parts close ≡ Ok tree → P tree
verdict_has P strict h parts close tree of_optional of_first of_component e =
    outer (either (same strict (codes "optional") h.name) (optional_verdict strict h parts close) _
    (Ok tree) (after_ok (touching parts) _ tree e))
  where
    inner : (first_verdict strict h parts close ≡ Ok tree)
        ⊎ (after (nested_refused parts) (component_verdict strict h (row_of strict h.name)) ≡ Ok
        tree) → P tree
    inner (inl f) =
        subst P (unless_ok _ (first (trees (map (λ p. pack p.trees) parts))) tree f) of_first
    inner (inr c) = of_component
        (after_ok (nested_refused parts) (component_verdict strict h (row_of strict h.name)) tree
        c)

    outer : (optional_verdict strict h parts close ≡ Ok tree)
        ⊎ (cond (same strict (codes "first") h.name) (first_verdict strict h parts close)
        (after (nested_refused parts) (component_verdict strict h (row_of strict h.name))) ≡ Ok
        tree)
        → P tree
    outer (inl o) =
        subst P (unless_ok _ (optional (is_formatted strict (placed h)) (only parts)) tree o)
        of_optional
    outer (inr r) =
        inner (either (same strict (codes "first") h.name) (first_verdict strict h parts close)
        (after (nested_refused parts) (component_verdict strict h (row_of strict h.name)))
        (Ok tree) r)

-- the tree is a component that reserves at most n bytes
abbrev pub IsLeafWithin : Tree → ℕ → Type 0
IsLeafWithin tree bytes = (c : Component) × (component c ≡ tree) × (reserved c ≤ bytes)

pub made_ok : (strict : Bool) (h : Head) (r : Result Component Kind) (tree : Tree)
    → made strict h r ≡ Ok tree → (c : Component) × (component c ≡ tree) × (r ≡ Ok c)
made_ok strict h (Err kind) tree e = absurd cc
made_ok strict h (Ok c) tree e = (
  c,
  unless_ok (combination strict c (placed h)) (component c) tree
      e,
  refl,
)

head_long : (h : Head) → 2 + length h.name + length (modifiers_text h.modifiers) ≤ 1 + length
    (head_text h)
head_long h = omega (
  arith,
  length-append h.white h.name,
  length-append (h.white ++ h.name) (modifiers_text h.modifiers),
)

pub component-room : (h : Head) (tree : Tree) → IsHead h
    → component_verdict true h (row_of true h.name) ≡ Ok tree
    → IsLeafWithin tree (1 + length (head_text h))
component-room h tree ih e = by (row_of true h.name) refl e
  where
    by : (o : Option Row) → row_of true h.name ≡ o → component_verdict true h o ≡ Ok tree
        → IsLeafWithin tree (1 + length (head_text h))
    by None r e = absurd cc
    by (Some row) r e =
        let found = named-found (λ x. x.name) IsRoomy h.name rows row all_roomy r in
        let leaf = made_ok true h (row.component (settings true row.keys (placed h))) tree
        (after_ok (bad_modifiers true row.keys [] (placed h)) _ tree e) in
        let room = all_room row.keys (defaults true) h.modifiers (name_index h + length h.name) 0
        found.0.keys (record {
          month = omega arith;
          precision = omega arith;
          range =
              omega arith;
        }) in (
          leaf.0,
          leaf.1,
          (
              let l : length row.name ≡ length h.name = ap length found.1 in
              let w : reserved leaf.0 ≤ 2 + length
              row.name + (0 + length (modifiers_text h.modifiers)) =
              found.0.enough (settings true row.keys (placed h)) _ room leaf.0 leaf.2 in
              omega (arith, head_long h)),
        )
