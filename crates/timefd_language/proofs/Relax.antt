-- A text of version 3 without nested descriptions is a text of version 2 too.
use Rattle.std.proofs.Common.{ℕ, ◌≡◌, ◌||◌, ◌&&◌, cond, not, map, Bool, true, false, List, [], ◌∷◌, ◌++◌, Result, Ok, Option, Some, None, refl, sym, ◌∙◌, ap, ap₂, subst, codes, is_some}
use Rattle.std.proofs.lemmas.Bool.{false≢true, not-false, not-true, and_parts}
use Rattle.std.specs.List.{list_all}
use Rattle.std.specs.declared.num.NonZeroU16.{NonZeroU16}
use Rattle.timefd_modifier.specs.declared.enums.Padding.{Padding}
use Rattle.timefd_modifier.specs.declared.enums.MonthRepr.{MonthRepr}
use Rattle.timefd_modifier.specs.declared.enums.WeekdayRepr.{WeekdayRepr}
use Rattle.timefd_modifier.specs.declared.enums.WeekNumberRepr.{WeekNumberRepr}
use Rattle.timefd_modifier.specs.declared.enums.YearRepr.{YearRepr}
use Rattle.timefd_modifier.specs.declared.enums.YearRange.{YearRange}
use Rattle.timefd_modifier.specs.declared.enums.UnixTimestampPrecision.{UnixTimestampPrecision}
use Rattle.timefd_modifier.specs.declared.month.Month.{Month}
use Rattle.timefd_modifier.specs.declared.day.Weekday.{Weekday}
use Rattle.timefd_modifier.specs.declared.week.WeekNumber.{WeekNumber}
use Rattle.timefd_modifier.specs.declared.clock.Hour.{Hour}
use Rattle.timefd_modifier.specs.declared.timestamp.UnixTimestamp.{UnixTimestamp}
use Rattle.timefd_lang_component.specs.declared.component.Component.{Component}
use Rattle.timefd_lang_component.specs.Tree.{Text, Tree, component, optional, first, trees}
use Rattle.timefd_lang_fault.specs.Faults.{Kind, fault}
use Rattle.timefd_lang_component.specs.Modern.{modern_month, modern_weekday, modern_week_number, modern_hour, modern_timestamp, modern_year}
use Rattle.timefd_language.specs.declared.description_version.DescriptionVersion.TheVariants.{Two, Three}
use Rattle.timefd_language.specs.Bytes.{right, equal, same, named, lowered}
use Rattle.timefd_lang_fault.specs.Words.{expected_nested, expected_alternative}
use Rattle.timefd_language.specs.Head.{Head, Placed, placed, head_text}
use Rattle.timefd_language.specs.declared.setting.Setting.{Setting}
use Rattle.timefd_language.specs.declared.setting.Settings.{Settings}
use Rattle.timefd_language.specs.Settings.{defaults, with}
use Rattle.timefd_language.specs.Values.{format, Value, Values, words, numbers, Key, sets_of, setting_in, key_in}
use Rattle.timefd_lang_fault.specs.declared.name.ComponentName.{ComponentName}
use Rattle.timefd_language.specs.Names.{Row, rows, row_of, row_for, component_names, ignored, day, end, hour, minute, month, offset_hour, offset_minute, offset_second, ordinal, period, second, subsecond, unix_timestamp, weekday, week_number, year}
use Rattle.timefd_language.specs.Verdict.{refuse, bad_value, bad_modifier, bad_modifiers, is_set, setting_of, with_option, settings_from, settings, made, any_modifier, is_formatted, only, optional_verdict, first_verdict, component_verdict, verdict}
use Rattle.timefd_language.specs.Grammar.{Pieces, no_pieces, run, escape, closing, bracket, no_nested, nested, nested_text, spelling, ArePieces, BeginsNoRun}
use Rattle.timefd_language.specs.Relaxed.{IsFlat, IsStandard, IsStandardIn, AreStandard, widened, relaxed_tree, relaxed}
use Rattle.timefd_language.specs.Laws.{Relaxing}
use Rattle.timefd_language.proofs.Lookup.{Each, each-map, each-passes, IsLowered, equal-true, named-found, named-lowered, count_of-sets}
use Rattle.timefd_language.proofs.Roomy.{after_ok, made_ok}
use Rattle.timefd_language.proofs.Recase.{or_none, none_or, refuse_none, none_refused, after_none, none_after, unless_two}
use Rattle.timefd_language.proofs.Lift.{unless_fault}

-- Keys.

abbrev is_range : Setting → Bool
is_range (Setting.Range r) = true
is_range _ = false

is_lowered : Text → Bool
is_lowered text = equal (map lowered text) text

is_same : Bool → Bool → Bool
is_same x y = cond x y (not y)

same_is : (x y : Bool) → is_same x y ≡ true → x ≡ y
unfolding is_same
same_is true y e = sym e
same_is false y e = sym (not-true y e)

-- words in lower case, that set the range where the key is `range`, and no others
is_plain_word : Text → Value Setting → Bool
is_plain_word key v = is_lowered v.word && is_same (is_range v.sets) (equal (codes "range") key)

IsPlainWord : Text → Value Setting → Type 0
IsPlainWord key v = IsLowered v.word × (is_range v.sets ≡ equal (codes "range") key)

plain_word : (key : Text) (v : Value Setting) → is_plain_word key v ≡ true → IsPlainWord key v
unfolding is_plain_word is_lowered IsPlainWord
plain_word key v e =
    let p = and_parts (is_lowered v.word) (is_same (is_range v.sets) (equal (codes "range") key)) e
    in (
      equal-true (map lowered v.word) v.word p.0,
      same_is (is_range v.sets) (equal (codes "range") key) p.1,
    )

are_plain : Text → Values → Bool
are_plain key (words vs) = list_all (is_plain_word key) vs
are_plain key numbers = not (equal (codes "range") key)

is_plain : Key → Bool
is_plain k = is_lowered k.key && are_plain k.key k.values

record IsPlain (k : Key) : Type 0 where
  key : IsLowered k.key
  words : are_plain k.key k.values ≡ true

plain_key : (k : Key) → is_plain k ≡ true → IsPlain k
unfolding is_plain is_lowered
plain_key k e =
    let p = and_parts (is_lowered k.key) (are_plain k.key k.values) e in
    record { key = equal-true (map lowered k.key) k.key p.0; words = p.1 }

key_names : (ks : List Key) → Each IsPlain ks → Each (λ k. IsLowered k.key) ks
key_names [] all = tt
key_names (k ∷ ks) all = (all.0.key, key_names ks all.1)

word_names : (key : Text) (vs : List (Value Setting)) → Each (IsPlainWord key) vs
    → Each (λ v. IsLowered v.word) vs
unfolding IsPlainWord
word_names key [] all = tt
word_names key (v ∷ vs) all = (all.0.0, word_names key vs all.1)

-- Components.

-- the component isn't a year of a range
abbrev IsKept : Component → Type 0
IsKept c = (c ≡ widened c) × IsStandard c

month_same : (r : MonthRepr) (m : Month) → IsKept (modern_month r m)
month_same MonthRepr.Short m = (refl, tt)
month_same MonthRepr.Long m = (refl, tt)
month_same MonthRepr.Numerical m = (refl, tt)

weekday_same : (r : WeekdayRepr) (w : Weekday) → IsKept (modern_weekday r w)
weekday_same WeekdayRepr.Short w = (refl, tt)
weekday_same WeekdayRepr.Long w = (refl, tt)
weekday_same WeekdayRepr.Sunday w = (refl, tt)
weekday_same WeekdayRepr.Monday w = (refl, tt)

week_same : (r : WeekNumberRepr) (w : WeekNumber) → IsKept (modern_week_number r w)
week_same WeekNumberRepr.Iso w = (refl, tt)
week_same WeekNumberRepr.Sunday w = (refl, tt)
week_same WeekNumberRepr.Monday w = (refl, tt)

hour_same : (b : Bool) (h : Hour) → IsKept (modern_hour b h)
hour_same true h = (refl, tt)
hour_same false h = (refl, tt)

timestamp_same : (p : UnixTimestampPrecision) (t : UnixTimestamp) → IsKept (modern_timestamp p t)
timestamp_same UnixTimestampPrecision.Second t = (refl, tt)
timestamp_same UnixTimestampPrecision.Millisecond t = (refl, tt)
timestamp_same UnixTimestampPrecision.Microsecond t = (refl, tt)
timestamp_same UnixTimestampPrecision.Nanosecond t = (refl, tt)

abbrev year_with : Bool → YearRepr → YearRange → Padding → Bool → Component
year_with iso repr range padding sign =
    modern_year iso repr range (record {
      padding = padding;
      repr = repr;
      range =
          range;
      iso_week_based = iso;
      sign_is_mandatory = sign;
    })

year_widened : (iso : Bool) (k : YearRepr) (p : Padding) (s : Bool)
    → (year_with iso k YearRange.Extended p s ≡ widened (year_with iso k YearRange.Standard p s))
    × IsStandard (year_with iso k YearRange.Standard p s)
year_widened true YearRepr.Full p s = (refl, tt)
year_widened true YearRepr.Century p s = (refl, tt)
year_widened true YearRepr.LastTwo p s = (refl, tt)
year_widened false YearRepr.Full p s = (refl, tt)
year_widened false YearRepr.Century p s = (refl, tt)
year_widened false YearRepr.LastTwo p s = (refl, tt)

ignore_same : (o : Option NonZeroU16) (c : Component) → ignored o ≡ Ok c
    → (ignored o ≡ Ok (widened c)) × IsStandard c
ignore_same None c e = absurd cc
ignore_same (Some n) c e =
    let is : Component.Ignore (record { count = n }) ≡ c = cc in
    (ap Ok (ap widened is), subst IsStandard is tt)

abbrev in_range : YearRange → Settings → Settings
in_range r s = record s { range = r }

-- a component of the standard range, which is widened in the extended range
abbrev Widens : (Settings → Result Component Kind) → Type 0
Widens f =
    (s : Settings) (c : Component) → f (in_range YearRange.Standard s) ≡ Ok c
    → (f (in_range YearRange.Extended s) ≡ Ok (widened c)) × IsStandard c

is_plain_row : Row → Bool
is_plain_row r =
    is_lowered r.name && (not (equal (codes "optional") r.name)
    && (not (equal (codes "first") r.name) && list_all is_plain r.keys))

-- a row in lower case, whose component is widened with its range
record IsPlainRow (r : Row) : Type 0 where
  name : IsLowered r.name
  no_optional : equal (codes "optional") r.name ≡ false
  no_first : equal (codes "first") r.name ≡ false
  keys : Each IsPlain r.keys
  component : Widens r.component

plain_row : (r : Row) → is_plain_row r ≡ true → Widens r.component → IsPlainRow r
unfolding is_plain_row is_lowered
plain_row r e widens =
    let p = and_parts (is_lowered r.name) _ e in
    let q = and_parts (not (equal (codes "optional") r.name)) _ p.1 in
    let t = and_parts (not (equal (codes "first") r.name)) (list_all is_plain r.keys) q.1 in
    record {
      name = equal-true (map lowered r.name) r.name p.0;
      no_optional = not-true (equal (codes "optional") r.name) q.0;
      no_first = not-true (equal (codes "first") r.name) t.0;
      keys = each-passes is_plain IsPlain plain_key r.keys t.1;
      component = widens;
    }

by_form : (f : Settings → Component)
    → ((s : Settings)
    → (f (in_range YearRange.Extended s) ≡ widened (f (in_range YearRange.Standard s)))
    × IsStandard (f (in_range YearRange.Standard s)))
    → Widens (λ s. Ok (f s))
by_form f widens s c e =
    let is : f (in_range YearRange.Standard s) ≡ c = cc in
    (ap Ok ((widens s).0 ∙ ap widened is), subst IsStandard is (widens s).1)

name_widens : (n : ComponentName) → Widens (row_for n).component
name_widens ComponentName.Day = by_form day (λ s. (refl, tt))
name_widens ComponentName.End = by_form end (λ s. (refl, tt))
name_widens ComponentName.Hour = by_form hour (λ s. hour_same s.is_12_hour_clock _)
name_widens ComponentName.Ignore = λ s c e. ignore_same s.count c e
name_widens ComponentName.Minute = by_form minute (λ s. (refl, tt))
name_widens ComponentName.Month = by_form month (λ s. month_same s.month_repr _)
name_widens ComponentName.OffsetHour = by_form offset_hour (λ s. (refl, tt))
name_widens ComponentName.OffsetMinute = by_form offset_minute (λ s. (refl, tt))
name_widens ComponentName.OffsetSecond = by_form offset_second (λ s. (refl, tt))
name_widens ComponentName.Ordinal = by_form ordinal (λ s. (refl, tt))
name_widens ComponentName.Period = by_form period (λ s. (refl, tt))
name_widens ComponentName.Second = by_form second (λ s. (refl, tt))
name_widens ComponentName.Subsecond = by_form subsecond (λ s. (refl, tt))
name_widens ComponentName.UnixTimestamp = by_form unix_timestamp (λ s. timestamp_same s.precision _)
name_widens ComponentName.Weekday = by_form weekday (λ s. weekday_same s.weekday_repr _)
name_widens ComponentName.WeekNumber = by_form week_number (λ s. week_same s.week_number_repr _)
name_widens ComponentName.Year = by_form year
    (λ s. year_widened s.iso_week_based s.year_repr s.padding s.sign_is_mandatory)

rows_are_plain : list_all is_plain_row rows ≡ true
unfolding is_plain_row is_plain is_plain_word are_plain is_lowered is_same
rows_are_plain = refl

rows_widen : Each (λ r. Widens r.component) rows
rows_widen = each-map row_for (λ r. Widens r.component) component_names name_widens

plain_rows : (rs : List Row) → list_all is_plain_row rs ≡ true → Each (λ r. Widens r.component) rs
    → Each IsPlainRow rs
plain_rows [] e widen = tt
plain_rows (r ∷ rs) e widen =
    let p = and_parts (is_plain_row r) (list_all is_plain_row rs) e in
    (plain_row r p.0 widen.0, plain_rows rs p.1 widen.1)

all_plain : Each IsPlainRow rows
all_plain = plain_rows rows rows_are_plain rows_widen

row_names : (rs : List Row) → Each IsPlainRow rs → Each (λ r. IsLowered r.name) rs
row_names [] all = tt
row_names (r ∷ rs) all = (all.0.name, row_names rs all.1)

-- Modifiers that version 3 takes.

abbrev IsGood : List Key → Placed → Type 0
IsGood keys m = (k : Key) × (v : Setting) × (key_in true m.key keys ≡ Some k)
    × (setting_in true k.values m.value ≡ Some v)

some_setting : (o : Option Setting) → is_some o ≡ true → (v : Setting) × (o ≡ Some v)
some_setting None e = absurd (false≢true e)
some_setting (Some v) e = (v, refl)

good_from : (keys : List Key) (o : Option Key) (before : List Placed) (m : Placed)
    → key_in true m.key keys ≡ o → bad_modifier true o before m ≡ None → IsGood keys m
good_from keys None before m e h = absurd cc
good_from keys (Some k) before m e h =
    let v = some_setting (setting_in true k.values m.value)
    (not-false (is_some (setting_in true k.values m.value))
    (refuse_none (not (is_some (setting_in true k.values m.value))) _ _
    (or_none (refuse (is_set true k.key before) _ _) (bad_value true k m) h).1)) in
    (k, v.0, e, v.1)

all_good : (keys : List Key) (before ms : List Placed) → bad_modifiers true keys before ms ≡ None
    → Each (IsGood keys) ms
all_good keys before [] h = tt
all_good keys before (m ∷ ms) h =
    let p = or_none (bad_modifier true (key_in true m.key keys) before m)
    (bad_modifiers true keys (before ++ m ∷ []) ms) h in (
      good_from keys (key_in true m.key keys) before m refl p.0,
      all_good keys (before ++ m ∷ []) ms p.1,
    )

-- what the tables say about a good modifier
record IsFound (keys : List Key) (m : Placed) : Type 0 where
  key : Key
  setting : Setting
  strict_key : key_in true m.key keys ≡ Some key
  loose_key : key_in false m.key keys ≡ Some key
  strict_setting : setting_in true key.values m.value ≡ Some setting
  loose_setting : setting_in false key.values m.value ≡ Some setting
  range : is_range setting ≡ equal (codes "range") m.key

-- a word that is found is also found if case is ignored
record IsWord (key : Text) (values : Values) (text : Text) (v : Setting) : Type 0 where
  loose : setting_in false values text ≡ Some v
  range : is_range v ≡ equal (codes "range") key

word_in-found : (key : Text) (vs : List (Value Setting)) (text : Text) (v : Setting)
    → list_all (is_plain_word key) vs ≡ true
    → (o : Option (Value Setting)) → named (λ x. x.word) true text vs ≡ o → sets_of o ≡ Some v
    → IsWord key (words vs) text v
unfolding IsPlainWord
word_in-found key vs text v plain None e h = absurd cc
word_in-found key vs text v plain (Some x) e h =
    let all = each-passes (is_plain_word key) (IsPlainWord key) (plain_word key) vs plain in
    let f = named-found (λ y. y.word) (IsPlainWord key) text vs x all e in
    let is : x.sets ≡ v = cc in
    record {
      loose = ap sets_of (named-lowered (λ y. y.word) text vs (word_names key vs all)
          (subst IsLowered f.1 f.0.0) ∙ e) ∙ h;
      range = subst (λ y. is_range y ≡ equal (codes "range") key) is f.0.1;
    }

setting_in-found : (key : Text) (values : Values) (text : Text) (v : Setting)
    → are_plain key values ≡ true → setting_in true values text ≡ Some v → IsWord key values text v
unfolding are_plain
setting_in-found key (words vs) text v plain e = word_in-found key vs text v plain _ refl e
setting_in-found key numbers text v plain e =
    record {
      loose = e;
      range = ap is_range (count_of-sets text v e).1 ∙
          sym (not-true (equal (codes "range") key) plain);
    }

good_found : (keys : List Key) (m : Placed) → Each IsPlain keys → IsGood keys m → IsFound keys m
good_found keys m plain g =
    let f = named-found (λ k. k.key) IsPlain m.key keys g.0 plain g.2 in
    let w = setting_in-found g.0.key g.0.values m.value g.1 f.0.words g.3 in
    record {
      key = g.0;
      setting = g.1;
      strict_key = g.2;
      loose_key = named-lowered (λ k. k.key) m.key keys (key_names keys plain)
          (subst IsLowered f.1 f.0.key) ∙ g.2;
      strict_setting = g.3;
      loose_setting = w.loose;
      range = w.range ∙ ap (equal (codes "range")) f.1;
    }

all_found : (keys : List Key) (ms : List Placed) → Each IsPlain keys → Each (IsGood keys) ms
    → Each (IsFound keys) ms
all_found keys [] plain g = tt
all_found keys (m ∷ ms) plain g = (good_found keys m plain g.0, all_found keys ms plain g.1)

-- they are also good if case is ignored
good_without_case : (keys : List Key) (before ms : List Placed) → Each (IsFound keys) ms
    → bad_modifiers false keys before ms ≡ None
good_without_case keys before [] f = refl
good_without_case keys before (m ∷ ms) f =
    none_or _ _
    (ap (λ o. bad_modifier false o before m) f.0.loose_key
    ∙ none_refused (not (is_some (setting_in false f.0.key.values m.value))) _ _
    (ap (λ o. not (is_some o)) f.0.loose_setting))
    (good_without_case keys (before ++ m ∷ []) ms f.1)

-- they set the same if case is ignored
settings_same : (keys : List Key) (s : Settings) (ms : List Placed) → Each (IsFound keys) ms
    → settings_from false keys s ms ≡ settings_from true keys s ms
settings_same keys s [] f = refl
settings_same keys s (m ∷ ms) f =
    ap (λ o. settings_from false keys (with_option s o) ms)
    (ap (λ o. setting_of false o m.value) f.0.loose_key ∙ f.0.loose_setting)
    ∙ settings_same keys (with s f.0.setting) ms f.1
    ∙ sym (ap (λ o. settings_from true keys (with_option s o) ms)
    (ap (λ o. setting_of true o m.value) f.0.strict_key ∙ f.0.strict_setting))

with_range : (r : YearRange) (s : Settings) (v : Setting) → is_range v ≡ true
    → with (in_range r s) v ≡ with s v
with_range r s (Setting.Range x) e = refl
with_range r s _ e = absurd (false≢true e)

with_other : (r : YearRange) (s : Settings) (v : Setting) → is_range v ≡ false
    → with (in_range r s) v ≡ in_range r (with s v)
with_other r s (Setting.Range x) e = absurd (false≢true (sym e))
with_other r s _ e = refl

-- Another range at the start makes no difference if a modifier sets the range. Otherwise it is the
-- range at the end.
ranged : (keys : List Key) (r : YearRange) (s : Settings) (ms : List Placed)
    → Each (IsFound keys) ms
    → settings_from true keys (in_range r s) ms ≡ cond (is_set true (codes "range") ms)
    (settings_from true keys s ms) (in_range r (settings_from true keys s ms))
ranged keys r s [] f = refl
ranged keys r s (m ∷ ms) f =
    ap (λ o. settings_from true keys (with_option (in_range r s) o) ms) found
    ∙ by (ranged keys r (with s f.0.setting) ms f.1) (equal (codes "range") m.key) f.0.range
    ∙ sym (ap (λ o. cond (equal (codes "range") m.key || is_set true (codes "range") ms)
    (settings_from true keys (with_option s o) ms)
    (in_range r (settings_from true keys (with_option s o) ms))) found)
  where
    found : setting_of true (key_in true m.key keys) m.value ≡ Some f.0.setting
    found = ap (λ o. setting_of true o m.value) f.0.strict_key ∙ f.0.strict_setting

    by : settings_from true keys (in_range r (with s f.0.setting)) ms
        ≡ cond (is_set true (codes "range") ms) (settings_from true keys (with s f.0.setting) ms)
        (in_range r (settings_from true keys (with s f.0.setting) ms))
        → (t : Bool) → is_range f.0.setting ≡ t
        → settings_from true keys (with (in_range r s) f.0.setting) ms
        ≡ cond (t || is_set true (codes "range") ms)
        (settings_from true keys (with s f.0.setting) ms)
        (in_range r (settings_from true keys (with s f.0.setting) ms))
    by more true e = ap (λ x. settings_from true keys x ms) (with_range r s f.0.setting e)
    by more false e = ap (λ x. settings_from true keys x ms) (with_other r s f.0.setting e) ∙ more

-- Brackets.

component_relaxed : (h : Head) (r : Row) (tree : Tree) → IsPlainRow r
    → component_verdict true h (Some r) ≡ Ok tree
    → (component_verdict false h (Some r) ≡ Ok (relaxed_tree h tree)) × IsStandardIn h tree
component_relaxed h r tree plain e = (
  none_after (bad_modifiers false r.keys [] (placed h))
      (made false h (r.component (settings false r.keys (placed h))))
      (good_without_case r.keys [] (placed h) found)
      ∙ ap (made false h) (by (is_set true (codes "range") (placed h)) refl)
      ∙ ap (λ t. Ok (relaxed_tree h t)) leaf.1,
  subst (IsStandardIn h) leaf.1 (λ n. (standard n).1),
)
  where
    found : Each (IsFound r.keys) (placed h)
    found = all_found r.keys (placed h) plain.keys
        (all_good r.keys [] (placed h)
        (after_none (bad_modifiers true r.keys [] (placed h))
        (made true h (r.component (settings true r.keys (placed h)))) tree e))

    leaf : (c : Component) × (component c ≡ tree)
        × (r.component (settings true r.keys (placed h)) ≡ Ok c)
    leaf = made_ok true h (r.component (settings true r.keys (placed h))) tree
        (after_ok (bad_modifiers true r.keys [] (placed h))
        (made true h (r.component (settings true r.keys (placed h)))) tree e)

    loose : settings false r.keys (placed h) ≡ cond (is_set true (codes "range") (placed h))
        (settings true r.keys (placed h))
        (in_range YearRange.Extended (settings true r.keys (placed h)))
    loose = settings_same r.keys (defaults false) (placed h) found ∙
        ranged r.keys YearRange.Extended (defaults true) (placed h) found

    strict : settings true r.keys (placed h) ≡ cond (is_set true (codes "range") (placed h))
        (settings true r.keys (placed h))
        (in_range YearRange.Standard (settings true r.keys (placed h)))
    strict = ranged r.keys YearRange.Standard (defaults true) (placed h) found

    standard : is_set true (codes "range") (placed h) ≡ false
        → (r.component (in_range YearRange.Extended (settings true r.keys (placed h))) ≡ Ok
        (widened leaf.0)) × IsStandard leaf.0
    standard n = plain.component (settings true r.keys (placed h)) leaf.0
        (sym (ap r.component (strict ∙ rw n refl)) ∙ leaf.2)

    by : (t : Bool) → is_set true (codes "range") (placed h) ≡ t
        → r.component (settings false r.keys (placed h)) ≡ Ok
        (cond (is_set true (codes "range") (placed h)) leaf.0 (widened leaf.0))
    by true n = rw n (ap r.component (loose ∙ rw n refl) ∙ leaf.2)
    by false n =
        rw n (ap r.component (loose ∙ rw n refl) ∙ (standard n).0)

named_relaxed : (h : Head) (close : ℕ) (tree : Tree) (o : Option Row) → row_of true h.name ≡ o
    → component_verdict true h o ≡ Ok tree
    → (verdict false h [] close ≡ Ok (relaxed_tree h tree)) × IsStandardIn h tree
named_relaxed h close tree None known e = absurd cc
named_relaxed h close tree (Some r) known e = (
  ap₂ (λ x y. cond x (optional_verdict false h [] close)
      (cond y (first_verdict false h [] close) (component_verdict false h (row_of false h.name))))
      (ap (equal (codes "optional")) low ∙ no_optional) (ap (equal (codes "first")) low ∙ no_first)
      ∙ ap (component_verdict false h)
      (named-lowered (λ x. x.name) h.name rows (row_names rows all_plain) low ∙ known)
      ∙ relaxes.0,
  relaxes.1,
)
  where
    found : IsPlainRow r × (r.name ≡ h.name)
    found = named-found (λ x. x.name) IsPlainRow h.name rows r all_plain known

    relaxes : (component_verdict false h (Some r) ≡ Ok (relaxed_tree h tree)) × IsStandardIn h tree
    relaxes = component_relaxed h r tree found.0 e

    low : IsLowered h.name
    low = subst IsLowered found.1 found.0.name

    no_optional : equal (codes "optional") h.name ≡ false
    no_optional = subst (λ x. equal (codes "optional") x ≡ false) found.1 found.0.no_optional

    no_first : equal (codes "first") h.name ≡ false
    no_first = subst (λ x. equal (codes "first") x ≡ false) found.1 found.0.no_first

verdict_relaxed : (h : Head) (close : ℕ) (tree : Tree) → verdict true h [] close ≡ Ok tree
    → (verdict false h [] close ≡ Ok (relaxed_tree h tree)) × IsStandardIn h tree
verdict_relaxed h close tree e = by (same true (codes "optional") h.name)
    (same true (codes "first") h.name) e
  where
    by : (t u : Bool) → cond t (optional_verdict true h [] close)
        (cond u (first_verdict true h [] close) (component_verdict true h (row_of true h.name)))
        ≡ Ok tree
        → (verdict false h [] close ≡ Ok (relaxed_tree h tree)) × IsStandardIn h tree
    by true u c = absurd (unless_two (bad_modifiers true (format ∷ []) [] (placed h)) None
        (fault expected_nested close) (optional (is_formatted true (placed h)) (only [])) tree c)
    by false true c =
        absurd (unless_fault (any_modifier (placed h)) (fault expected_alternative close)
        (first (trees [])) tree c)
    by false false c = named_relaxed h close tree (row_of true h.name) refl c

-- Pieces.

relaxed_begins : (ps : Pieces) → BeginsNoRun ps → BeginsNoRun (relaxed ps)
relaxed_begins no_pieces b = tt
relaxed_begins (run bytes rest) b = absurd b
relaxed_begins (escape x y rest) b = tt
relaxed_begins (closing rest) b = tt
relaxed_begins (bracket h ns white tree rest) b = tt

relaxed_are : (limit : ℕ) (ps : Pieces) → ArePieces Three limit 0 ps → IsFlat ps
    → ArePieces Two limit 0 (relaxed ps)
relaxed_are limit no_pieces are flat = tt
relaxed_are limit (run bytes rest) are flat =
    (are.0, relaxed_begins rest are.1, relaxed_are limit rest are.2 flat)
relaxed_are limit (escape a b rest) are flat = (are.0, relaxed_are limit rest are.1 flat)
relaxed_are limit (closing rest) are flat = absurd (false≢true (sym are.0))
relaxed_are limit (bracket h no_nested white tree rest) are flat =
    (are.0, tt, are.2, (verdict_relaxed h _ tree are.3).0, relaxed_are limit rest are.4 flat.1)
relaxed_are limit (bracket h (nested w ps ns) white tree rest) are flat = absurd flat.0

standard_are : (limit : ℕ) (ps : Pieces) → ArePieces Three limit 0 ps → IsFlat ps → AreStandard ps
standard_are limit no_pieces are flat = tt
standard_are limit (run bytes rest) are flat = standard_are limit rest are.2 flat
standard_are limit (escape a b rest) are flat = standard_are limit rest are.1 flat
standard_are limit (closing rest) are flat = absurd (false≢true (sym are.0))
standard_are limit (bracket h no_nested white tree rest) are flat =
    ((verdict_relaxed h _ tree are.3).1, standard_are limit rest are.4 flat.1)
standard_are limit (bracket h (nested w ps ns) white tree rest) are flat = absurd flat.0

pub relaxed_spelling : (ps : Pieces) → spelling (relaxed ps) ≡ spelling ps
relaxed_spelling no_pieces = refl
relaxed_spelling (run bytes rest) = ap (λ x. bytes ++ x) (relaxed_spelling rest)
relaxed_spelling (escape a b rest) = ap (λ x. a ∷ b ∷ x) (relaxed_spelling rest)
relaxed_spelling (closing rest) = ap (λ x. right ∷ x) (relaxed_spelling rest)
relaxed_spelling (bracket h ns white tree rest) =
    ap (λ x. head_text h ++ nested_text ns ++ white ++ right ∷ x) (relaxed_spelling rest)

pub relaxing_law : Relaxing
relaxing_law limit ps are flat = (
  relaxed_are limit ps are flat,
  relaxed_spelling ps,
  standard_are limit ps are flat,
)
