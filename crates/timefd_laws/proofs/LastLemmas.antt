-- In versions 1 and 2 the last modifier of a key counts.
use Rattle.std.proofs.Common.{ℕ, ◌≡◌, ◌==◌, Bool, true, false, List, [], ◌∷◌, ◌++◌, Option, Some, None, is_some, eqb-true, eq-eqb, refl, sym, ap, ◌∙◌, subst}
use Rattle.std.specs.List.{list_all}
use Rattle.std.proofs.lemmas.Bool.{false≢true}
use Rattle.timefd_lang_component.specs.Tree.{Text}
use Rattle.timefd_lang_fault.specs.declared.name.ComponentName.{ComponentName}
use Rattle.timefd_lang_fault.specs.declared.name.Name.{Name}
use Rattle.timefd_language.specs.declared.setting.Setting.{Setting}
use Rattle.timefd_language.specs.declared.setting.Settings.{Settings}
use Rattle.timefd_language.specs.Bytes.{same, named}
use Rattle.timefd_language.specs.Head.{Placed}
use Rattle.timefd_language.specs.Lookup.{keys_for}
use Rattle.timefd_language.specs.Settings.{defaults, with}
use Rattle.timefd_language.specs.Values.{Values, words, numbers, Key, key_in, setting_in}
use Rattle.timefd_language.specs.Verdict.{setting_of, with_option, settings_from, settings}
use Rattle.timefd_language.proofs.Lookup.{Each, each-passes, count_of-sets}
use Rattle.timefd_laws.specs.Modifiers.{LastCounts}
use Rattle.timefd_laws.proofs.WordLemmas.{found_value}

-- which field a setting sets
abbrev slot : Setting → ℕ
slot (Setting.Padding x) = 0
slot (Setting.TrailingInput x) = 1
slot (Setting.Is12HourClock x) = 2
slot (Setting.Count x) = 3
slot (Setting.MonthRepr x) = 4
slot (Setting.CaseSensitive x) = 5
slot (Setting.SignIsMandatory x) = 6
slot (Setting.IsUppercase x) = 7
slot (Setting.Digits x) = 8
slot (Setting.Precision x) = 9
slot (Setting.WeekdayRepr x) = 10
slot (Setting.OneIndexed x) = 11
slot (Setting.WeekNumberRepr x) = 12
slot (Setting.YearRepr x) = 13
slot (Setting.Range x) = 14
slot (Setting.IsoWeekBased x) = 15
slot (Setting.Format x) = 16

-- If two settings set the same field, the second one counts.
replaced : (s : Settings) (x y : Setting) → (slot x == slot y) ≡ true
    → with (with s x) y ≡ with s y
replaced s (Setting.Padding x) (Setting.Padding y) e = refl
replaced s (Setting.Padding x) _ e = absurd (false≢true e)
replaced s (Setting.TrailingInput x) (Setting.TrailingInput y) e = refl
replaced s (Setting.TrailingInput x) _ e = absurd (false≢true e)
replaced s (Setting.Is12HourClock x) (Setting.Is12HourClock y) e = refl
replaced s (Setting.Is12HourClock x) _ e = absurd (false≢true e)
replaced s (Setting.Count x) (Setting.Count y) e = refl
replaced s (Setting.Count x) _ e = absurd (false≢true e)
replaced s (Setting.MonthRepr x) (Setting.MonthRepr y) e = refl
replaced s (Setting.MonthRepr x) _ e = absurd (false≢true e)
replaced s (Setting.CaseSensitive x) (Setting.CaseSensitive y) e = refl
replaced s (Setting.CaseSensitive x) _ e = absurd (false≢true e)
replaced s (Setting.SignIsMandatory x) (Setting.SignIsMandatory y) e = refl
replaced s (Setting.SignIsMandatory x) _ e = absurd (false≢true e)
replaced s (Setting.IsUppercase x) (Setting.IsUppercase y) e = refl
replaced s (Setting.IsUppercase x) _ e = absurd (false≢true e)
replaced s (Setting.Digits x) (Setting.Digits y) e = refl
replaced s (Setting.Digits x) _ e = absurd (false≢true e)
replaced s (Setting.Precision x) (Setting.Precision y) e = refl
replaced s (Setting.Precision x) _ e = absurd (false≢true e)
replaced s (Setting.WeekdayRepr x) (Setting.WeekdayRepr y) e = refl
replaced s (Setting.WeekdayRepr x) _ e = absurd (false≢true e)
replaced s (Setting.OneIndexed x) (Setting.OneIndexed y) e = refl
replaced s (Setting.OneIndexed x) _ e = absurd (false≢true e)
replaced s (Setting.WeekNumberRepr x) (Setting.WeekNumberRepr y) e = refl
replaced s (Setting.WeekNumberRepr x) _ e = absurd (false≢true e)
replaced s (Setting.YearRepr x) (Setting.YearRepr y) e = refl
replaced s (Setting.YearRepr x) _ e = absurd (false≢true e)
replaced s (Setting.Range x) (Setting.Range y) e = refl
replaced s (Setting.Range x) _ e = absurd (false≢true e)
replaced s (Setting.IsoWeekBased x) (Setting.IsoWeekBased y) e = refl
replaced s (Setting.IsoWeekBased x) _ e = absurd (false≢true e)
replaced s (Setting.Format x) (Setting.Format y) e = refl
replaced s (Setting.Format x) _ e = absurd (false≢true e)

-- Settings of different fields can be swapped.
exchanged : (s : Settings) (x y : Setting) → (slot x == slot y) ≡ false
    → with (with s x) y ≡ with (with s y) x
exchanged s (Setting.Padding x) (Setting.Padding y) other = absurd (false≢true (sym other))
exchanged s (Setting.Padding x) _ other = refl
exchanged s (Setting.TrailingInput x) (Setting.TrailingInput y) other = absurd (false≢true (sym other))
exchanged s (Setting.TrailingInput x) _ other = refl
exchanged s (Setting.Is12HourClock x) (Setting.Is12HourClock y) other = absurd (false≢true (sym other))
exchanged s (Setting.Is12HourClock x) _ other = refl
exchanged s (Setting.Count x) (Setting.Count y) other = absurd (false≢true (sym other))
exchanged s (Setting.Count x) _ other = refl
exchanged s (Setting.MonthRepr x) (Setting.MonthRepr y) other = absurd (false≢true (sym other))
exchanged s (Setting.MonthRepr x) _ other = refl
exchanged s (Setting.CaseSensitive x) (Setting.CaseSensitive y) other = absurd (false≢true (sym other))
exchanged s (Setting.CaseSensitive x) _ other = refl
exchanged s (Setting.SignIsMandatory x) (Setting.SignIsMandatory y) other = absurd (false≢true (sym other))
exchanged s (Setting.SignIsMandatory x) _ other = refl
exchanged s (Setting.IsUppercase x) (Setting.IsUppercase y) other = absurd (false≢true (sym other))
exchanged s (Setting.IsUppercase x) _ other = refl
exchanged s (Setting.Digits x) (Setting.Digits y) other = absurd (false≢true (sym other))
exchanged s (Setting.Digits x) _ other = refl
exchanged s (Setting.Precision x) (Setting.Precision y) other = absurd (false≢true (sym other))
exchanged s (Setting.Precision x) _ other = refl
exchanged s (Setting.WeekdayRepr x) (Setting.WeekdayRepr y) other = absurd (false≢true (sym other))
exchanged s (Setting.WeekdayRepr x) _ other = refl
exchanged s (Setting.OneIndexed x) (Setting.OneIndexed y) other = absurd (false≢true (sym other))
exchanged s (Setting.OneIndexed x) _ other = refl
exchanged s (Setting.WeekNumberRepr x) (Setting.WeekNumberRepr y) other = absurd (false≢true (sym other))
exchanged s (Setting.WeekNumberRepr x) _ other = refl
exchanged s (Setting.YearRepr x) (Setting.YearRepr y) other = absurd (false≢true (sym other))
exchanged s (Setting.YearRepr x) _ other = refl
exchanged s (Setting.Range x) (Setting.Range y) other = absurd (false≢true (sym other))
exchanged s (Setting.Range x) _ other = refl
exchanged s (Setting.IsoWeekBased x) (Setting.IsoWeekBased y) other = absurd (false≢true (sym other))
exchanged s (Setting.IsoWeekBased x) _ other = refl
exchanged s (Setting.Format x) (Setting.Format y) other = absurd (false≢true (sym other))
exchanged s (Setting.Format x) _ other = refl

-- The field that the values of a key set.

abbrev field : Values → ℕ
field (words []) = 0
field (words (v ∷ vs)) = slot v.sets
field numbers = 3

abbrev sets_one_field : Values → Bool
sets_one_field (words vs) = list_all (λ v. slot v.sets == field (words vs)) vs
sets_one_field numbers = true

component_keys : (n : ComponentName)
    → list_all (λ k. sets_one_field k.values) (keys_for (Name.Component n)) ≡ true
component_keys ComponentName.Day = refl
component_keys ComponentName.End = refl
component_keys ComponentName.Hour = refl
component_keys ComponentName.Ignore = refl
component_keys ComponentName.Minute = refl
component_keys ComponentName.Month = refl
component_keys ComponentName.OffsetHour = refl
component_keys ComponentName.OffsetMinute = refl
component_keys ComponentName.OffsetSecond = refl
component_keys ComponentName.Ordinal = refl
component_keys ComponentName.Period = refl
component_keys ComponentName.Second = refl
component_keys ComponentName.Subsecond = refl
component_keys ComponentName.UnixTimestamp = refl
component_keys ComponentName.Weekday = refl
component_keys ComponentName.WeekNumber = refl
component_keys ComponentName.Year = refl

all_keys : (name : Name) → list_all (λ k. sets_one_field k.values) (keys_for name) ≡ true
all_keys Name.Optional = refl
all_keys Name.First = refl
all_keys (Name.Component n) = component_keys n

-- what is found is an element of the list
pub found_in : {A : Type 0} (name : A → Text) (P : A → Type 0) (strict : Bool) (text : Text)
    (xs : List A) (x : A) → Each P xs → named name strict text xs ≡ Some x → P x
found_in name P strict text [] x all e = absurd cc
found_in name P strict text (y ∷ ys) x all e =
    by (λ h. found_in name P strict text ys x all.1 h) (same strict (name y) text) e
  where
    by : (named name strict text ys ≡ Some x → P x) → (t : Bool)
        → elim t [ true ↦ Some y | false ↦ named name strict text ys ] ≡ Some x → P x
    by more true h = let is : y ≡ x = cc in subst P is all.0
    by more false h = more h

field_of : (values : Values) (text : Text) (x : Setting) → sets_one_field values ≡ true
    → setting_in false values text ≡ Some x → slot x ≡ field values
field_of (words vs) text x one e =
    let f = found_value (named (λ v. v.word) false text vs) x e in
    ap slot f.2
    ∙ found_in (λ v. v.word) (λ v. slot v.sets ≡ field (words vs)) false text vs f.0
    (each-passes (λ v. slot v.sets == field (words vs)) (λ v. slot v.sets ≡ field (words vs))
    (λ v h. eqb-true (slot v.sets) (field (words vs)) h) vs one) f.1
field_of numbers text x one e = ap slot (count_of-sets text x e).1

-- A setting makes no difference if another setting of its field follows.
abbrev set_by : List Key → Placed → Option Setting
set_by keys m = setting_of false (key_in false m.key keys) m.value

abbrev Overridden : List Key → Setting → List Placed → Type 0
Overridden keys x ms = (s : Settings)
    → settings_from false keys (with s x) ms ≡ settings_from false keys s ms

passed : (keys : List Key) (x : Setting) (o : Option Setting) (ms : List Placed) (s : Settings)
    → Overridden keys x ms
    → settings_from false keys (with_option (with s x) o) ms
    ≡ settings_from false keys (with_option s o) ms
passed keys x None ms s more = more s
passed keys x (Some y) ms s more = by (slot x == slot y) refl
  where
    by : (t : Bool) → (slot x == slot y) ≡ t
        → settings_from false keys (with (with s x) y) ms ≡ settings_from false keys (with s y) ms
    by true e = ap (λ t. settings_from false keys t ms) (replaced s x y e)
    by false e = ap (λ t. settings_from false keys t ms) (exchanged s x y e) ∙ more (with s y)

overridden : (keys : List Key) (x z : Setting) (between rest : List Placed) (last : Placed)
    → set_by keys last ≡ Some z → (slot x == slot z) ≡ true
    → Overridden keys x (between ++ last ∷ rest)
overridden keys x z [] rest last e one s =
    ap (λ t. settings_from false keys t rest)
    (ap (λ o. with_option (with s x) o) e ∙ replaced s x z one ∙
    sym (ap (λ o. with_option s o) e))
overridden keys x z (p ∷ between) rest last e one s =
    passed keys x (set_by keys p) (between ++ last ∷ rest) s
    (λ t. overridden keys x z between rest last e one t)

left_out : (keys : List Key) (m : Placed) (before ms : List Placed) (s : Settings)
    → ((x : Setting) → set_by keys m ≡ Some x → Overridden keys x ms)
    → settings_from false keys s (before ++ m ∷ ms) ≡ settings_from false keys s (before ++ ms)
left_out keys m [] ms s over = by (set_by keys m) refl
  where
    by : (o : Option Setting) → set_by keys m ≡ o
        → settings_from false keys (with_option s o) ms ≡ settings_from false keys s ms
    by None e = refl
    by (Some x) e = over x e s
left_out keys m (p ∷ before) ms s over =
    left_out keys m before ms (with_option s (set_by keys p)) over

pub last_counts : LastCounts
last_counts name before between rest m last k known again good =
    by (setting_in false k.values last.value) refl good
  where
    one : sets_one_field k.values ≡ true
    one = found_in (λ k. k.key) (λ k. sets_one_field k.values ≡ true) false m.key (keys_for name) k
        (each-passes (λ k. sets_one_field k.values) (λ k. sets_one_field k.values ≡ true)
        (λ k h. h) (keys_for name) (all_keys name)) known

    field_is : (text : Text) (x : Setting) → setting_in false k.values text ≡ Some x
        → slot x ≡ field k.values
    field_is text x e = field_of k.values text x one e

    by : (o : Option Setting) → setting_in false k.values last.value ≡ o → is_some o ≡ true
        → settings false (keys_for name) (before ++ m ∷ (between ++ last ∷ rest))
        ≡ settings false (keys_for name) (before ++ (between ++ last ∷ rest))
    by None e good = absurd (false≢true good)
    by (Some z) e good =
        left_out (keys_for name) m before (between ++ last ∷ rest) (defaults false)
        (λ x h. overridden (keys_for name) x z between rest last
        (ap (λ o. setting_of false o last.value) again ∙ e)
        (eq-eqb (slot x) (slot z)
        (field_is m.value x (sym (ap (λ o. setting_of false o m.value) known) ∙ h) ∙
        sym (field_is last.value z e))))
