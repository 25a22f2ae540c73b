-- A bracket that version 2 accepts is a modern component, with a count that fits into 16 bits.
use Rattle.std.proofs.Common.{ℕ, suc, zero, ◌≡◌, ◌≤◌, ◌==◌, cond, Bool, true, false, List, [], ◌∷◌, Option, Some, None, Result, Ok, codes, nat_le, refl, sym, subst, leb-true}
use Rattle.std.specs.Prelude.{⊤}
use Rattle.std.specs.declared.num.NonZeroU16.{NonZeroU16}
use Rattle.timefd_lang_component.specs.declared.component.Component.{Component}
use Rattle.timefd_lang_component.specs.Tree.{Text, Tree, component}
use Rattle.timefd_lang_fault.specs.Faults.{Kind, Fault, fault}
use Rattle.timefd_lang_component.specs.Modern.{modern}
use Rattle.timefd_lang_component.proofs.ModernLemmas.{IsReplacement, month_replaced, weekday_replaced, week_replaced, hour_replaced, timestamp_replaced, year_replaced}
use Rattle.timefd_language.specs.Bytes.{same}
use Rattle.timefd_lang_fault.specs.Words.{expected_nested, optional_item, first_item}
use Rattle.timefd_language.specs.Head.{Head, Placed, placed}
use Rattle.timefd_language.specs.declared.setting.Setting.{Setting}
use Rattle.timefd_language.specs.declared.setting.Settings.{Settings}
use Rattle.timefd_lang_fault.specs.declared.name.ComponentName.{ComponentName}
use Rattle.timefd_language.specs.Settings.{defaults}
use Rattle.timefd_language.specs.Values.{count, format, digits_of, counted, count_of, not_zero, key_in}
use Rattle.timefd_language.specs.Names.{Row, rows, row_for, row_of, component_names, ignored}
use Rattle.timefd_language.specs.Verdict.{bad_modifiers, any_modifier, setting_of, with_option, settings_from, settings, made, optional_verdict, first_verdict, component_verdict, verdict}
use Rattle.timefd_language.proofs.Lookup.{Each, each-map}
use Rattle.timefd_language.proofs.Roomy.{after_ok, made_ok}
use Rattle.timefd_language.proofs.Recase.{unless_two}
use Rattle.timefd_language.proofs.ModernPieces.{name_modern, row_has}
use Rattle.timefd_lift.specs.Plain.{IsCounted}

-- Counts.

abbrev IsSmall : Option NonZeroU16 → Type 0
IsSmall None = ⊤
IsSmall (Some n) = n.value ≤ 65535

-- what a word sets a count to
abbrev SetsSmall : Option Setting → Type 0
SetsSmall None = ⊤
SetsSmall (Some v) = (n : NonZeroU16) × (v ≡ Setting.Count n) × (n.value ≤ 65535)

counted_small : (o : Option ℕ) → SetsSmall (counted o)
counted_small None = tt
counted_small (Some zero) = tt
counted_small (Some (suc n)) = by (nat_le (suc n) 65535) refl
  where
    by : (t : Bool) → nat_le (suc n) 65535 ≡ t
        → SetsSmall (elim t [ true ↦ Some (Setting.Count (not_zero n)) | false ↦ None ])
    by true e = (not_zero n, refl, leb-true (suc n) 65535 e)
    by false e = tt

count_small : (text : Text) → SetsSmall (count_of text)
count_small [] = tt
count_small (b ∷ bytes) = by (b == 43)
  where
    by : (t : Bool)
        → SetsSmall (elim t [
          | true ↦ counted (digits_of bytes)
          | false ↦ counted
              (digits_of (b ∷ bytes))
        ])
    by true = counted_small (digits_of bytes)
    by false = counted_small (digits_of (b ∷ bytes))

set_small : (s : Settings) (o : Option Setting) → IsSmall s.count → SetsSmall o
    → IsSmall (with_option s o).count
set_small s None small sets = small
set_small s (Some v) small sets = subst (λ w. IsSmall (with_option s (Some w)).count) (sym sets.1)
    sets.2

word_small : (strict : Bool) (key value : Text)
    → SetsSmall (setting_of strict (key_in strict key (count ∷ [])) value)
word_small strict key value = by (same strict (codes "count") key)
  where
    by : (t : Bool)
        → SetsSmall (setting_of strict (elim t [ true ↦ Some count | false ↦ None ]) value)
    by true = count_small value
    by false = tt

all_small : (strict : Bool) (s : Settings) (ms : List Placed) → IsSmall s.count
    → IsSmall (settings_from strict (count ∷ []) s ms).count
all_small strict s [] small = small
all_small strict s (m ∷ ms) small =
    all_small strict (with_option s (setting_of strict (key_in strict m.key (count ∷ [])) m.value))
    ms
    (set_small s (setting_of strict (key_in strict m.key (count ∷ [])) m.value) small
    (word_small strict m.key m.value))

-- Rows.

abbrev IsCountedRow : Row → Type 0
IsCountedRow r = (strict : Bool) (ms : List Placed) (c : Component)
    → r.component (settings strict r.keys ms) ≡ Ok c → IsCounted c

by_form : (d c : Component) → ◌≡◌ {A = Result Component Kind} (Ok d) (Ok c) → IsCounted d
    → IsCounted c
by_form d c e counted = let is : d ≡ c = cc in subst IsCounted is counted

replacement_counted : (c : Component) → IsReplacement c → IsCounted c
replacement_counted (Component.Ignore i) is = absurd is
replacement_counted _ is = tt

by_replacement : (d c : Component) → ◌≡◌ {A = Result Component Kind} (Ok d) (Ok c)
    → IsReplacement d → IsCounted c
by_replacement d c e is = by_form d c e (replacement_counted d is)

ignore_counted : (o : Option NonZeroU16) (c : Component) → IsSmall o → ignored o ≡ Ok c
    → IsCounted c
ignore_counted None c small e = absurd cc
ignore_counted (Some n) c small e = by_form (Component.Ignore (record { count = n })) c e small

name_counted : (n : ComponentName) → IsCountedRow (row_for n)
name_counted ComponentName.Day = λ strict ms c e. by_form _ c e tt
name_counted ComponentName.End = λ strict ms c e. by_form _ c e tt
name_counted ComponentName.Hour = λ strict ms c e. by_replacement _ c e (hour_replaced _ _)
name_counted ComponentName.Ignore =
    λ strict ms c e. ignore_counted (settings strict (count ∷ []) ms).count c
    (all_small strict (defaults strict) ms tt) e
name_counted ComponentName.Minute = λ strict ms c e. by_form _ c e tt
name_counted ComponentName.Month = λ strict ms c e. by_replacement _ c e (month_replaced _ _)
name_counted ComponentName.OffsetHour = λ strict ms c e. by_form _ c e tt
name_counted ComponentName.OffsetMinute = λ strict ms c e. by_form _ c e tt
name_counted ComponentName.OffsetSecond = λ strict ms c e. by_form _ c e tt
name_counted ComponentName.Ordinal = λ strict ms c e. by_form _ c e tt
name_counted ComponentName.Period = λ strict ms c e. by_form _ c e tt
name_counted ComponentName.Second = λ strict ms c e. by_form _ c e tt
name_counted ComponentName.Subsecond = λ strict ms c e. by_form _ c e tt
name_counted ComponentName.UnixTimestamp = λ strict ms c e. by_replacement _ c e (timestamp_replaced _ _)
name_counted ComponentName.Weekday = λ strict ms c e. by_replacement _ c e (weekday_replaced _ _)
name_counted ComponentName.WeekNumber = λ strict ms c e. by_replacement _ c e (week_replaced _ _)
name_counted ComponentName.Year = λ strict ms c e. by_replacement _ c e (year_replaced _ _ _ _)

-- Brackets.

abbrev IsGoodRow : Row → Type 0
IsGoodRow r = (strict : Bool) (ms : List Placed) (c : Component)
    → r.component (settings strict r.keys ms) ≡ Ok c → (modern c ≡ c) × IsCounted c

name_good : (n : ComponentName) → IsGoodRow (row_for n)
name_good n strict ms c e = (
  name_modern n (settings strict (row_for n).keys ms) c e,
  name_counted n strict ms c e,
)

rows_good : Each IsGoodRow rows
rows_good = each-map row_for IsGoodRow component_names name_good

-- the tree is a modern component, with a count that fits into 16 bits
pub record IsLeaf (tree : Tree) : Type 0 where
  pub leaf : Component
  pub is : component leaf ≡ tree
  pub modern : modern leaf ≡ leaf
  pub counted : IsCounted leaf

-- the component that a name selects
pub component_leaf : (strict : Bool) (h : Head) (tree : Tree) (o : Option Row)
    → row_of strict h.name ≡ o → component_verdict strict h o ≡ Ok tree → IsLeaf tree
component_leaf strict h tree None known e = absurd cc
component_leaf strict h tree (Some r) known e =
    let leaf = made_ok strict h (r.component (settings strict r.keys (placed h))) tree
    (after_ok (bad_modifiers strict r.keys [] (placed h))
    (made strict h (r.component (settings strict r.keys (placed h)))) tree e) in
    let good =
    row_has IsGoodRow strict h.name rows r rows_good known strict (placed h) leaf.0 leaf.2 in
    record { leaf = leaf.0; is = leaf.1; modern = good.0; counted = good.1 }

-- the third of three answers, if it is neither of the first two
pub third : (t : Tree) (a b : Bool) (x y z : Result Tree Fault) → (x ≡ Ok t → ⊥) → (y ≡ Ok t → ⊥)
    → cond a x (cond b y z) ≡ Ok t → z ≡ Ok t
third t true b x y z no_x no_y e = absurd (no_x e)
third t false true x y z no_x no_y e = absurd (no_y e)
third t false false x y z no_x no_y e = e

-- without nested descriptions
pub bracket-leaf : (h : Head) (close : ℕ) (tree : Tree) → verdict false h [] close ≡ Ok tree
    → IsLeaf tree
bracket-leaf h close tree e =
    component_leaf false h tree (row_of false h.name) refl
    (third tree (same false (codes "optional") h.name) (same false (codes "first") h.name)
    (optional_verdict false h [] close) (first_verdict false h [] close)
    (component_verdict false h (row_of false h.name))
    (λ o. unless_two (bad_modifiers false (format ∷ []) [] (placed h))
    (Some (fault expected_nested close)) (fault optional_item 0) _ tree o)
    (λ f. unless_two (any_modifier (placed h)) None (fault first_item 0) _ tree f)
    e)
