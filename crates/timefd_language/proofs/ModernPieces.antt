-- All components of a text are modern.
use Rattle.std.proofs.Common.{ℕ, suc, ◌+◌, ◌≡◌, sym, Bool, true, false, ◌&&◌, List, [], ◌∷◌, ◌++◌, map, Result, Ok, Option, Some, None, length, refl, subst}
use Rattle.std.proofs.lemmas.Bool.{and_parts}
use Rattle.std.specs.declared.num.NonZeroU16.{NonZeroU16}
use Rattle.timefd_lang_component.specs.declared.component.Component.{Component}
use Rattle.timefd_lang_component.specs.Tree.{Text, Tree, component, literal, compound, optional, first, Trees, no_trees, more_trees, trees, pack}
use Rattle.timefd_lang_fault.specs.Faults.{Kind}
use Rattle.timefd_lang_component.specs.Modern.{modern, IsModern, AreModern}
use Rattle.timefd_lang_component.proofs.ModernLemmas.{modern_twice_law}
use Rattle.timefd_language.specs.declared.description_version.DescriptionVersion.{DescriptionVersion}
use Rattle.timefd_language.specs.Bytes.{named, same, is_version_three}
use Rattle.timefd_language.specs.Head.{Head, head_text, placed}
use Rattle.timefd_language.specs.declared.setting.Settings.{Settings}
use Rattle.timefd_lang_fault.specs.declared.name.ComponentName.{ComponentName}
use Rattle.timefd_language.specs.Names.{Row, rows, row_for, row_of, component_names, ignored}
use Rattle.timefd_language.specs.Verdict.{PlacedDescription, bad_modifiers, settings, made, only, component_verdict, verdict}
use Rattle.timefd_language.specs.Grammar.{Pieces, no_pieces, run, escape, closing, bracket, Nested, no_nested, nested, spelling, nested_text, items, ArePieces, AreNested, parts_from}
use Rattle.timefd_language.specs.Letters.{Flag, Letter, letters, is_one_of, item_in, item_of}
use Rattle.timefd_language.specs.Strftime.{Directives, no_directives, plain, directive, directive_items, AreDirectives}
use Rattle.timefd_language.specs.Laws.{Modernity, StrftimeModernity}
use Rattle.timefd_language.proofs.Lookup.{Each, each-map, each-passes}
use Rattle.timefd_language.proofs.Roomy.{after_ok, made_ok, verdict_has}

-- Rows.

abbrev IsModernRow : Row → Type 0
IsModernRow r = (s : Settings) (c : Component) → r.component s ≡ Ok c → modern c ≡ c

made_modern : (d c : Component) → ◌≡◌ {A = Result Component Kind} (Ok d) (Ok c) → modern d ≡ d
    → modern c ≡ c
made_modern d c e h = let is : d ≡ c = cc in subst (λ x. modern x ≡ x) is h

ignore_modern : (o : Option NonZeroU16) (c : Component) → ignored o ≡ Ok c → modern c ≡ c
ignore_modern None c e = absurd cc
ignore_modern (Some n) c e = made_modern (Component.Ignore (record { count = n })) c e refl

-- the component of a name is modern
pub name_modern : (n : ComponentName) → IsModernRow (row_for n)
name_modern ComponentName.Day = λ s c e. made_modern _ c e refl
name_modern ComponentName.End = λ s c e. made_modern _ c e refl
name_modern ComponentName.Hour = λ s c e. made_modern _ c e
    (modern_twice_law (Component.Hour
    (record { padding = s.padding; is_12_hour_clock = s.is_12_hour_clock })))
name_modern ComponentName.Ignore = λ s c e. ignore_modern s.count c e
name_modern ComponentName.Minute = λ s c e. made_modern _ c e refl
name_modern ComponentName.Month = λ s c e. made_modern _ c e
    (modern_twice_law (Component.Month
    (record { padding = s.padding; repr = s.month_repr; case_sensitive = s.case_sensitive })))
name_modern ComponentName.OffsetHour = λ s c e. made_modern _ c e refl
name_modern ComponentName.OffsetMinute = λ s c e. made_modern _ c e refl
name_modern ComponentName.OffsetSecond = λ s c e. made_modern _ c e refl
name_modern ComponentName.Ordinal = λ s c e. made_modern _ c e refl
name_modern ComponentName.Period = λ s c e. made_modern _ c e refl
name_modern ComponentName.Second = λ s c e. made_modern _ c e refl
name_modern ComponentName.Subsecond = λ s c e. made_modern _ c e refl
name_modern ComponentName.UnixTimestamp =
    λ s c e. made_modern _ c e (modern_twice_law
    (Component.UnixTimestamp (record {
      precision = s.precision;
      sign_is_mandatory =
          s.sign_is_mandatory;
    })))
name_modern ComponentName.Weekday =
    λ s c e. made_modern _ c e (modern_twice_law
    (Component.Weekday (record {
      repr = s.weekday_repr;
      one_indexed =
          s.one_indexed;
      case_sensitive = s.case_sensitive;
    })))
name_modern ComponentName.WeekNumber =
    λ s c e. made_modern _ c e (modern_twice_law
    (Component.WeekNumber (record { padding = s.padding; repr = s.week_number_repr })))
name_modern ComponentName.Year = λ s c e. made_modern _ c e
    (modern_twice_law (Component.Year
    (record {
      padding = s.padding;
      repr = s.year_repr;
      range = s.range;
      iso_week_based =
          s.iso_week_based;
      sign_is_mandatory = s.sign_is_mandatory;
    })))

rows_modern : Each IsModernRow rows
rows_modern = each-map row_for IsModernRow component_names name_modern

-- what holds of each row holds of the row that is found
pub row_has : (P : Row → Type 0) (strict : Bool) (name : Text) (rs : List Row) (r : Row)
    → Each P rs → named (λ x. x.name) strict name rs ≡ Some r → P r
row_has P strict name [] r all e = absurd cc
row_has P strict name (x ∷ rs) r all e =
    by (λ h. row_has P strict name rs r all.1 h) (same strict x.name name) e
  where
    by : (named (λ y. y.name) strict name rs ≡ Some r → P r) → (t : Bool)
        → elim t [ true ↦ Some x | false ↦ named (λ y. y.name) strict name rs ] ≡ Some r → P r
    by more true h = let is : x ≡ r = cc in subst P is all.0
    by more false h = more h

-- Brackets.

component_modern : (strict : Bool) (h : Head) (tree : Tree) (o : Option Row)
    → row_of strict h.name ≡ o → component_verdict strict h o ≡ Ok tree → IsModern tree
component_modern strict h tree None known e = absurd cc
component_modern strict h tree (Some r) known e =
    let leaf = made_ok strict h (r.component (settings strict r.keys (placed h))) tree
    (after_ok (bad_modifiers strict r.keys [] (placed h))
    (made strict h (r.component (settings strict r.keys (placed h)))) tree e) in
    subst IsModern leaf.1 (row_has IsModernRow strict h.name rows r rows_modern known
    (settings strict r.keys (placed h)) leaf.0 leaf.2)

pub pack_modern : (ts : List Tree) → AreModern (trees ts) → IsModern (pack ts)
pack_modern [] h = tt
pack_modern (t ∷ []) h = h.0
pack_modern (t ∷ u ∷ ts) h = h

abbrev PartsModern : List PlacedDescription → Type 0
PartsModern = Each (λ p. AreModern (trees p.trees))

packs_modern : (ps : List PlacedDescription) → PartsModern ps
    → AreModern (trees (map (λ p. pack p.trees) ps))
packs_modern [] h = tt
packs_modern (p ∷ ps) h = (pack_modern p.trees h.0, packs_modern ps h.1)

only_modern : (ps : List PlacedDescription) → PartsModern ps → IsModern (only ps)
only_modern [] h = tt
only_modern (p ∷ ps) h = pack_modern p.trees h.0

verdict_modern : (strict : Bool) (h : Head) (parts : List PlacedDescription) (close : ℕ)
    (tree : Tree) → PartsModern parts → verdict strict h parts close ≡ Ok tree → IsModern tree
verdict_modern strict h parts close tree modern e =
    verdict_has IsModern strict h parts close tree (only_modern parts modern)
    (packs_modern parts modern) (component_modern strict h tree (row_of strict h.name) refl) e

-- All pieces.

mutual
  pieces_modern : (ps : Pieces) (v : DescriptionVersion) (limit n : ℕ) → ArePieces v limit n ps
      → AreModern (trees (items ps))
  pieces_modern no_pieces v limit n are = tt
  pieces_modern (run bytes rest) v limit n are = (tt, pieces_modern rest v limit n are.2)
  pieces_modern (escape a b rest) v limit n are = (tt, pieces_modern rest v limit n are.1)
  pieces_modern (closing rest) v limit n are = (tt, pieces_modern rest v limit n are.2)
  pieces_modern (bracket h ns white tree rest) v limit n are = (
    verdict_modern (is_version_three v) h (parts_from (length (head_text h)) ns)
        (length (head_text h ++ nested_text ns ++ white)) tree
        (nested_modern ns (length (head_text h)) v limit n are.1) are.3,
    pieces_modern rest v limit n are.4,
  )

  nested_modern : (ns : Nested) (k : ℕ) (v : DescriptionVersion) (limit n : ℕ)
      → AreNested v limit n ns → PartsModern (parts_from k ns)
  nested_modern no_nested k v limit n are = tt
  nested_modern (nested white ps ns) k v limit n are = (
    pieces_modern ps v limit (suc n) are.2,
    nested_modern ns (k + length white + 1 + length (spelling ps) + 1) v limit n are.3,
  )

pub modernity_law : Modernity
modernity_law v limit n text list h =
    subst (λ x. AreModern (trees x)) (sym h.3) (pieces_modern h.0 v limit n h.1)

-- Strftime.

-- whether no component of a tree is deprecated
abbrev is_current : Component → Bool
is_current (Component.Month m) = false
is_current (Component.Weekday w) = false
is_current (Component.WeekNumber w) = false
is_current (Component.Hour h) = false
is_current (Component.UnixTimestamp t) = false
is_current (Component.Year y) = false
is_current c = true

abbrev mutual
  all_current : Tree → Bool
  all_current (component c) = is_current c
  all_current (literal bytes) = true
  all_current (compound ts) = each_current ts
  all_current (optional format t) = all_current t
  all_current (first ts) = each_current ts

  each_current : Trees → Bool
  each_current no_trees = true
  each_current (more_trees t ts) = all_current t && each_current ts

current_modern : (c : Component) → is_current c ≡ true → modern c ≡ c
current_modern (Component.Month m) e = absurd cc
current_modern (Component.Weekday w) e = absurd cc
current_modern (Component.WeekNumber w) e = absurd cc
current_modern (Component.Hour h) e = absurd cc
current_modern (Component.UnixTimestamp t) e = absurd cc
current_modern (Component.Year y) e = absurd cc
current_modern _ e = refl

mutual
  all_modern : (t : Tree) → all_current t ≡ true → IsModern t
  all_modern (component c) e = current_modern c e
  all_modern (literal bytes) e = tt
  all_modern (compound ts) e = each_modern ts e
  all_modern (optional format t) e = all_modern t e
  all_modern (first ts) e = each_modern ts e

  each_modern : (ts : Trees) → each_current ts ≡ true → AreModern ts
  each_modern no_trees e = tt
  each_modern (more_trees t ts) e =
      let p = and_parts (all_current t) (each_current ts) e in
      (all_modern t p.0, each_modern ts p.1)

letters_modern : (f : Flag) → Each (λ l. IsModern (l.item f)) letters
letters_modern f =
    each-passes (λ l. all_current (l.item f)) (λ l. IsModern (l.item f))
    (λ l e. all_modern (l.item f) e) letters refl

-- what holds of each letter's item holds of the item that is found
pub item_has : (P : Tree → Type 0) (ls : List Letter) (f : Flag) (b : ℕ) (tree : Tree)
    → Each (λ l. P (l.item f)) ls → item_in ls f b ≡ Some tree → P tree
item_has P [] f b tree all e = absurd cc
item_has P (l ∷ ls) f b tree all e =
    by (λ h. item_has P ls f b tree all.1 h) (is_one_of b l.letters) e
  where
    by : (item_in ls f b ≡ Some tree → P tree) → (t : Bool)
        → elim t [ true ↦ Some (l.item f) | false ↦ item_in ls f b ] ≡ Some tree → P tree
    by more true h = let is : l.item f ≡ tree = cc in subst P is all.0
    by more false h = more h

directives_modern : (ds : Directives) → AreDirectives ds → AreModern (trees (directive_items ds))
unfolding item_of
directives_modern no_directives are = tt
directives_modern (plain bytes rest) are = (tt, directives_modern rest are.2)
directives_modern (directive f b tree rest) are =
    (item_has IsModern letters f b tree (letters_modern f) are.2, directives_modern rest are.3)

pub strftime_modernity_law : StrftimeModernity
strftime_modernity_law text list h =
    subst (λ x. AreModern (trees x)) (sym h.3) (directives_modern h.0 h.1)
