-- The verdict on a bracket whose modifiers before one are good.
use Rattle.std.proofs.Common.{ℕ, ◌≡◌, ◌+◌, Bool, true, false, not, ◌&&◌, ◌||◌, codes, if◌then◌else◌, List, [], ◌∷◌, ◌++◌, length, length-append, append_assoc, append-nil, map, Option, Some, None, is_some, Result, Err, refl, sym, ap, ◌∙◌, arith}
use Rattle.timefd_lang_component.specs.Tree.{Text, Tree, optional, first, trees, pack}
use Rattle.timefd_lang_fault.specs.Faults.{Fault, fault, invalid_modifier, duplicate_modifier}
use Rattle.timefd_language.specs.declared.description_version.DescriptionVersion.{DescriptionVersion}
use Rattle.timefd_lang_fault.specs.declared.name.Name.{Name}
use Rattle.timefd_language.specs.Bytes.{same, is_version_three}
use Rattle.timefd_lang_fault.specs.Words.{expected_white, expected_nested, expected_alternative, optional_item, first_item}
use Rattle.timefd_language.specs.Head.{Head, Modifier, Placed, placed_at, placed_from, placed, modifier_text, modifiers_text, name_index, head_text}
use Rattle.timefd_language.specs.Values.{Key, setting_in}
use Rattle.timefd_language.specs.Names.{row_for, row_of}
use Rattle.timefd_language.specs.Lookup.{keys_for}
use Rattle.timefd_language.specs.Verdict.{PlacedDescription, ◌or◌, refuse, unless, after, is_set, bad_value, bad_modifier, bad_modifiers, made, settings, component_verdict, touching, too_many, nested_refused, nested_wanted, is_formatted, only, optional_verdict, first_verdict, verdict}
use Rattle.timefd_language.specs.Grammar.{Nested, no_nested, nested, nested_text, parts_from, bracket_verdict}
use Rattle.timefd_language.proofs.Recase.{none_after}
use Rattle.timefd_parse.proofs.VerdictLemmas.{any_is_bad}
use Rattle.timefd_laws.specs.Heads.{IsNamed, IsSpaced, MayNest, AreGoodAfter, AreGood, IsReached, has_key, key_named}

-- Choices.

pub if_true : (b : Bool) (x y : Result Tree Fault) → b ≡ true → (if b then x else y) ≡ x
if_true b x y e = ap (λ c. if c then x else y) e

pub if_false : (b : Bool) (x y : Result Tree Fault) → b ≡ false → (if b then x else y) ≡ y
if_false b x y e = ap (λ c. if c then x else y) e

pub or_none : (o r : Option Fault) → o ≡ None → (o or r) ≡ r
or_none o r e = ap (λ x. x or r) e

-- By the name.

abbrev ordinary : Bool → Head → List PlacedDescription → Result Tree Fault
ordinary strict h parts =
    after (nested_refused parts) (component_verdict strict h (row_of strict h.name))

abbrev unless_first : Bool → Head → List PlacedDescription → ℕ → Result Tree Fault
unless_first strict h parts close =
    if same strict (codes "first") h.name then first_verdict strict h parts close
    else ordinary strict h parts

abbrev by_name : Bool → Head → List PlacedDescription → ℕ → Result Tree Fault
by_name strict h parts close =
    if same strict (codes "optional") h.name then optional_verdict strict h parts close
    else unless_first strict h parts close

pub is_optional : (strict : Bool) (h : Head) (parts : List PlacedDescription) (close : ℕ)
    → touching parts ≡ None → same strict (codes "optional") h.name ≡ true
    → verdict strict h parts close ≡ optional_verdict strict h parts close
is_optional strict h parts close white o =
    none_after (touching parts) (by_name strict h parts close) white
    ∙ if_true (same strict (codes "optional") h.name) (optional_verdict strict h parts close)
    (unless_first strict h parts close) o

pub is_first : (strict : Bool) (h : Head) (parts : List PlacedDescription) (close : ℕ)
    → touching parts ≡ None → same strict (codes "optional") h.name ≡ false
    → same strict (codes "first") h.name ≡ true
    → verdict strict h parts close ≡ first_verdict strict h parts close
is_first strict h parts close white o f =
    none_after (touching parts) (by_name strict h parts close) white
    ∙ if_false (same strict (codes "optional") h.name) (optional_verdict strict h parts close)
    (unless_first strict h parts close) o
    ∙ if_true (same strict (codes "first") h.name) (first_verdict strict h parts close)
    (ordinary strict h parts) f

pub is_ordinary : (strict : Bool) (h : Head) (parts : List PlacedDescription) (close : ℕ)
    → touching parts ≡ None → same strict (codes "optional") h.name ≡ false
    → same strict (codes "first") h.name ≡ false
    → verdict strict h parts close ≡ ordinary strict h parts
is_ordinary strict h parts close white o f =
    none_after (touching parts) (by_name strict h parts close) white
    ∙ if_false (same strict (codes "optional") h.name) (optional_verdict strict h parts close)
    (unless_first strict h parts close) o
    ∙ if_false (same strict (codes "first") h.name) (first_verdict strict h parts close)
    (ordinary strict h parts) f

pub is_spaced : (k : ℕ) (ns : Nested) → IsSpaced ns → touching (parts_from k ns) ≡ None
is_spaced k no_nested s = refl
is_spaced k (nested white ps ns) s =
    ap (λ b. refuse (not (not b)) expected_white (k + length white)) s

-- Bad modifiers.

-- The fault of the modifiers is reported, before nested descriptions are counted.
pub bad_reported : (v : DescriptionVersion) (h : Head) (ns : Nested) (white : Text) (name : Name)
    (f : Fault) → IsNamed v h (Some name) → MayNest name ns
    → bad_modifiers (is_version_three v) (keys_for name) [] (placed h) ≡ Some f
    → bracket_verdict v h ns white ≡ Err f
bad_reported v h ns white Name.Optional f named nests bad =
    let strict : Bool = is_version_three v in
    let k : ℕ = length (head_text h) in
    let close : ℕ = length (head_text h ++ nested_text ns ++ white) in
    let parts : List PlacedDescription = parts_from k ns in
    is_optional strict h parts close (is_spaced k ns nests) named
    ∙ ap (λ x. unless (x or too_many parts or nested_wanted expected_nested parts close
    or refuse (not strict) optional_item 0) (optional (is_formatted strict (placed h)) (only parts)))
    bad
bad_reported v h ns white Name.First f named nests bad =
    let strict : Bool = is_version_three v in
    let k : ℕ = length (head_text h) in
    let close : ℕ = length (head_text h ++ nested_text ns ++ white) in
    let parts : List PlacedDescription = parts_from k ns in
    is_first strict h parts close (is_spaced k ns nests) named.0 named.1
    ∙ ap (λ x. unless (x or (if strict then nested_wanted expected_alternative parts close
    else Some (fault first_item 0))) (first (trees (map (λ p. pack p.trees) parts))))
    (any_is_bad strict (placed h) ∙ bad)
bad_reported v h ns white (Name.Component n) f named nests bad =
    let strict : Bool = is_version_three v in
    ap (λ x. bracket_verdict v h x white) nests
    ∙ is_ordinary strict h [] (length (head_text h ++ nested_text no_nested ++ white)) refl named.0
    named.1
    ∙ ap (component_verdict strict h) named.2
    ∙ ap (λ x. after x (made strict h
    ((row_for n).component (settings strict (row_for n).keys (placed h))))) bad

-- Good modifiers.

or_assoc : (a b c : Bool) → (a || (b || c)) ≡ ((a || b) || c)
or_assoc true b c = refl
or_assoc false b c = refl

is_set-append : (strict : Bool) (key : Text) (a b : List Placed)
    → is_set strict key (a ++ b) ≡ (is_set strict key a || is_set strict key b)
is_set-append strict key [] b = refl
is_set-append strict key (p ∷ a) b =
    ap (λ x. same strict key p.key || x) (is_set-append strict key a b)
    ∙ or_assoc (same strict key p.key) (is_set strict key a) (is_set strict key b)

has_key-append : (strict : Bool) (key : Text) (a b : List Modifier)
    → has_key strict key (a ++ b) ≡ (has_key strict key a || has_key strict key b)
has_key-append strict key [] b = refl
has_key-append strict key (m ∷ a) b =
    ap (λ x. same strict key m.key || x) (has_key-append strict key a b)
    ∙ or_assoc (same strict key m.key) (has_key strict key a) (has_key strict key b)

-- both have the same keys
abbrev pub SameKeys : Bool → List Placed → List Modifier → Type 0
SameKeys strict ps ms = (key : Text) → is_set strict key ps ≡ has_key strict key ms

one_more : (strict : Bool) (k : ℕ) (ps : List Placed) (ms : List Modifier) (m : Modifier)
    → SameKeys strict ps ms → SameKeys strict (ps ++ placed_at k m ∷ []) (ms ++ m ∷ [])
one_more strict k ps ms m agree key =
    is_set-append strict key ps (placed_at k m ∷ [])
    ∙ ap (λ x. x || (same strict key m.key || false)) (agree key)
    ∙ sym (has_key-append strict key ms (m ∷ []))

modifier_good : (strict : Bool) (found : Option Key) (k : Key) (ps : List Placed) (m : Placed)
    → found ≡ Some k → (strict && is_set strict k.key ps) ≡ false
    → is_some (setting_in strict k.values m.value) ≡ true
    → bad_modifier strict found ps m ≡ None
modifier_good strict found k ps m e fresh known =
    ap (λ o. bad_modifier strict o ps m) e
    ∙ ap (λ b. refuse b (duplicate_modifier k.key) m.key_index or bad_value strict k m) fresh
    ∙ ap (λ b. refuse (not b) (invalid_modifier m.value) m.value_index) known

-- the check goes on with the rest after good modifiers, and the keys before the rest are the same
pub record Skipped (v : DescriptionVersion) (name : Name) (ps : List Placed)
    (before good : List Modifier) (all rest : List Placed) : Type 0 where
  pub after : List Placed
  pub bad : bad_modifiers (is_version_three v) (keys_for name) ps all
      ≡ bad_modifiers (is_version_three v) (keys_for name) after rest
  pub keys : SameKeys (is_version_three v) after (before ++ good)

pub skipped : (v : DescriptionVersion) (name : Name) (k : ℕ) (ps : List Placed)
    (before good : List Modifier) (rest : List Placed) → SameKeys (is_version_three v) ps before
    → AreGoodAfter v name before good
    → Skipped v name ps before good (placed_from k good ++ rest) rest
skipped v name k ps before [] rest agree good = record {
  after = ps;
  bad = refl;
  keys = λ key. agree key ∙ ap (has_key (is_version_three v) key) (sym (append-nil before));
}
skipped v name k ps before (g ∷ gs) rest agree good =
    let strict : Bool = is_version_three v in
    let next = skipped v name (k + length (modifier_text g)) (ps ++ placed_at k g ∷ [])
    (before ++ g ∷ []) gs rest (one_more strict k ps before g agree) good.1 in
    record {
      after = next.after;
      bad = or_none (bad_modifier strict (key_named v name g) ps (placed_at k g))
          (bad_modifiers strict (keys_for name) (ps ++ placed_at k g ∷ [])
          (placed_from (k + length (modifier_text g)) gs ++ rest))
          (modifier_good strict (key_named v name g) good.0.key ps (placed_at k g) good.0.known
          (ap (λ b. strict && b) (agree good.0.key.key) ∙ good.0.first_time) good.0.value)
          ∙ next.bad;
      keys = λ key. next.keys key ∙ ap (has_key strict key) (append_assoc before (g ∷ []) gs);
    }

pub placed_from-append : (k : ℕ) (a b : List Modifier)
    → placed_from k (a ++ b) ≡ placed_from k a ++ placed_from (k + length (modifiers_text a)) b
placed_from-append k [] b = ap (λ j. placed_from j b) (omega arith)
placed_from-append k (m ∷ a) b =
    ap (λ ps. placed_at k m ∷ ps)
    (placed_from-append (k + length (modifier_text m)) a b
    ∙ ap (λ j. placed_from (k + length (modifier_text m)) a ++ placed_from j b)
    (omega (arith, length-append (modifier_text m) (modifiers_text a))))

-- All modifiers are good.
pub all_good : (v : DescriptionVersion) (name : Name) (h : Head) → AreGood v name h.modifiers
    → bad_modifiers (is_version_three v) (keys_for name) [] (placed h) ≡ None
all_good v name h good =
    ap (bad_modifiers (is_version_three v) (keys_for name) []) (sym (append-nil (placed h)))
    ∙ (skipped v name (name_index h + length h.name) [] [] h.modifiers [] (λ key. refl) good).bad

-- The modifiers before one are good.
pub reached : (v : DescriptionVersion) (h : Head) (ns : Nested) (name : Name)
    (before : List Modifier) (m : Modifier) (is : IsReached v h ns name before m)
    → Skipped v name [] [] before (placed h)
    (placed_at (name_index h + length h.name + length (modifiers_text before)) m
    ∷ placed_from (name_index h + length h.name + length (modifiers_text before)
    + length (modifier_text m)) is.rest)
reached v h ns name before m is =
    let k : ℕ = name_index h + length h.name in
    let j : ℕ = k + length (modifiers_text before) in
    let s = skipped v name k [] [] before
    (placed_at j m ∷ placed_from (j + length (modifier_text m)) is.rest) (λ key. refl) is.good in
    record {
      after = s.after;
      bad = ap (λ ms. bad_modifiers (is_version_three v) (keys_for name) [] (placed_from k ms))
          is.modifiers
          ∙ ap (bad_modifiers (is_version_three v) (keys_for name) [])
          (placed_from-append k before (m ∷ is.rest))
          ∙ s.bad;
      keys = s.keys;
    }
