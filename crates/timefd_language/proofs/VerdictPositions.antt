-- What holds of all indices in a bracket holds of the index of its fault.
use Rattle.std.proofs.Common.{ℕ, Bool, true, false, List, [], ◌∷◌, ◌++◌, Result, Ok, Err, Option, Some, None, not}
use Rattle.std.specs.Prelude.{codes, map, if◌then◌else◌, ⊤}
use Rattle.timefd_lang_component.specs.Tree.{Tree, optional, first, trees, pack}
use Rattle.timefd_lang_component.specs.declared.component.Component.{Component}
use Rattle.timefd_lang_fault.specs.Faults.{Kind, Fault, fault}
use Rattle.timefd_language.specs.Bytes.{same}
use Rattle.timefd_lang_fault.specs.Words.{expected_nested, expected_alternative, optional_item, first_item}
use Rattle.timefd_language.specs.Values.{Key, format}
use Rattle.timefd_language.specs.Names.{Row, row_of}
use Rattle.timefd_language.specs.Combinations.{Refusal, refusals}
use Rattle.timefd_language.specs.Head.{Head, Placed, placed, name_index}
use Rattle.timefd_language.specs.Verdict.{PlacedDescription, ◌or◌, refuse, unless, bad_value, bad_modifier, bad_modifiers, misplaced, combined, combination, made, after, component_verdict, touching, too_many, nested_refused, nested_wanted, any_modifier, is_formatted, only, optional_verdict, first_verdict, verdict}

-- if there is a fault, this holds of its index
abbrev pub Within : (ℕ → Type 0) → Option Fault → Type 0
Within P None = ⊤
Within P (Some f) = P f.index

abbrev pub WithinAnswer : (ℕ → Type 0) → Result Tree Fault → Type 0
WithinAnswer P (Ok t) = ⊤
WithinAnswer P (Err f) = P f.index

within_or : (P : ℕ → Type 0) (a b : Option Fault) → Within P a → Within P b → Within P (a or b)
within_or P None b ha hb = hb
within_or P (Some f) b ha hb = ha

within_refuse : (P : ℕ → Type 0) (c : Bool) (kind : Kind) (index : ℕ) → P index
    → Within P (refuse c kind index)
within_refuse P true kind index h = h
within_refuse P false kind index h = tt

within_unless : (P : ℕ → Type 0) (o : Option Fault) (t : Tree) → Within P o → WithinAnswer P (unless o t)
within_unless P None t h = tt
within_unless P (Some f) t h = h

within_after : (P : ℕ → Type 0) (o : Option Fault) (r : Result Tree Fault) → Within P o
    → WithinAnswer P r → WithinAnswer P (after o r)
within_after P None r ho hr = hr
within_after P (Some f) r ho hr = ho

-- Modifiers.

abbrev pub AllWithin : (ℕ → Type 0) → List Placed → Type 0
AllWithin P [] = ⊤
AllWithin P (m ∷ ms) = (P m.key_index) × (P m.value_index) × AllWithin P ms

within_value : (P : ℕ → Type 0) (strict : Bool) (key : Key) (m : Placed) → P m.value_index
    → Within P (bad_value strict key m)
within_value P strict key m h = within_refuse P _ _ m.value_index h

within_modifier : (P : ℕ → Type 0) (strict : Bool) (key : Option Key) (before : List Placed) (m : Placed)
    → P m.key_index → P m.value_index → Within P (bad_modifier strict key before m)
within_modifier P strict None before m hk hv = hk
within_modifier P strict (Some key) before m hk hv =
    within_or P _ _ (within_refuse P _ _ m.key_index hk) (within_value P strict key m hv)

within_modifiers : (P : ℕ → Type 0) (strict : Bool) (keys : List Key) (before ms : List Placed)
    → AllWithin P ms → Within P (bad_modifiers strict keys before ms)
within_modifiers P strict keys before [] h = tt
within_modifiers P strict keys before (m ∷ ms) h =
    within_or P _ _ (within_modifier P strict _ before m h.0 h.1)
    (within_modifiers P strict keys (before ++ m ∷ []) ms h.2)

within_misplaced : (P : ℕ → Type 0) (r : Refusal) (ms : List Placed) → AllWithin P ms
    → Within P (misplaced r ms)
within_misplaced P r [] h = tt
within_misplaced P r (m ∷ ms) h =
    within_or P _ _ (within_refuse P _ _ m.key_index h.0) (within_misplaced P r ms h.2)

within_combined : (P : ℕ → Type 0) (rs : List Refusal) (ms : List Placed) → AllWithin P ms
    → Within P (combined rs ms)
within_combined P [] ms h = tt
within_combined P (r ∷ rs) ms h =
    within_or P _ _ (within_misplaced P r ms h) (within_combined P rs ms h)

within_combination : (P : ℕ → Type 0) (strict : Bool) (c : Component) (ms : List Placed) → AllWithin P ms
    → Within P (combination strict c ms)
within_combination P true c ms h = within_combined P (refusals c) ms h
within_combination P false c ms h = tt

within_any : (P : ℕ → Type 0) (ms : List Placed) → AllWithin P ms → Within P (any_modifier ms)
within_any P [] h = tt
within_any P (m ∷ ms) h = h.0

-- Nested descriptions.

abbrev pub PartsWithin : (ℕ → Type 0) → List PlacedDescription → Type 0
PartsWithin P [] = ⊤
PartsWithin P (p ∷ ps) = (P p.index) × PartsWithin P ps

within_touching : (P : ℕ → Type 0) (ps : List PlacedDescription) → PartsWithin P ps
    → Within P (touching ps)
within_touching P [] h = tt
within_touching P (p ∷ ps) h = within_refuse P _ _ p.index h.0

within_many : (P : ℕ → Type 0) (ps : List PlacedDescription) → PartsWithin P ps → Within P (too_many ps)
within_many P [] h = tt
within_many P (p ∷ []) h = tt
within_many P (p ∷ q ∷ ps) h = h.0

within_refused : (P : ℕ → Type 0) → P 0 → (ps : List PlacedDescription) → Within P (nested_refused ps)
within_refused P nought [] = tt
within_refused P nought (p ∷ ps) = nought

within_wanted : (P : ℕ → Type 0) (kind : Kind) (ps : List PlacedDescription) (close : ℕ) → P close
    → Within P (nested_wanted kind ps close)
within_wanted P kind [] close h = h
within_wanted P kind (p ∷ ps) close h = tt

-- Verdicts.

within_made : (P : ℕ → Type 0) (strict : Bool) (h : Head) (r : Result Component Kind) → P (name_index h)
    → AllWithin P (placed h) → WithinAnswer P (made strict h r)
within_made P strict h (Err kind) name all = name
within_made P strict h (Ok c) name all =
    within_unless P _ _ (within_combination P strict c (placed h) all)

within_component : (P : ℕ → Type 0) (strict : Bool) (h : Head) (r : Option Row) → P (name_index h)
    → AllWithin P (placed h) → WithinAnswer P (component_verdict strict h r)
within_component P strict h None name all = name
within_component P strict h (Some row) name all =
    within_after P _ _ (within_modifiers P strict row.keys [] (placed h) all)
    (within_made P strict h _ name all)

within_optional : (P : ℕ → Type 0) → P 0 → (strict : Bool) (h : Head) (ps : List PlacedDescription) (close : ℕ)
    → AllWithin P (placed h) → PartsWithin P ps → P close
    → WithinAnswer P (optional_verdict strict h ps close)
within_optional P nought strict h ps close all parts closes =
    within_unless P
    (bad_modifiers strict (format ∷ []) [] (placed h) or too_many ps or nested_wanted
    expected_nested ps close or refuse (not strict) optional_item 0)
    (optional (is_formatted strict (placed h)) (only ps))
    (within_or P (bad_modifiers strict (format ∷ []) [] (placed h))
    (too_many ps or nested_wanted expected_nested ps close or refuse (not strict) optional_item 0)
    (within_modifiers P strict (format ∷ []) [] (placed h) all)
    (within_or P (too_many ps)
    (nested_wanted expected_nested ps close or refuse (not strict) optional_item 0)
    (within_many P ps parts)
    (within_or P (nested_wanted expected_nested ps close) (refuse (not strict) optional_item 0)
    (within_wanted P expected_nested ps close closes)
    (within_refuse P (not strict) optional_item 0 nought))))

within_first_part : (P : ℕ → Type 0) → P 0 → (strict : Bool) (ps : List PlacedDescription) (close : ℕ) → P close
    → Within P (if strict then nested_wanted expected_alternative ps close else Some
    (fault first_item 0))
within_first_part P nought true ps close h = within_wanted P _ ps close h
within_first_part P nought false ps close h = nought

within_first : (P : ℕ → Type 0) → P 0 → (strict : Bool) (h : Head) (ps : List PlacedDescription) (close : ℕ)
    → AllWithin P (placed h) → P close → WithinAnswer P (first_verdict strict h ps close)
within_first P nought strict h ps close all closes =
    within_unless P
    (any_modifier (placed h) or (if strict then nested_wanted expected_alternative ps close else
    Some (fault first_item 0)))
    (first (trees (map (λ p. pack p.trees) ps)))
    (within_or P (any_modifier (placed h))
    (if strict then nested_wanted expected_alternative ps close else Some (fault first_item 0))
    (within_any P (placed h) all) (within_first_part P nought strict ps close closes))

within_if : (P : ℕ → Type 0) (c : Bool) (a b : Result Tree Fault) → WithinAnswer P a → WithinAnswer P b
    → WithinAnswer P (if c then a else b)
within_if P true a b ha hb = ha
within_if P false a b ha hb = hb

pub within_verdict : (P : ℕ → Type 0) → P 0 → (strict : Bool) (h : Head) (ps : List PlacedDescription) (close : ℕ)
    → P (name_index h) → AllWithin P (placed h) → PartsWithin P ps → P close
    → WithinAnswer P (verdict strict h ps close)
within_verdict P nought strict h ps close name all parts closes =
    within_after P (touching ps)
    (if same strict (codes "optional") h.name then optional_verdict strict h ps close
    else if same strict (codes "first") h.name then first_verdict strict h ps close
    else after (nested_refused ps) (component_verdict strict h (row_of strict h.name)))
    (within_touching P ps parts)
    (within_if P (same strict (codes "optional") h.name) (optional_verdict strict h ps close)
    (if same strict (codes "first") h.name then first_verdict strict h ps close
    else after (nested_refused ps) (component_verdict strict h (row_of strict h.name)))
    (within_optional P nought strict h ps close all parts closes)
    (within_if P (same strict (codes "first") h.name) (first_verdict strict h ps close)
    (after (nested_refused ps) (component_verdict strict h (row_of strict h.name)))
    (within_first P nought strict h ps close all closes)
    (within_after P (nested_refused ps) (component_verdict strict h (row_of strict h.name))
    (within_refused P nought ps) (within_component P strict h (row_of strict h.name) name all))))
