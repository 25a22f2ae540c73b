-- What a closed bracket means: a tree, or the fault of the first rule that it breaks.
use Rattle.std.specs.Prelude.{ℕ, Bool, true, false, not, ◌&&◌, ◌||◌, codes, List, [], ◌∷◌, ◌++◌, map, Option, Some, None, is_some, Result, Ok, Err, if◌then◌else◌}
use Rattle.timefd_lang_component.specs.Tree.{Text, Tree, component, optional, first, trees, pack}
use Rattle.timefd_lang_fault.specs.Faults.{Kind, Fault, fault, invalid_name, invalid_modifier, duplicate_modifier, invalid_combination}
use Rattle.timefd_lang_component.specs.declared.component.Component.{Component}
use Rattle.timefd_language.specs.Bytes.{same, equal}
use Rattle.timefd_lang_fault.specs.Words.{expected_white, expected_nested, expected_alternative, many_nested, optional_item, first_item, nested_here}
use Rattle.timefd_language.specs.declared.setting.Setting.{Setting}
use Rattle.timefd_language.specs.declared.setting.Settings.{Settings}
use Rattle.timefd_language.specs.Settings.{defaults, with}
use Rattle.timefd_language.specs.Values.{Key, format, key_in, setting_in}
use Rattle.timefd_language.specs.Names.{Row, row_of}
use Rattle.timefd_language.specs.Combinations.{Refusal, refusals}
use Rattle.timefd_language.specs.Head.{Head, Placed, placed, name_index}

-- a nested description: whether white bytes come before it, the index of its `[`, and its trees
pub record PlacedDescription : Type 0 where
  pub spaced : Bool
  pub index : ℕ
  pub trees : List Tree

-- the first fault of two rules
infixr 20 ◌or◌
abbrev pub ◌or◌ : Option Fault → Option Fault → Option Fault
(Some f) or g = Some f
None or g = g

abbrev pub refuse : Bool → Kind → ℕ → Option Fault
refuse true kind index = Some (fault kind index)
refuse false kind index = None

abbrev pub unless : Option Fault → Tree → Result Tree Fault
unless (Some f) t = Err f
unless None t = Ok t

-- Modifiers.

-- some modifier of the list has this key
abbrev pub is_set : Bool → Text → List Placed → Bool
is_set strict key [] = false
is_set strict key (m ∷ ms) = same strict key m.key || is_set strict key ms

abbrev pub bad_value : Bool → Key → Placed → Option Fault
bad_value strict k m = refuse (not (is_some (setting_in strict k.values m.value)))
    (invalid_modifier m.value) m.value_index

abbrev pub bad_modifier : Bool → Option Key → List Placed → Placed → Option Fault
bad_modifier strict None before m = Some (fault (invalid_modifier m.key) m.key_index)
bad_modifier strict (Some k) before m =
    refuse (strict && is_set strict k.key before) (duplicate_modifier k.key) m.key_index or
    bad_value strict k m

-- the fault of the first bad modifier of a list, where other modifiers come before the list
abbrev pub bad_modifiers : Bool → List Key → List Placed → List Placed → Option Fault
bad_modifiers strict keys before [] = None
bad_modifiers strict keys before (m ∷ ms) =
    bad_modifier strict (key_in strict m.key keys) before m or bad_modifiers strict keys
    (before ++ m ∷ []) ms

-- what a text sets a key to, if there is such a key
abbrev pub setting_of : Bool → Option Key → Text → Option Setting
setting_of strict None text = None
setting_of strict (Some k) text = setting_in strict k.values text

abbrev pub with_option : Settings → Option Setting → Settings
with_option s None = s
with_option s (Some v) = with s v

-- the modifiers set their keys in order, so that the last one of a key counts
abbrev pub settings_from : Bool → List Key → Settings → List Placed → Settings
settings_from strict keys s [] = s
settings_from strict keys s (m ∷ ms) =
    settings_from strict keys (with_option s (setting_of strict (key_in strict m.key keys) m.value))
    ms

abbrev pub settings : Bool → List Key → List Placed → Settings
settings strict keys ms = settings_from strict keys (defaults strict) ms

-- Components.

-- the fault at the first modifier with the refused key
abbrev pub misplaced : Refusal → List Placed → Option Fault
misplaced r [] = None
misplaced r (m ∷ ms) = refuse (equal r.key m.key) (invalid_combination r.key r.context) m.key_index
    or misplaced r ms

abbrev pub combined : List Refusal → List Placed → Option Fault
combined [] ms = None
combined (r ∷ rs) ms = misplaced r ms or combined rs ms

-- only version 3 refuses combinations
abbrev pub combination : Bool → Component → List Placed → Option Fault
combination strict c ms = if strict then combined (refusals c) ms else None

-- a component, or the fault that says why there is none
abbrev pub made : Bool → Head → Result Component Kind → Result Tree Fault
made strict h (Err kind) = Err (fault kind (name_index h))
made strict h (Ok c) = unless (combination strict c (placed h)) (component c)

abbrev pub after : Option Fault → Result Tree Fault → Result Tree Fault
after (Some f) r = Err f
after None r = r

abbrev pub component_verdict : Bool → Head → Option Row → Result Tree Fault
component_verdict strict h None = Err (fault (invalid_name h.name) (name_index h))
component_verdict strict h (Some row) =
    after (bad_modifiers strict row.keys [] (placed h))
    (made strict h (row.component (settings strict row.keys (placed h))))

-- The rules.

abbrev pub touching : List PlacedDescription → Option Fault
touching [] = None
touching (p ∷ ps) = refuse (not p.spaced) expected_white p.index

abbrev pub too_many : List PlacedDescription → Option Fault
too_many [] = None
too_many (p ∷ []) = None
too_many (p ∷ q ∷ ps) = Some (fault many_nested p.index)

abbrev pub nested_refused : List PlacedDescription → Option Fault
nested_refused [] = None
nested_refused (p ∷ ps) = Some (fault nested_here 0)

abbrev pub nested_wanted : Kind → List PlacedDescription → ℕ → Option Fault
nested_wanted kind [] close = Some (fault kind close)
nested_wanted kind (p ∷ ps) close = None

abbrev pub any_modifier : List Placed → Option Fault
any_modifier [] = None
any_modifier (m ∷ ms) = Some (fault (invalid_modifier m.key) m.key_index)

abbrev pub is_formatted : Bool → List Placed → Bool
is_formatted strict ms = (settings strict (format ∷ []) ms).format

-- the tree of the only nested description
abbrev pub only : List PlacedDescription → Tree
only [] = pack []
only (p ∷ ps) = pack p.trees

abbrev pub optional_verdict : Bool → Head → List PlacedDescription → ℕ → Result Tree Fault
optional_verdict strict h parts close =
    unless
    (bad_modifiers strict (format ∷ []) [] (placed h)
    or too_many parts
    or nested_wanted expected_nested parts close
    or refuse (not strict) optional_item 0)
    (optional (is_formatted strict (placed h)) (only parts))

abbrev pub first_verdict : Bool → Head → List PlacedDescription → ℕ → Result Tree Fault
first_verdict strict h parts close =
    unless
    (any_modifier (placed h)
    or (if strict then nested_wanted expected_alternative parts close else Some
    (fault first_item 0)))
    (first (trees (map (λ p. pack p.trees) parts)))

-- the verdict on a bracket that begins at 0 and whose `]` is at `close`
abbrev pub verdict : Bool → Head → List PlacedDescription → ℕ → Result Tree Fault
verdict strict h parts close =
    after (touching parts)
    (if same strict (codes "optional") h.name then optional_verdict strict h parts close
    else if same strict (codes "first") h.name then first_verdict strict h parts close
    else after (nested_refused parts) (component_verdict strict h (row_of strict h.name)))
