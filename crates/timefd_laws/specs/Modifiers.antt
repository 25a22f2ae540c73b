-- Rules about modifiers: the first bad one decides.
use Rattle.std.specs.Prelude.{◌≡◌, true, false, ◌&&◌, codes, List, [], ◌∷◌, ◌++◌, Some, None, is_some, Ok, IsTrue, IsFalse}
use Rattle.timefd_lang_component.specs.Tree.{Text, component}
use Rattle.timefd_lang_component.specs.declared.component.Component.{Component}
use Rattle.timefd_lang_fault.specs.Faults.{invalid_modifier, missing_modifier, duplicate_modifier, invalid_combination}
use Rattle.timefd_language.specs.declared.description_version.DescriptionVersion.{DescriptionVersion}
use Rattle.timefd_language.specs.declared.description_version.DescriptionVersion.TheVariants.{Three}
use Rattle.timefd_lang_fault.specs.declared.name.ComponentName.{ComponentName}
use Rattle.timefd_lang_fault.specs.declared.name.Name.{Name}
use Rattle.timefd_language.specs.Bytes.{is_version_three}
use Rattle.timefd_language.specs.Combinations.{Refusal, refusals}
use Rattle.timefd_language.specs.Head.{Head, Modifier, Placed, placed, name_index}
use Rattle.timefd_language.specs.Values.{Key, key_in, setting_in}
use Rattle.timefd_language.specs.Names.{row_for}
use Rattle.timefd_language.specs.Lookup.{keys_for}
use Rattle.timefd_language.specs.Verdict.{settings}
use Rattle.timefd_language.specs.Grammar.{Nested, no_nested, bracket_verdict}
use Rattle.timefd_laws.specs.Heads.{IsRefused, IsNamed, IsReached, AreGood, key_named, key_index, value_index, has_key}

-- A key that the name doesn't have is reported, whatever its value is. `first` has no keys.
abbrev pub UnknownKey : Type 0
UnknownKey = (v : DescriptionVersion) (h : Head) (ns : Nested) (white : Text) (name : Name)
    (before : List Modifier) (m : Modifier) → IsReached v h ns name before m
    → key_named v name m ≡ None
    → IsRefused v h ns white (invalid_modifier m.key) (key_index h before m)

-- In version 3 a repeated key is reported, whatever its value is.
abbrev pub RepeatedKey : Type 0
RepeatedKey = (h : Head) (ns : Nested) (white : Text) (name : Name) (before : List Modifier)
    (m : Modifier) (k : Key) → IsReached Three h ns name before m
    → key_named Three name m ≡ Some k → IsTrue (has_key true k.key before)
    → IsRefused Three h ns white (duplicate_modifier k.key) (key_index h before m)

-- A value that the key can't be set to is reported.
abbrev pub BadValue : Type 0
BadValue = (v : DescriptionVersion) (h : Head) (ns : Nested) (white : Text) (name : Name)
    (before : List Modifier) (m : Modifier) (k : Key) → IsReached v h ns name before m
    → key_named v name m ≡ Some k
    → IsFalse (is_version_three v && has_key (is_version_three v) k.key before)
    → setting_in (is_version_three v) k.values m.value ≡ None
    → IsRefused v h ns white (invalid_modifier m.value) (value_index h before m)

-- `ignore` without a modifier lacks its `count`, which is reported at the name.
abbrev pub MissingCount : Type 0
MissingCount = (v : DescriptionVersion) (h : Head) (white : Text)
    → IsNamed v h (Some (Name.Component ComponentName.Ignore)) → h.modifiers ≡ []
    → IsRefused v h no_nested white (missing_modifier (codes "count")) (name_index h)

-- the component that a head of good modifiers sets
abbrev pub Sets : DescriptionVersion → ComponentName → Head → Component → Type 0
Sets v n h c = AreGood v (Name.Component n) h.modifiers
    × ((row_for n).component (settings (is_version_three v) (row_for n).keys (placed h)) ≡ Ok c)

-- none of the modifiers has one of these refused keys
abbrev pub NoneRefused : List Refusal → List Modifier → Type 0
NoneRefused [] ms = Unit {0}
NoneRefused (r ∷ rs) ms = IsFalse (has_key true r.key ms) × NoneRefused rs ms

-- In version 3 a key that the component has no use for is reported at the key.
abbrev pub UselessKey : Type 0
UselessKey = (h : Head) (white : Text) (n : ComponentName) (c : Component) (r : Refusal)
    (earlier later : List Refusal) (before rest : List Modifier) (m : Modifier)
    → IsNamed Three h (Some (Name.Component n)) → Sets Three n h c
    → refusals c ≡ earlier ++ r ∷ later → NoneRefused earlier h.modifiers
    → h.modifiers ≡ before ++ m ∷ rest → IsFalse (has_key true r.key before) → r.key ≡ m.key
    → IsRefused Three h no_nested white (invalid_combination r.key r.context)
    (key_index h before m)

-- If no rule is broken, a component is what its modifiers set. Versions 1 and 2 accept keys that the
-- component has no use for.
abbrev pub GoodComponent : Type 0
GoodComponent = (v : DescriptionVersion) (h : Head) (white : Text) (n : ComponentName)
    (c : Component) → IsNamed v h (Some (Name.Component n)) → Sets v n h c
    → (IsTrue (is_version_three v) → NoneRefused (refusals c) h.modifiers)
    → bracket_verdict v h no_nested white ≡ Ok (component c)

-- In versions 1 and 2 a modifier makes no difference if its key is set again after it, to a good value.
abbrev pub LastCounts : Type 0
LastCounts = (name : Name) (before between rest : List Placed) (m last : Placed) (k : Key)
    → key_in false m.key (keys_for name) ≡ Some k → key_in false last.key (keys_for name) ≡ Some k
    → IsTrue (is_some (setting_in false k.values last.value))
    → settings false (keys_for name) (before ++ m ∷ (between ++ last ∷ rest))
    ≡ settings false (keys_for name) (before ++ (between ++ last ∷ rest))
