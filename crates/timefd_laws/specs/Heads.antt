-- What the laws say about a closed bracket: its name, its modifiers, its nested descriptions.
use Rattle.std.specs.Prelude.{ℕ, ◌≡◌, ◌+◌, Bool, false, ◌&&◌, ◌||◌, List, [], ◌∷◌, ◌++◌, length, Option, Some, Err, is_some, IsTrue, IsFalse, ⊤}
use Rattle.timefd_lang_component.specs.Tree.{Text}
use Rattle.timefd_lang_fault.specs.Faults.{Kind, fault}
use Rattle.timefd_language.specs.declared.description_version.DescriptionVersion.{DescriptionVersion}
use Rattle.timefd_lang_fault.specs.declared.name.Name.{Name}
use Rattle.timefd_language.specs.Bytes.{is_version_three, same}
use Rattle.timefd_language.specs.Head.{Head, Modifier, modifiers_text, name_index}
use Rattle.timefd_language.specs.Values.{Key, key_in, setting_in}
use Rattle.timefd_language.specs.Lookup.{IsNameOf, keys_for}
use Rattle.timefd_language.specs.Grammar.{Nested, no_nested, nested, is_empty, bracket_verdict}

-- A bracket of the head, the nested descriptions, the white bytes and `]` has this fault, at an index
-- counted from its `[`.
abbrev pub IsRefused : DescriptionVersion → Head → Nested → Text → Kind → ℕ → Type 0
IsRefused v h ns white kind index = bracket_verdict v h ns white ≡ Err (fault kind index)

-- The bracket has this name. `None`: its name is unknown.
abbrev pub IsNamed : DescriptionVersion → Head → Option Name → Type 0
IsNamed v h name = IsNameOf (is_version_three v) h.name name

-- White bytes come before the first nested description, if there is one.
abbrev pub IsSpaced : Nested → Type 0
IsSpaced no_nested = ⊤
IsSpaced (nested white ps ns) = IsFalse (is_empty white)

-- The rules that are checked before the modifiers hold: a component nests nothing, and anything else has
-- white bytes before its first nested description.
abbrev pub MayNest : Name → Nested → Type 0
MayNest Name.Optional ns = IsSpaced ns
MayNest Name.First ns = IsSpaced ns
MayNest (Name.Component n) ns = ns ≡ no_nested

-- Modifiers.

-- one of the modifiers has the key
abbrev pub has_key : Bool → Text → List Modifier → Bool
has_key strict key [] = false
has_key strict key (m ∷ ms) = same strict key m.key || has_key strict key ms

-- the index of the key of a modifier that follows others
abbrev pub key_index : Head → List Modifier → Modifier → ℕ
key_index h before m = name_index h + length h.name + length (modifiers_text before)
    + length m.white

-- the index of the value of a modifier that follows others
abbrev pub value_index : Head → List Modifier → Modifier → ℕ
value_index h before m = key_index h before m + length m.key + 1

-- the key that a modifier sets, if the name has it
abbrev pub key_named : DescriptionVersion → Name → Modifier → Option Key
key_named v name m = key_in (is_version_three v) m.key (keys_for name)

-- A modifier is good after these others: the name has its key, the key isn't repeated in version 3, and
-- the key can be set to its value.
pub record IsGood (v : DescriptionVersion) (name : Name) (before : List Modifier) (m : Modifier) : Type 0 where
  pub key : Key
  pub known : key_named v name m ≡ Some key
  pub first_time : IsFalse (is_version_three v && has_key (is_version_three v) key.key before)
  pub value : IsTrue (is_some (setting_in (is_version_three v) key.values m.value))

abbrev pub AreGoodAfter : DescriptionVersion → Name → List Modifier → List Modifier → Type 0
AreGoodAfter v name before [] = ⊤
AreGoodAfter v name before (m ∷ ms) = IsGood v name before m
    × AreGoodAfter v name (before ++ m ∷ []) ms

abbrev pub AreGood : DescriptionVersion → Name → List Modifier → Type 0
AreGood v name ms = AreGoodAfter v name [] ms

-- The modifiers of a bracket before this one are good, and the rules before them hold.
pub record IsReached (v : DescriptionVersion) (h : Head) (ns : Nested) (name : Name)
    (before : List Modifier) (m : Modifier) : Type 0 where
  pub named : IsNamed v h (Some name)
  pub nests : MayNest name ns
  pub rest : List Modifier
  pub modifiers : h.modifiers ≡ before ++ m ∷ rest
  pub good : AreGood v name before
