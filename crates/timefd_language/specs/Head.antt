-- The head of a bracket: `[`, white bytes, a name, modifiers.
use Rattle.std.specs.Prelude.{ℕ, ◌+◌, List, [], ◌∷◌, ◌++◌, length, ⊤}
use Rattle.timefd_lang_component.specs.Tree.{Text}
use Rattle.timefd_language.specs.Bytes.{left, colon, is_white, is_word_byte, is_key_byte, ZeroOrMore, OneOrMore}

pub record Modifier : Type 0 where
  pub white : Text
  pub key : Text
  pub value : Text

pub record Head : Type 0 where
  pub white : Text
  pub name : Text
  pub modifiers : List Modifier

pub record IsModifier (m : Modifier) : Type 0 where
  pub white : OneOrMore is_white m.white
  pub key : OneOrMore is_key_byte m.key
  pub value : OneOrMore is_word_byte m.value

abbrev pub AreModifiers : List Modifier → Type 0
AreModifiers [] = ⊤
AreModifiers (m ∷ ms) = IsModifier m × AreModifiers ms

pub record IsHead (h : Head) : Type 0 where
  pub white : ZeroOrMore is_white h.white
  pub name : OneOrMore is_word_byte h.name
  pub modifiers : AreModifiers h.modifiers

abbrev pub modifier_text : Modifier → Text
modifier_text m = m.white ++ m.key ++ colon ∷ m.value

abbrev pub modifiers_text : List Modifier → Text
modifiers_text [] = []
modifiers_text (m ∷ ms) = modifier_text m ++ modifiers_text ms

abbrev pub head_text : Head → Text
head_text h = left ∷ h.white ++ h.name ++ modifiers_text h.modifiers

-- the index of the name, counted from the bracket's `[`
abbrev pub name_index : Head → ℕ
name_index h = 1 + length h.white

-- a modifier with the indices of its key and its value
pub record Placed : Type 0 where
  pub key : Text
  pub key_index : ℕ
  pub value : Text
  pub value_index : ℕ

abbrev pub placed_at : ℕ → Modifier → Placed
placed_at k m = record {
  key = m.key;
  key_index = k + length m.white;
  value = m.value;
  value_index = k + length m.white + length m.key + 1;
}

-- the modifiers, the first of them at byte k
abbrev pub placed_from : ℕ → List Modifier → List Placed
placed_from k [] = []
placed_from k (m ∷ ms) = placed_at k m ∷ placed_from (k + length (modifier_text m)) ms

abbrev pub placed : Head → List Placed
placed h = placed_from (name_index h + length h.name) h.modifiers
