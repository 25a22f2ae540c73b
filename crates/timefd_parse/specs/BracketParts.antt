-- What a bracket holds, one part after another: name, modifiers, nested descriptions.
use Rattle.std.specs.Prelude.{ℕ, ◌≡◌, ◌+◌, List, ◌∷◌, ◌++◌, length, MatchOption, Option}
use Rattle.std.specs.Borrow.{Bor}
use Rattle.timefd_lang_component.specs.Tree.{Text, Tree}
use Rattle.timefd_language.specs.declared.description_version.DescriptionVersion.{DescriptionVersion}
use Rattle.timefd_language.specs.Bytes.{left, right, is_white, is_word_byte, ZeroOrMore, OneOrMore, StopsBefore}
use Rattle.timefd_language.specs.Grammar.{Spells, nesting_limit}
use Rattle.timefd_language.specs.Head.{Head, IsHead, Modifier, IsModifier, head_text, modifiers_text, modifier_text}
use Rattle.timefd_parse.specs.declared.head.modifier.Modifier as code

-- `[`, white bytes and this name, and the rest
pub record BeginsNamed (text name rest : Text) : Type 0 where
  pub white : Text
  pub all_white : ZeroOrMore is_white white
  pub word : OneOrMore is_word_byte name
  pub whole : text ≡ left ∷ (white ++ (name ++ rest))
  pub stops : StopsBefore is_word_byte rest

-- If the text begins with a head, the name is that of the head, and its modifiers follow.
abbrev pub NamesHeads : Text → Option (Bor (List ℕ) × Bor (List ℕ)) → Type 0
NamesHeads text found =
    (h : Head) (after : Text) → IsHead h → StopsBefore is_word_byte after
    → text ≡ head_text h ++ after
    → MatchOption found ⊥ (λ parts. (parts.0.now ≡ h.name)
    × (parts.1.now ≡ modifiers_text h.modifiers ++ after))

-- White bytes, a key, a colon and a value, and the rest. The positions are counted in bytes from
-- the end.
pub record BeginsModified (text : Text) (m : code.Modifier) (rest : Text) : Type 0 where
  pub modifier : Modifier
  pub is : IsModifier modifier
  pub key : modifier.key ≡ m.key.now
  pub value : modifier.value ≡ m.value.now
  pub whole : text ≡ modifier_text modifier ++ rest
  pub stops : StopsBefore is_word_byte rest
  pub key_position : length modifier.white + m.key_remaining ≡ length text
  pub value_position : m.value_remaining + length m.key.now + 1 ≡ m.key_remaining

-- If the text begins with a modifier, it is found.
abbrev pub FindsModifiers : Text → Option (code.Modifier × Bor (List ℕ)) → Type 0
FindsModifiers text found =
    (m : Modifier) (after : Text) → IsModifier m → StopsBefore is_word_byte after
    → text ≡ modifier_text m ++ after
    → MatchOption found ⊥ (λ parts. (parts.0.key.now ≡ m.key) × (parts.0.value.now ≡ m.value)
    × (parts.1.now ≡ after))

-- White bytes, `[`, this text, which spells a list by itself too, `]` and the rest.
pub record BeginsNested (v : DescriptionVersion) (text inner rest : Text) : Type 0 where
  pub white : Text
  pub list : List Tree
  pub all_white : ZeroOrMore is_white white
  pub whole : text ≡ white ++ left ∷ (inner ++ right ∷ rest)
  pub inside : Spells v nesting_limit 1 inner list
  pub alone : Spells v nesting_limit 0 inner list

-- If the text begins with a nested description, it is found.
abbrev pub FindsNested : DescriptionVersion → Text → Option (Bor (List ℕ) × Bor (List ℕ)) → Type 0
FindsNested v text found =
    (white inner after : Text) (list : List Tree) → ZeroOrMore is_white white
    → Spells v nesting_limit 1 inner list
    → text ≡ white ++ left ∷ (inner ++ right ∷ after)
    → MatchOption found ⊥ (λ parts. (parts.0.now ≡ inner) × (parts.1.now ≡ after))
