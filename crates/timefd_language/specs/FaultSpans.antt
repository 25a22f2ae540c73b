-- Which bytes are at fault, and which words aren't there: the laws.
use Rattle.std.specs.Prelude.{ℕ, ◌≡◌, Bool, ◌∷◌, ◌++◌, None, Some, drop, take, IsUtf8}
use Rattle.std.specs.List.{prefix_len}
use Rattle.std.specs.Str.{IsCharBoundary}
use Rattle.timefd_lang_component.specs.Tree.{Text}
use Rattle.timefd_lang_fault.specs.Faults.{Fault}
use Rattle.timefd_lang_fault.specs.declared.rule.Slot.{Slot}
use Rattle.timefd_lang_fault.specs.declared.rule.Slot.TheVariants as slots
use Rattle.timefd_language.specs.declared.description_version.DescriptionVersion.{DescriptionVersion}
use Rattle.timefd_language.specs.declared.description_version.Language.{Language}
use Rattle.timefd_language.specs.declared.description_version.Language.TheVariants.{Version, Strftime}
use Rattle.timefd_language.specs.Bytes.{colon, is_version_three, is_word_byte, is_key_byte, named}
use Rattle.timefd_language.specs.Broken.{FaultOf}
use Rattle.timefd_language.specs.Slots.{names, keys, values, IsWanted}
use Rattle.timefd_language.specs.Spans.{SpansWithin, end_of}
use Rattle.timefd_language.specs.Strftime.{StrftimeFaultOf}

-- The bytes at fault lie in the text, and begin and end between two of its characters.
pub record LiesBetween (language : Language) (text : Text) (f : Fault) : Type 0 where
  pub within : SpansWithin language text f
  pub start : IsCharBoundary text f.index
  pub end : IsCharBoundary text (end_of language text f)

abbrev pub FaultsLieBetween : Type 0
FaultsLieBetween = (v : DescriptionVersion) (limit : ℕ) (text : Text) (f : Fault) → IsUtf8 text
    → FaultOf v limit text f → LiesBetween (Version v) text f

abbrev pub StrftimeFaultsLieBetween : Type 0
StrftimeFaultsLieBetween = (text : Text) (f : Fault) → IsUtf8 text → StrftimeFaultOf text f
    → LiesBetween Strftime text f

-- the word that a text begins with, and the key of a word

abbrev pub word_at : Text → Text
word_at text = take (prefix_len is_word_byte text) text

abbrev pub key_at : Text → Text
key_at text = take (prefix_len is_key_byte text) text

-- The text begins with none of the words that are allowed: no name, no key and its colon, no value.
abbrev pub HasNone : Bool → Slot → Text → Type 0
HasNone strict slots.Name text = named (λ w. w) strict (word_at text) (names strict) ≡ None
HasNone strict (slots.Key name) text =
    (after : Text) → text ≡ key_at text ++ colon ∷ after
    → named (λ w. w) strict (key_at text) (keys name) ≡ None
HasNone strict (slots.Value key) text = named (λ w. w) strict (word_at text) (values key) ≡ None

-- Where a fault is, none of the words stands that should have been there.
abbrev pub SlotsLack : Type 0
SlotsLack = (v : DescriptionVersion) (limit : ℕ) (text : Text) (f : Fault) (slot : Slot)
    → FaultOf v limit text f → IsWanted (Version v) text f (Some slot)
    → HasNone (is_version_three v) slot (drop f.index text)
