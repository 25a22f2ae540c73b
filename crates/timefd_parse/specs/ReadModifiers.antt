-- How a modifier that was read relates to the rules.
use Rattle.timefd_lang_fault.specs.ReadErrors.{IsFault}
use Rattle.timefd_language.specs.Broken.{Misfit, IsMisfit, misfit_text, misfit_fault}
use Rattle.timefd_language.specs.Bytes.{colon, is_word_byte, is_key_byte, OneOrMore, StopsBefore}
use Rattle.std.specs.Prelude.{ℕ, Bool, ◌≡◌, ◌+◌, ◌<◌, List, ◌∷◌, ◌++◌, length, Option, Some, None, Result, MatchResult}
use Rattle.std.specs.Borrow.{Bor}
use Rattle.std.specs.Str.{IsUtf8}
use Rattle.timefd_lang_component.specs.Tree.{Text}
use Rattle.timefd_lang_fault.specs.declared.read_error.Fault as code_fault
use Rattle.timefd_parse.specs.declared.head.modifier.Modifier as code_modifier
use Rattle.timefd_lang_fault.specs.declared.name.Name.{Name}
use Rattle.timefd_language.specs.Head.{Placed}
use Rattle.timefd_language.specs.Slots.{EndsAfterHead}
use Rattle.timefd_language.specs.Cut.{IsCut}

pub record IsPlaced (total : ℕ) (m : code_modifier.Modifier) (p : Placed) : Type 0 where
  pub key : p.key ≡ m.key.now
  pub key_position : p.key_index + m.key_remaining ≡ total
  pub value : p.value ≡ m.value.now
  pub value_position : p.value_index + m.value_remaining ≡ total

-- The text has this modifier in a bracket with this name, and its key and value stand where it says.
pub record StandsIn (strict : Bool) (text : Text) (name : Option Name) (m : code_modifier.Modifier)
    : Type 0 where
  pub before : Text
  pub after : EndsAfterHead strict before name
  pub rest : Text
  pub key : OneOrMore is_key_byte m.key.now
  pub value : OneOrMore is_word_byte m.value.now
  pub whole : text ≡ before ++ (m.key.now ++ colon ∷ (m.value.now ++ rest))
  pub key_position : m.key_remaining ≡ length (m.key.now ++ colon ∷ (m.value.now ++ rest))
  pub value_position : m.value_remaining ≡ length (m.value.now ++ rest)

-- the word is this modifier
pub record IsWord (word : Text) (remaining : ℕ) (m : code_modifier.Modifier) : Type 0 where
  pub key : OneOrMore is_key_byte m.key.now
  pub value : OneOrMore is_word_byte m.value.now
  pub whole : word ≡ m.key.now ++ colon ∷ m.value.now
  pub key_position : m.key_remaining ≡ remaining
  pub value_position : m.value_remaining + length m.key.now + 1 ≡ remaining

-- the word isn't a modifier
abbrev pub IsNoWord : Text → ℕ → code_fault.Fault → Type 0
IsNoWord word remaining f = (m : Misfit) × IsMisfit m × (word ≡ misfit_text m)
    × IsFault remaining f (misfit_fault m 0)

-- the text begins with this word
pub record BeginsWithWord (text word rest : Text) : Type 0 where
  pub cut : IsCut is_word_byte text word rest
  pub some : 0 < length word

abbrev pub ReadsWord : Text → Option (code_modifier.Modifier × Bor (List ℕ)) → Type 0
ReadsWord text None = StopsBefore is_word_byte text
ReadsWord text (Some x) =
    (word : Text) × BeginsWithWord text word x.1.now × IsWord word (length text) x.0
    × IsUtf8 x.1.now

abbrev pub ReadsModifier : Text → Result (Option (code_modifier.Modifier × Bor (List ℕ)))
    code_fault.Fault → Type 0
ReadsModifier text r =
    MatchResult r (ReadsWord text)
    (λ f. (word : Text) × (rest : Text) × BeginsWithWord text word rest
    × IsNoWord word (length text) f)
