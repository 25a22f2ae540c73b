-- Steps through a text.
use Rattle.std.specs.Prelude.{ℕ, ◌≡◌, Bool, not, nat_le, ◌==◌, ◌||◌, [], ◌∷◌, ◌++◌, IsTrue}
use Rattle.timefd_language.specs.declared.description_version.DescriptionVersion.TheVariants.{One, Three}
use Rattle.timefd_language.specs.declared.text.Class.{Class}
use Rattle.timefd_language.specs.declared.text.Class.TheVariants.{White, Word, Key, Run, RunWithBackslash, Plain}
use Rattle.timefd_language.specs.declared.text.Start.{Start}
use Rattle.timefd_language.specs.declared.text.Start.TheVariants.{End, Opening, Closing, Backslash, Other}
use Rattle.timefd_lang_component.specs.Tree.{Text}
use Rattle.timefd_language.specs.Strftime.{is_plain}
use Rattle.timefd_language.specs.Bytes.{left, right, backslash, is_white, is_word_byte, is_key_byte, is_run_byte, ZeroOrMore, StopsBefore}

abbrev pub class_test : Class → ℕ → Bool
class_test White = is_white
class_test Word = is_word_byte
class_test Key = is_key_byte
class_test Run = is_run_byte Three
class_test RunWithBackslash = is_run_byte One
class_test Plain = is_plain

-- the byte is none of these three
abbrev pub is_none_of : ℕ → ℕ → ℕ → ℕ → Bool
is_none_of first second third b = not (((b == first) || (b == second)) || (b == third))

-- the byte is greater than every byte that ends a word
abbrev pub is_high : ℕ → Bool
is_high b = not (nat_le b right)

-- the text is cut after its longest front whose bytes pass
pub record IsCut (test : ℕ → Bool) (text front rest : Text) : Type 0 where
  pub whole : text ≡ front ++ rest
  pub passes : ZeroOrMore test front
  pub stops : StopsBefore test rest

-- what the text begins with
abbrev pub BeginsWith : Start → Text → Type 0
BeginsWith End text = text ≡ []
BeginsWith (Opening rest) text = text ≡ left ∷ rest.now
BeginsWith (Closing rest) text = text ≡ right ∷ rest.now
BeginsWith (Backslash rest) text = text ≡ backslash ∷ rest.now
BeginsWith Other text = (b : ℕ) × (rest : Text) × (text ≡ b ∷ rest) × IsTrue (is_run_byte Three b)
