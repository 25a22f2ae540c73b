-- All words of the tables are distinct.
use Rattle.std.specs.Prelude.{ℕ, ◌≡◌, true, false, List, ◌∷◌, ◌++◌, Some, IsFalse}
use Rattle.timefd_lang_component.specs.Tree.{Text}
use Rattle.timefd_lang_fault.specs.declared.key.Key as code_key
use Rattle.timefd_lang_fault.specs.declared.name.Name.{Name}
use Rattle.timefd_language.specs.declared.setting.Setting.{Setting}
use Rattle.timefd_language.specs.Bytes.{same}
use Rattle.timefd_language.specs.Distinct.{names}
use Rattle.timefd_language.specs.Letters.{Letter, letters}
use Rattle.timefd_language.specs.Lookup.{key_for, keys_for}
use Rattle.timefd_language.specs.Recased.{SameButCase}
use Rattle.timefd_language.specs.Values.{Value, Key, words, key_in, setting_in}

-- No two names are the same, even if case is ignored.
abbrev pub NoTwoNames : Type 0
NoTwoNames = (a b : Text) (before between rest : List Text)
    → names ≡ before ++ a ∷ (between ++ b ∷ rest) → IsFalse (same false a b)

-- No two keys of a name are the same, even if case is ignored.
abbrev pub NoTwoKeys : Type 0
NoTwoKeys = (name : Name) (a b : Key) (before between rest : List Key)
    → keys_for name ≡ before ++ a ∷ (between ++ b ∷ rest) → IsFalse (same false a.key b.key)

-- No two values of a key are the same, even if case is ignored.
abbrev pub NoTwoValues : Type 0
NoTwoValues = (key : code_key.Key) (a b : Value Setting)
    (before between rest : List (Value Setting))
    → (key_for key).values ≡ words (before ++ a ∷ (between ++ b ∷ rest))
    → IsFalse (same false a.word b.word)

-- In versions 1 and 2 the case of a key or a value makes no difference.
abbrev pub WordsWithoutCase : Type 0
WordsWithoutCase = (keys : List Key) (values : List (Value Setting)) (a b : Text)
    → SameButCase a b
    → (key_in false a keys ≡ key_in false b keys)
    × (setting_in false (words values) a ≡ setting_in false (words values) b)

-- In version 3 a key is written exactly as in the table.
abbrev pub KeysWithCase : Type 0
KeysWithCase = (keys : List Key) (word : Text) (k : Key) → key_in true word keys ≡ Some k
    → word ≡ k.key

-- In version 3 a value is written exactly as in the table.
abbrev pub ValuesWithCase : Type 0
ValuesWithCase = (values : List (Value Setting)) (word : Text) (s : Setting)
    → setting_in true (words values) word ≡ Some s
    → (v : Value Setting) × (word ≡ v.word) × (s ≡ v.sets)

-- No byte is a letter of two rows of the table.
abbrev pub NoTwoLetters : Type 0
NoTwoLetters = (l m : Letter) (before between rest : List Letter) (b : ℕ) (c d : Text) (e f : Text)
    → letters ≡ before ++ l ∷ (between ++ m ∷ rest) → l.letters ≡ c ++ b ∷ d
    → m.letters ≡ e ++ b ∷ f → ⊥
