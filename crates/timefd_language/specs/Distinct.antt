-- Each word of the tables, and each letter of strftime, means one thing.
use Rattle.std.specs.Prelude.{Bool, true, false, not, ◌&&◌, codes, List, [], ◌∷◌, ◌++◌, map, IsTrue}
use Rattle.timefd_lang_component.specs.Tree.{Text}
use Rattle.timefd_lang_fault.specs.declared.key.Key.{Key}
use Rattle.timefd_lang_fault.specs.declared.name.Name.{Name}
use Rattle.timefd_language.specs.Bytes.{same}
use Rattle.timefd_language.specs.Letters.{Letter, letters, is_one_of}
use Rattle.timefd_language.specs.Lookup.{key_for, keys_for}
use Rattle.timefd_language.specs.Names.{rows}
use Rattle.timefd_language.specs.Values.{Values, words, numbers}

-- the word is none of these, even if case is ignored
abbrev pub is_another : Text → List Text → Bool
is_another word [] = true
is_another word (w ∷ ws) = not (same false word w) && is_another word ws

-- no two words are the same, even if case is ignored
abbrev pub are_distinct : List Text → Bool
are_distinct [] = true
are_distinct (w ∷ ws) = is_another w ws && are_distinct ws

-- all names
abbrev pub names : List Text
names = codes "optional" ∷ codes "first" ∷ map (λ r. r.name) rows

-- the words that a key may be set to
abbrev pub words_in : Values → List Text
words_in (words values) = map (λ v. v.word) values
words_in numbers = []

pub record DistinctWords : Type 0 where
  pub name : IsTrue (are_distinct names)
  pub keys : (n : Name) → IsTrue (are_distinct (map (λ k. k.key) (keys_for n)))
  pub values : (k : Key) → IsTrue (are_distinct (words_in (key_for k).values))

-- the letters of all rows
abbrev pub letters_in : List Letter → Text
letters_in [] = []
letters_in (l ∷ ls) = l.letters ++ letters_in ls

-- no byte occurs twice
abbrev pub is_without_repeats : Text → Bool
is_without_repeats [] = true
is_without_repeats (b ∷ bytes) = not (is_one_of b bytes) && is_without_repeats bytes

abbrev pub DistinctLetters : Type 0
DistinctLetters = IsTrue (is_without_repeats (letters_in letters))
