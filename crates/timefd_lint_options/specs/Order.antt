-- The arguments in order: first the options, each value a word of its own, and then the names of files.
use Rattle.std.specs.Prelude.{ℕ, Bool, ◌==◌, List, [], ◌∷◌, ◌++◌, codes, length, if◌then◌else◌}
use Rattle.std.specs.List.{before_first, after_first, position_or_len}
use Rattle.timefd_parse.specs.Tree.{Text}
use Rattle.timefd_lint_options.specs.declared.order.Next.{Next}
use Rattle.timefd_lint_options.specs.declared.order.Next.TheVariants.{Any, Value, Name}
use Rattle.timefd_lint_options.specs.declared.word.Word.{Word}
use Rattle.timefd_lint_options.specs.declared.word.Word.TheVariants.{Flag, Valued, Help, Version, End, Unknown, File}
use Rattle.timefd_lint_options.specs.Words.{word_of}

abbrev pub after_word : Word → Next
after_word (Flag flag) = Any
after_word (Valued option) = Value
after_word Help = Any
after_word Version = Any
after_word End = Name
after_word Unknown = Any
after_word File = Any

-- what follows a word
abbrev pub after : Next → Text → Next
after Any word = after_word (word_of word)
after Value word = Any
after Name word = Name

abbrev pub is_equals_sign : ℕ → Bool
is_equals_sign b = b == 61

-- An equals sign joins an option to its value, and nothing else.
abbrev pub parts : Word → Text → Text → Text → List Text
parts (Flag flag) word option value = word ∷ []
parts (Valued named) word option value = option ∷ value ∷ []
parts Help word option value = word ∷ []
parts Version word option value = word ∷ []
parts End word option value = word ∷ []
parts Unknown word option value = word ∷ []
parts File word option value = word ∷ []

abbrev pub parts_at : Text → Text → Text → List Text
parts_at word option value = parts (word_of option) word option value

-- a word that isn't an option by itself
abbrev pub pair_in : Text → List Text
pair_in word =
    if position_or_len is_equals_sign word == length word then word ∷ []
    else parts_at word (before_first is_equals_sign word) (after_first is_equals_sign word)

abbrev pub options_by : Word → Text → List Text
options_by (Flag flag) word = word ∷ []
options_by (Valued option) word = word ∷ []
options_by Help word = word ∷ []
options_by Version word = word ∷ []
options_by End word = []
options_by Unknown word = pair_in word
options_by File word = []

-- what a word adds to the options
abbrev pub options_at : Next → Text → List Text
options_at Any word = options_by (word_of word) word
options_at Value word = word ∷ []
options_at Name word = []

abbrev pub names_by : Word → Text → List Text
names_by (Flag flag) word = []
names_by (Valued option) word = []
names_by Help word = []
names_by Version word = []
names_by End word = []
names_by Unknown word = []
names_by File word = word ∷ []

-- what a word adds to the names of files
abbrev pub names_at : Next → Text → List Text
names_at Any word = names_by (word_of word) word
names_at Value word = []
names_at Name word = word ∷ []

abbrev pub options_from : Next → List Text → List Text
options_from next [] = []
options_from next (word ∷ words) = options_at next word ++ options_from (after next word) words

abbrev pub names_from : Next → List Text → List Text
names_from next [] = []
names_from next (word ∷ words) = names_at next word ++ names_from (after next word) words

-- what would follow the last word
abbrev pub last : Next → List Text → Next
last next [] = next
last next (word ∷ words) = last (after next word) words

-- After the options stand the names of files, unless the last option still wants its value.
abbrev pub end_by : Next → List Text → List Text
end_by Any names = codes "--" ∷ names
end_by Value names = []
end_by Name names = codes "--" ∷ names

abbrev pub ordered : List Text → List Text
ordered words = options_from Any words ++ end_by (last Any words) (names_from Any words)
