-- The keys that the arguments name.
use Rattle.std.specs.Prelude.{List, [], ◌∷◌, ◌++◌}
use denote.Ref.{Bor}
use Rattle.timefd_parse.specs.Tree.{Text}
use Rattle.timefd_lint_scan.specs.Keys.Keys.{Named, keys_in}
use Rattle.timefd_lint_options.specs.declared.keys.Expected.{Expected}
use Rattle.timefd_lint_options.specs.declared.keys.Expected.TheVariants as expects
use Rattle.timefd_lint_options.specs.declared.word.Valued.{Valued}
use Rattle.timefd_lint_options.specs.declared.word.Valued.TheVariants.{Language, Format, Color, Comment, Key, To, Deny, Allow}
use Rattle.timefd_lint_options.specs.declared.word.Word.{Word}
use Rattle.timefd_lint_options.specs.declared.word.Word.TheVariants.{Flag, Valued as HasValue, Help, Version, End, Unknown, File}
use Rattle.timefd_lint_options.specs.Words.{word_of}

abbrev pub after_option : Valued → Expected
after_option Language = expects.Value
after_option Format = expects.Value
after_option Color = expects.Value
after_option Comment = expects.Value
after_option Key = expects.Key
after_option To = expects.Value
after_option Deny = expects.Value
after_option Allow = expects.Value

abbrev pub after_word : Word → Expected
after_word (Flag flag) = expects.Any
after_word (HasValue option) = after_option option
after_word Help = expects.Name
after_word Version = expects.Name
after_word End = expects.Name
after_word Unknown = expects.Name
after_word File = expects.Name

-- what is expected after a word
abbrev pub after : Expected → Text → Expected
after expects.Any word = after_word (word_of word)
after expects.Value word = expects.Any
after expects.Key word = expects.Any
after expects.Name word = expects.Name

abbrev pub keys_at : Expected → Text → List Named
keys_at expects.Any word = []
keys_at expects.Value word = []
keys_at expects.Key word = keys_in word
keys_at expects.Name word = []

abbrev pub keys_from : Expected → List (Bor Text) → List Named
keys_from expected [] = []
keys_from expected (word ∷ words) =
    keys_at expected word.now ++ keys_from (after expected word.now) words

-- the keys of all words, in order
abbrev pub keys_of : List (Bor Text) → List Named
keys_of words = keys_from expects.Any words
