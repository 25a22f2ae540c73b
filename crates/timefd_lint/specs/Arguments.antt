-- What is wrong with the arguments, in a sentence.
use Rattle.std.specs.Prelude.{◌≡◌, ◌++◌, codes, Option, Some, None}
use Rattle.std.specs.List.{join_by}
use Rattle.timefd_parse.specs.Tree.{Text}
use Rattle.timefd_lint_diagnosis.specs.Nearest.{IsNearest}
use Rattle.timefd_lint_drawing.specs.Forms as forms
use Rattle.timefd_lint_drawing.specs.Shown.{safe}
use Rattle.timefd_lint_scan.specs.declared.keys.key.KeyFault.{KeyFault}
use Rattle.timefd_lint_scan.specs.declared.keys.key.KeyFault.TheVariants.{NoEqualsSign, EmptyName, UnknownLanguage}
use Rattle.timefd_lint_options.specs.declared.error.Conflict.{Conflict as Conflicts}
use Rattle.timefd_lint_options.specs.declared.error.Conflict.TheVariants as conflicts
use Rattle.timefd_lint_options.specs.declared.error.OptionError.{OptionError}
use Rattle.timefd_lint_options.specs.declared.error.OptionError.TheVariants.{Unknown, MissingValue, NotAValue, NotAKey, Conflict}
use Rattle.timefd_lint_options.specs.declared.word.Valued.{Valued}
use Rattle.timefd_lint_options.specs.declared.word.Valued.TheVariants.{Language, Format, Color, Comment, Key, To, Deny, Allow}
use Rattle.timefd_lint_options.specs.Suggestions.{long_names}
use Rattle.timefd_lang_warnings.specs.Codes as warnings

abbrev pub name : Valued → Text
name Language = codes "--language"
name Format = codes "--format"
name Color = codes "--color"
name Comment = codes "--comment"
name Key = codes "--key"
name To = codes "--to"
name Deny = codes "--deny"
name Allow = codes "--allow"

abbrev pub form_names : Text
form_names = codes "one of " ++ forms.names

abbrev pub warning_names : Text
warning_names = codes "one of " ++ join_by warnings.name_of (codes ", ") warnings.all

-- the values that an option takes
abbrev pub values : Valued → Text
values Language = codes "one of 1, 2, 3, strftime, python, c, gnu, chrono, jiff, ruby, java, go, moment"
values Format = form_names
values Color = codes "one of always, never, auto"
values Comment = codes "a mark that is not empty"
values Key = codes "a key and its language, as `time_format=3`"
values To = codes "one of 2, 3"
values Deny = warning_names
values Allow = warning_names

abbrev pub key_sentence : KeyFault → Text
key_sentence NoEqualsSign =
    codes "write `=` and a language after the key, as in `time_format=3`"
key_sentence EmptyName = codes "write a key before `=`, as in `time_format=3`"
key_sentence UnknownLanguage = codes "the language is one of 1, 2, 3, strftime, python, c, gnu, chrono, jiff, ruby, java, go, moment"

abbrev pub conflict_sentence : Conflicts → Text
conflict_sentence conflicts.ServesFiles =
    codes
    "`--lsp` serves an editor, which sends the texts, and takes no file"
conflict_sentence conflicts.ServesAlone =
    codes
    "`--lsp` serves an editor, and doesn't go with options on how files are looked at or rewritten"
conflict_sentence conflicts.ExplainUndrawn =
    codes
    "`--explain` draws trees, and goes only with `--format human`"
conflict_sentence conflicts.LogRewritten =
    codes
    "`--format sarif` is one log, and doesn't go with `--to`, `--normal` and `--fix`"
conflict_sentence conflicts.WriteWithoutVersion =
    codes
    "`--write` needs `--to 2`, `--to 3`, `--normal` or `--fix`"
conflict_sentence conflicts.PartialWithoutWrite =
    codes
    "`--partial` goes only with `--write`"
conflict_sentence conflicts.UnsafeWithoutFix =
    codes
    "`--unsafe` goes only with `--fix`"
conflict_sentence conflicts.FixesRewritten =
    codes
    "`--fix` doesn't go with `--to` and `--normal`"
conflict_sentence conflicts.FixesWhole =
    codes
    "`--fix` mends line by line, and doesn't go with `--whole`"
conflict_sentence conflicts.FixesNoFile =
    codes
    "`--fix` needs the name of a file"
conflict_sentence conflicts.FixesInput =
    codes
    "`--fix` mends files, and `-` is the standard input"
conflict_sentence conflicts.NormalOfAnother =
    codes
    "`--normal` is the form of version 3, and doesn't go with `--to 2`"
conflict_sentence conflicts.NoConversion =
    codes
    "no rewriting leads there: `--language 1` goes `--to 2` or `3`, `2`, `strftime` and formats of other libraries go `--to 3`; `--normal` lays out version 3"
conflict_sentence conflicts.ExplainsOther =
    codes
    "`--explain` draws trees of the languages of `time`; leave it out for formats of other libraries"
conflict_sentence conflicts.FixesOther =
    codes
    "`--fix` mends the languages of `time`; change a format of another library as its help says"
conflict_sentence conflicts.RewritesWarned =
    codes
    "`--warn`, `--deny` and `--allow` look at files, and don't go with `--to` and `--normal`"
conflict_sentence conflicts.RewritesWhole =
    codes
    "`--to` and `--normal` rewrite line by line, and don't go with `--whole`"
conflict_sentence conflicts.RewritesNoFile =
    codes
    "`--to` and `--normal` need the name of a file"
conflict_sentence conflicts.RewritesInput =
    codes
    "`--to` and `--normal` rewrite files, and `-` is the standard input"

abbrev pub missing : Text → Text → Text
missing option takes = codes "`" ++ (option ++ (codes "` needs a value: " ++ takes))

abbrev pub no_value : Text → Text → Text
no_value word option = codes "`" ++ (safe word ++ (codes "` isn't a value of `" ++ (option ++ codes "`")))

-- a word that an option doesn't take as its value, and what it takes
abbrev pub not_a_value : Text → Text → Text → Text
not_a_value word option takes = no_value word option ++ (codes ": " ++ takes)

-- a word that looks like an option but isn't one, and the option that is nearest to it, if one is near
abbrev pub unknown : Text → Option Text → Text
unknown word (Some option) =
    codes "there is no option `" ++ (safe word ++ (codes "`; the nearest is `" ++ (option ++ codes "`")))
unknown word None = codes "there is no option `" ++ (safe word ++ codes "`; --help lists them")

abbrev pub IsUnknown : Text → Text → Type 0
IsUnknown word text =
    (nearest : Option Text) × IsNearest long_names word nearest × (text ≡ unknown word nearest)

-- The sentence says what is wrong with the arguments.
abbrev pub IsSentence : OptionError → Text → Type 0
IsSentence (Unknown word) text = IsUnknown word.now text
IsSentence (MissingValue option) text = text ≡ missing (name option) (values option)
IsSentence (NotAValue option word) text = text ≡ not_a_value word.now (name option) (values option)
IsSentence (NotAKey fault word) text = text ≡ not_a_value word.now (codes "--key") (key_sentence fault)
IsSentence (Conflict conflict) text = text ≡ conflict_sentence conflict
