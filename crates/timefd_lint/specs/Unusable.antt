-- Why a file of settings can't be used, in words.
use Rattle.std.specs.Prelude.{ℕ, ◌≡◌, ◌⊎◌, ◌+◌, ◌==◌, List, [], ◌∷◌, ◌++◌, Bool, Option, Some, None, Result, Ok, Err, String, codes, count_by, take, string_bytes, IsUtf8, ⊤}
use Rattle.std.specs.Fmt.{decimal}
use denote.Ref.{Bor}
use Rattle.std.specs.declared.alloc.AllocError.{AllocError}
use Rattle.std.specs.declared.alloc.Global.{Global}
use Rattle.std.specs.declared.io.ErrorKind.{ErrorKind}
use Rattle.std.specs.declared.io.ErrorKind.TheVariants.{IsADirectory, PermissionDenied}
use Rattle.timefd_parse.specs.Tree.{Text}
use Rattle.timefd_lang_warnings.specs.declared.warning.Warning.{Warning}
use Rattle.timefd_lang_warnings.specs.Codes as warnings
use Rattle.timefd_lint_drawing.specs.Shown.{safe}
use Rattle.timefd_lint_files.specs.declared.groups.NameGroup.{NameGroup}
use Rattle.timefd_lint_files.specs.declared.upwards.Nearest.{Nearest}
use Rattle.timefd_lint_files.specs.declared.walk_error.WalkReason.{WalkReason}
use Rattle.timefd_lint_files.specs.declared.walk_error.WalkReason.TheVariants.{Unread, TooDeep}
use Rattle.timefd_lint_files.specs.declared.walk_error.WalkError.{WalkError}
use Rattle.timefd_lint_files.specs.declared.walk_error.WalkError.TheVariants as walks
use Rattle.timefd_lint_files.specs.Errors.{OneOf}
use Rattle.timefd_lint_files.specs.Groups.{AreGroups, IsUnreadFor, IsUnreadForAny, site_any}
use Rattle.timefd_lint_files.specs.Upwards.{front_below}
use Rattle.timefd_lint_options.specs.declared.config.error.ConfigError.{ConfigError}
use Rattle.timefd_lint_options.specs.Config.Config.{config_of}
use Rattle.timefd_lint_options.specs.Config.Faults.{Fault, NotToml, UnknownName, KeysNotATable, EmptyName, WrongType, UnknownLanguage, NotAList, NotAPattern, LevelsNotATable, UnknownWarning, NoLevel, UnknownLevel, CallsNotATable, NotACall, NoArgument, UnknownCallLanguage, NoNumber, fault}
use Rattle.timefd_lint.specs.declared.config.ConfigFailure.{ConfigFailure}
use Rattle.timefd_lint.specs.declared.config.ConfigFailure.TheVariants.{Memory, Wrong}
use Rattle.timefd_lint.specs.NoCodes.{IsNoLevel, IsNoWarning}
use Rattle.timefd_lint.specs.Projects.{IsSettingsFor}

-- the status of a run that has no settings
abbrev pub unset_status : ConfigFailure → ℕ
unset_status Memory = 3
unset_status (Wrong sentence) = 2

-- It is said, unless memory runs out.
abbrev pub Says : (Text → Type 0) → ConfigFailure → Type 0
Says Is Memory = ⊤
Says Is (Wrong sentence) = Is (string_bytes sentence)

-- a sentence, or that there is no memory for it
abbrev pub reported : Result (String Global) AllocError → ConfigFailure
reported (Ok sentence) = Wrong sentence
reported (Err error) = Memory

-- the file, and what is wrong with it
abbrev pub wrong : Text → Text → Text
wrong file what = codes "`" ++ (file ++ (codes "`: " ++ what))

-- the file, an entry of it, and what is wrong with that
abbrev pub about : Text → Text → Text → Text
about file name what = codes "`" ++ (file ++ (codes "`: `" ++ (safe name ++ (codes "` " ++ what))))

-- why a file that is there isn't read
abbrev pub unread : ErrorKind → Text
unread IsADirectory = codes "the file can't be read: it is a folder"
unread PermissionDenied = codes "the file can't be read: permission denied"
unread kind = codes "the file can't be read"

abbrev pub unreadable : WalkReason → Text
unreadable (Unread kind) = unread kind
unreadable TooDeep = codes "the file can't be read"

-- A file that is sought can't be read: its path, and why.
abbrev pub IsUnfound : WalkError → ConfigFailure → Type 0
IsUnfound walks.Memory failure = failure ≡ Memory
IsUnfound (walks.Failed path reason) failure =
    Says (λ sentence. sentence ≡ wrong (string_bytes path) (unreadable reason)) failure

-- The number of a line of a text, counted from 1.
abbrev pub IsLineIn : Text → ℕ → Type 0
IsLineIn text line = (index : ℕ) × (line ≡ 1 + count_by (λ b. b == 10) (take index text))

-- A text isn't TOML, from one of its lines on. The reason is that of the library.
abbrev pub IsNotToml : Text → Text → Text → Type 0
IsNotToml file text sentence = (line : ℕ) × (reason : Text) × IsLineIn text line
    × (sentence ≡ codes "`" ++ (file ++ (codes "`: line " ++ (decimal line ++ (codes " isn't TOML: " ++ reason)))))

-- Its levels have a word that names no warning, or a word that is no level.

abbrev pub IsOnWarning : Text → Text → Text → Type 0
IsOnWarning file name sentence = (why : Text) × IsNoWarning name why × (sentence ≡ wrong file why)

abbrev pub IsOnLevel : Text → Warning → Text → Text → Type 0
IsOnLevel file warning word sentence =
    (why : Text) × IsNoLevel warning word why × (sentence ≡ wrong file why)

-- what is wrong with the text of a file, in a sentence
abbrev pub IsSaidOf : Text → Text → Fault → Text → Type 0
IsSaidOf file text NotToml sentence = IsNotToml file text sentence
IsSaidOf file text (UnknownName name) sentence = sentence
    ≡ about file name (codes "means nothing here: the settings are `exclude`, `[keys]`, `[levels]` and `[calls]`")
IsSaidOf file text KeysNotATable sentence = sentence ≡ wrong file (codes "`keys` isn't a table")
IsSaidOf file text LevelsNotATable sentence = sentence ≡ wrong file (codes "`levels` isn't a table")
IsSaidOf file text NotAList sentence = sentence ≡ wrong file (codes "`exclude` isn't a list")
IsSaidOf file text NotAPattern sentence =
    sentence ≡ wrong file (codes "`exclude` has a pattern that isn't a string")
IsSaidOf file text (UnknownWarning name) sentence = IsOnWarning file name sentence
IsSaidOf file text (NoLevel warning) sentence = sentence ≡ about file (warnings.name_of warning)
    (codes "has no string for its level: it is one of \"allow\", \"warn\", \"deny\"")
IsSaidOf file text (UnknownLevel warning word) sentence = IsOnLevel file warning word sentence
IsSaidOf file text EmptyName sentence = sentence ≡ wrong file (codes "a key has no name")
IsSaidOf file text (WrongType name) sentence =
    sentence ≡ about file name (codes "has neither a number nor a string for its language")
IsSaidOf file text (UnknownLanguage name) sentence = sentence ≡ about file name
    (codes "has no language: it is one of 1, 2, 3, \"strftime\", \"python\", \"c\", \"gnu\", \"chrono\", \"jiff\", \"ruby\", \"java\", \"go\", \"moment\"")
IsSaidOf file text CallsNotATable sentence = sentence ≡ wrong file (codes "`calls` isn't a table")
IsSaidOf file text (NotACall key) sentence = sentence
    ≡ about file key (codes "isn't the name of a call: write one like `parse_date` or `DateBased::new`")
IsSaidOf file text (NoArgument key) sentence = sentence ≡ about file key
    (codes "has no string like \"chrono:1\": the language of its format, and which argument that is, counted from 0")
IsSaidOf file text (UnknownCallLanguage key) sentence = sentence ≡ about file key
    (codes "has no language before its colon: it is one of 1, 2, 3, strftime, python, c, gnu, chrono, jiff, ruby, java, go, moment")
IsSaidOf file text (NoNumber key) sentence = sentence ≡ about file key
    (codes "has no number from 0 to 9 after its colon: write which argument the format is, counted from 0")

-- The sentence on an error. There is none on want of memory.
abbrev pub IsSaidIf : Text → Text → Option Fault → Text → Type 0
IsSaidIf file text None sentence = ⊥
IsSaidIf file text (Some fault) sentence = IsSaidOf file text fault sentence

abbrev pub IsSaidFor : Text → Text → ConfigError → Text → Type 0
IsSaidFor file text error sentence = IsSaidIf file text (fault error) sentence

-- Something is wrong with the text of a file.
abbrev pub IsFaultIn : Text → Text → Text → Type 0
IsFaultIn file text sentence =
    (fault : Fault) × (config_of text ≡ Err fault) × IsSaidOf file text fault sentence

-- The bytes of a file aren't UTF-8, or something is wrong with their text.
abbrev pub IsWrongText : Text → Text → Text → Type 0
IsWrongText file bytes sentence = ((¬ IsUtf8 bytes) × (sentence ≡ wrong file (codes "the bytes aren't UTF-8")))
    ⊎ IsFaultIn file bytes sentence

-- The file of settings that was found can't be used.
abbrev pub IsWrongIn : Option Nearest → ConfigFailure → Type 0
IsWrongIn None failure = ⊥
IsWrongIn (Some found) failure =
    Says (IsWrongText (string_bytes found.folder ++ codes ".timefd.toml") found.text.items) failure

-- one of those that were found for groups of names
abbrev pub IsOneWrong : List NameGroup → ConfigFailure → Type 0
IsOneWrong groups Memory = ⊤
IsOneWrong groups (Wrong sentence) = OneOf (λ group. IsWrongIn group.found (Wrong sentence)) groups

-- A file of settings that is sought for one of the names can't be read, or one that is found for them can't be used.
abbrev pub AreUnset : (Text → Text → Type 0) → (Text → ErrorKind → Type 0) → (Text → Bool → Type 0) → Text
    → List (Bor Text) → ConfigFailure → Type 0
AreUnset holds fails folders here names Memory = ⊤
AreUnset holds fails folders here names (Wrong sentence) =
    ((error : WalkError) × IsUnreadForAny fails folders (codes ".timefd.toml") (front_below here 0) names error
    × IsUnfound error (Wrong sentence))
    ⊎ ((groups : List NameGroup) × AreGroups (IsSettingsFor holds fails folders here) names groups
    × IsOneWrong groups (Wrong sentence))

-- the same of one name
abbrev pub IsUnset : (Text → Text → Type 0) → (Text → ErrorKind → Type 0) → (Text → Bool → Type 0) → Text → Text
    → ConfigFailure → Type 0
IsUnset holds fails folders here name Memory = ⊤
IsUnset holds fails folders here name (Wrong sentence) =
    ((error : WalkError) × IsUnreadFor fails folders (codes ".timefd.toml") (front_below here 0) name error
    × IsUnfound error (Wrong sentence))
    ⊎ ((found : Option Nearest) × IsSettingsFor holds fails folders here name (site_any found)
    × IsWrongIn found (Wrong sentence))
