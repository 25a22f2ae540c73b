-- What a file of settings says.
use Rattle.std.specs.Prelude.{ℤ, pos, ◌==◌, Option, Some, None, Result, Ok, Err, Bool, ◌||◌, List, [], ◌∷◌, ◌++◌, codes, bytes_eq, length, map, if◌then◌else◌, string_bytes}
use Rattle.std.specs.Ordering.{int_eq}
use Rattle.timefd_lint_scan.specs.declared.dialect.FormatLanguage.{FormatLanguage}
use Rattle.timefd_lint_scan.specs.declared.dialect.FormatLanguage.TheVariants.{One, Two, Three}
use Rattle.timefd_lint_scan.specs.Bytes.{Text}
use Rattle.timefd_lint_scan.specs.Keys.Keys.{Named}
use Rattle.timefd_lint_scan.specs.Dialects.{dialect_named}
use Rattle.toml.specs.Data.{Data, string, integer, float, boolean, datetime, array, table, Items, no_items, item, Members, no_members, member, get_member}
use Rattle.toml.specs.Parse.{parse_document}
use Rattle.timefd_lint_options.specs.declared.config.config.Config.{Config}
use Rattle.timefd_lint_options.specs.declared.config.keys.OwnedKey.{OwnedKey}
use Rattle.timefd_lint_options.specs.declared.config.language.ValueFault.{ValueFault}
use Rattle.timefd_lint_options.specs.declared.config.language.ValueFault.TheVariants as no_language
use Rattle.timefd_lint_options.specs.Config.Faults.{Fault, NotToml, UnknownName, KeysNotATable, EmptyName, WrongType, UnknownLanguage, NotAList, NotAPattern, LevelsNotATable, CallsNotATable}
use Rattle.timefd_lint_options.specs.Config.Calls.{Called, called_all, calls_in}
use Rattle.timefd_lint_options.specs.Config.Levels.{Levels, levels_in}

-- a key by the bytes of its name
abbrev pub named : OwnedKey → Named
named key = record { name = string_bytes key.name; dialect = key.dialect }

abbrev pub named_all : List OwnedKey → List Named
named_all keys = map named keys

-- the language that a number names
abbrev pub dialect_numbered : ℤ → Option FormatLanguage
dialect_numbered number =
    if int_eq number (pos 1) then Some One
    else if int_eq number (pos 2) then Some Two
    else if int_eq number (pos 3) then Some Three
    else None

abbrev pub known : Option FormatLanguage → Result FormatLanguage ValueFault
known (Some dialect) = Ok dialect
known None = Err no_language.UnknownLanguage

-- the language that a value names, or why it names none
abbrev pub dialect_valued : Data → Result FormatLanguage ValueFault
dialect_valued (integer number) = known (dialect_numbered number)
dialect_valued (string word) = known (dialect_named word)
dialect_valued (float number) = Err no_language.WrongType
dialect_valued (boolean value) = Err no_language.WrongType
dialect_valued (datetime value) = Err no_language.WrongType
dialect_valued (array items) = Err no_language.WrongType
dialect_valued (table _) = Err no_language.WrongType

abbrev pub key_by : Text → Result FormatLanguage ValueFault → Result Named Fault
key_by name (Ok dialect) = Ok (record { name = name; dialect = dialect })
key_by name (Err no_language.WrongType) = Err (WrongType name)
key_by name (Err no_language.UnknownLanguage) = Err (UnknownLanguage name)

-- the key with this name and value
abbrev pub key_of : Text → Data → Result Named Fault
key_of name value =
    if length name == 0 then Err EmptyName else key_by name (dialect_valued value)

abbrev pub in_front : Named → Result (List Named) Fault → Result (List Named) Fault
in_front key (Ok keys) = Ok (key ∷ keys)
in_front key (Err fault) = Err fault

abbrev pub with_key : Result Named Fault → Result (List Named) Fault → Result (List Named) Fault
with_key (Ok key) after = in_front key after
with_key (Err fault) after = Err fault

-- the keys of a table, or what is wrong with the first entry that isn't a key
abbrev pub keys_in : Members → Result (List Named) Fault
keys_in no_members = Ok []
keys_in (member name value rest) = with_key (key_of name value) (keys_in rest)

abbrev pub is_known : Text → Bool
is_known name =
    bytes_eq name (codes "keys")
    || (bytes_eq name (codes "exclude") || (bytes_eq name (codes "levels") || bytes_eq name (codes "calls")))

-- the first name that has no meaning here
abbrev pub unknown_name : Members → Option Text
unknown_name no_members = None
unknown_name (member name value rest) =
    if is_known name then unknown_name rest else Some name

abbrev pub keys_at : Option Data → Result (List Named) Fault
keys_at None = Ok []
keys_at (Some (table rows)) = keys_in rows
keys_at (Some (string word)) = Err KeysNotATable
keys_at (Some (integer number)) = Err KeysNotATable
keys_at (Some (float number)) = Err KeysNotATable
keys_at (Some (boolean value)) = Err KeysNotATable
keys_at (Some (datetime value)) = Err KeysNotATable
keys_at (Some (array items)) = Err KeysNotATable

-- a pattern, followed by a line feed
abbrev pub pattern_line : Data → Option Text
pattern_line (string pattern) = Some (pattern ++ 10 ∷ [])
pattern_line (integer number) = None
pattern_line (float number) = None
pattern_line (boolean value) = None
pattern_line (datetime value) = None
pattern_line (array items) = None
pattern_line (table rows) = None

abbrev pub pushed : Text → Option Text → Option Text
pushed text None = None
pushed text (Some line) = Some (text ++ line)

abbrev pub before : Text → Result Text Fault → Result Text Fault
before line (Ok lines) = Ok (line ++ lines)
before line (Err fault) = Err fault

abbrev pub with_line : Option Text → Result Text Fault → Result Text Fault
with_line (Some line) after = before line after
with_line None after = Err NotAPattern

-- the patterns of a list, a line each
abbrev pub patterns_in : Items → Result Text Fault
patterns_in no_items = Ok []
patterns_in (item value rest) = with_line (pattern_line value) (patterns_in rest)

abbrev pub exclude_at : Option Data → Result Text Fault
exclude_at None = Ok []
exclude_at (Some (array items)) = patterns_in items
exclude_at (Some (string word)) = Err NotAList
exclude_at (Some (integer number)) = Err NotAList
exclude_at (Some (float number)) = Err NotAList
exclude_at (Some (boolean value)) = Err NotAList
exclude_at (Some (datetime value)) = Err NotAList
exclude_at (Some (table rows)) = Err NotAList

abbrev pub there : Result Levels Fault → Result (Option Levels) Fault
there (Ok levels) = Ok (Some levels)
there (Err fault) = Err fault

-- the levels in the table of levels, if there is one
abbrev pub levels_at : Option Data → Result (Option Levels) Fault
levels_at None = Ok None
levels_at (Some (table rows)) = there (levels_in rows)
levels_at (Some (string word)) = Err LevelsNotATable
levels_at (Some (integer number)) = Err LevelsNotATable
levels_at (Some (float number)) = Err LevelsNotATable
levels_at (Some (boolean value)) = Err LevelsNotATable
levels_at (Some (datetime value)) = Err LevelsNotATable
levels_at (Some (array items)) = Err LevelsNotATable

abbrev pub calls_at : Option Data → Result (List Called) Fault
calls_at None = Ok []
calls_at (Some (table rows)) = calls_in rows
calls_at (Some (string word)) = Err CallsNotATable
calls_at (Some (integer number)) = Err CallsNotATable
calls_at (Some (float number)) = Err CallsNotATable
calls_at (Some (boolean value)) = Err CallsNotATable
calls_at (Some (datetime value)) = Err CallsNotATable
calls_at (Some (array items)) = Err CallsNotATable

-- what a file says: keys, the patterns of what is passed over, a line each, the levels of warnings, and calls
pub record Said : Type 0 where
  pub keys : List Named
  pub exclude : Text
  pub levels : Option Levels
  pub calls : List Called

abbrev pub said : Config → Said
said config = record {
  keys = named_all config.keys.items;
  exclude = string_bytes config.exclude;
  levels = config.levels;
  calls = called_all config.calls.items;
}

abbrev pub all_said : Result (List Named) Fault → Result Text Fault → Result (Option Levels) Fault
    → Result (List Called) Fault → Result Said Fault
all_said (Err fault) exclude levels calls = Err fault
all_said (Ok keys) (Err fault) levels calls = Err fault
all_said (Ok keys) (Ok exclude) (Err fault) calls = Err fault
all_said (Ok keys) (Ok exclude) (Ok levels) (Err fault) = Err fault
all_said (Ok keys) (Ok exclude) (Ok levels) (Ok calls) =
    Ok (record { keys = keys; exclude = exclude; levels = levels; calls = calls })

abbrev pub unless_unknown : Option Text → Result Said Fault → Result Said Fault
unless_unknown (Some name) config = Err (UnknownName name)
unless_unknown None config = config

-- What a document says: it has the tables `keys`, `levels` and `calls` and the list `exclude`, or some of them, or nothing.
abbrev pub config_of_document : Members → Result Said Fault
config_of_document document = unless_unknown (unknown_name document)
    (all_said (keys_at (get_member (codes "keys") document)) (exclude_at (get_member (codes "exclude") document))
    (levels_at (get_member (codes "levels") document)) (calls_at (get_member (codes "calls") document)))

abbrev pub config_of_parsed : Option Members → Result Said Fault
config_of_parsed (Some document) = config_of_document document
config_of_parsed None = Err NotToml

-- what a text says
abbrev pub config_of : Text → Result Said Fault
config_of text = config_of_parsed (parse_document text)
