-- Keys whose strings are descriptions.
use Rattle.std.specs.Prelude.{ℕ, Bool, ◌==◌, Option, Some, None, Result, Ok, Err, List, [], ◌∷◌, bytes_eq, length, map, if◌then◌else◌}
use Rattle.std.specs.List.{before_first, after_first, position_or_len}
use Rattle.timefd_lint_scan.specs.declared.dialect.FormatLanguage.{FormatLanguage}
use Rattle.timefd_lint_scan.specs.Bytes.{Text}
use Rattle.timefd_lint_scan.specs.Dialects.{dialect_named}
use Rattle.timefd_lint_scan.specs.declared.keys.key.DescriptionKey.{DescriptionKey}
use Rattle.timefd_lint_scan.specs.declared.keys.key.KeyFault.{KeyFault}
use Rattle.timefd_lint_scan.specs.declared.keys.key.KeyFault.TheVariants.{NoEqualsSign, EmptyName, UnknownLanguage}

-- the language of the first key with this name
abbrev pub dialect_of : List DescriptionKey → Text → Option FormatLanguage
dialect_of [] name = None
dialect_of (key ∷ keys) name =
    if bytes_eq key.name.now name then Some key.dialect else dialect_of keys name

-- a key by the bytes of its name
pub record Named : Type 0 where
  pub name : Text
  pub dialect : FormatLanguage

abbrev pub named : DescriptionKey → Named
named key = record { name = key.name.now; dialect = key.dialect }

abbrev pub named_all : List DescriptionKey → List Named
named_all keys = map named keys

abbrev pub seen : Result DescriptionKey KeyFault → Result Named KeyFault
seen (Ok key) = Ok (named key)
seen (Err fault) = Err fault

abbrev pub is_equals_sign : ℕ → Bool
is_equals_sign b = b == 61

abbrev pub answer_by : Text → Option FormatLanguage → Result Named KeyFault
answer_by name (Some dialect) = Ok (record { name = name; dialect = dialect })
answer_by name None = Err UnknownLanguage

abbrev pub answer_of : Text → Text → Result Named KeyFault
answer_of name language =
    if length name == 0 then Err EmptyName else answer_by name (dialect_named language)

-- The key in a word `KEY=LANGUAGE`, split at the first equals sign; or why there is none.
abbrev pub key_of : Text → Result Named KeyFault
key_of word =
    if position_or_len is_equals_sign word == length word then Err NoEqualsSign
    else answer_of (before_first is_equals_sign word) (after_first is_equals_sign word)

abbrev pub fault_in : Result Named KeyFault → Option KeyFault
fault_in (Ok key) = None
fault_in (Err fault) = Some fault

-- why a word isn't a `KEY=LANGUAGE`
abbrev pub key_fault : Text → Option KeyFault
key_fault word = fault_in (key_of word)

abbrev pub listed : Result Named KeyFault → List Named
listed (Ok key) = key ∷ []
listed (Err fault) = []

-- the key in a word, if there is one
abbrev pub keys_in : Text → List Named
keys_in word = listed (key_of word)
