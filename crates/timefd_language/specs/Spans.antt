-- Which bytes of a text are at fault.
use Rattle.std.specs.Char.{len_utf8}
use Rattle.std.specs.Prelude.{ℕ, Bool, None, ◌≡◌, ◌+◌, ◌≤◌, List, [], ◌∷◌, ◌++◌, chars, length, drop, min, ⊤}
use Rattle.std.specs.List.{prefix_len}
use Rattle.timefd_lang_component.specs.Tree.{Text}
use Rattle.timefd_lang_fault.specs.Faults.{Kind, Fault, fault_of, unclosed_bracket, invalid_name, invalid_modifier, missing_name, missing_modifier, expected, not_supported, duplicate_modifier, invalid_combination}
use Rattle.timefd_lang_fault.specs.BorrowedFaults.{to_borrowed_fault}
use Rattle.timefd_lang_fault.specs.RuleKinds.{rule_kind}
use Rattle.timefd_lang_fault.specs.Slots.{wanted_by}
use Rattle.timefd_lang_fault.specs.declared.read_error.Fault as code_fault
use Rattle.timefd_lang_fault.specs.declared.borrowed_fault.BorrowedFault.{BorrowedFault}
use Rattle.timefd_lang_fault.specs.declared.rule.Rule.{Rule}
use Rattle.timefd_lang_fault.specs.declared.borrowed_parse_error.BorrowedParseError.{BorrowedParseError}
use Rattle.timefd_lang_fault.specs.declared.borrowed_parse_error.BorrowedParseError.TheVariants.{Invalid, Memory}
use Rattle.timefd_lang_fault.specs.declared.borrowed_parse_error.ParseError.{ParseError}
use Rattle.timefd_lang_fault.specs.declared.borrowed_parse_error.ParseError.TheVariants as reported
use Rattle.timefd_language.specs.Bytes.{is_word_byte, is_key_byte}
use Rattle.timefd_language.specs.Slots.{IsWanted, WantsIn}
use Rattle.timefd_language.specs.declared.description_version.Language.{Language}
use Rattle.timefd_language.specs.declared.description_version.Language.TheVariants.{Version, Strftime}

-- how far a fault reaches from its index on
pub data Extent : Type 0 where
  -- the one character
  one_character : Extent
  -- the word: up to white space, a bracket or a backslash
  whole_word : Extent
  -- the key: a word, up to its colon
  whole_key : Extent
  -- this many bytes
  this_many : ℕ → Extent

-- a key, a value or a word; or a colon, if one side of it is empty
abbrev pub modifier_extent : Text → Extent
modifier_extent [] = one_character
modifier_extent (b ∷ word) = this_many (length (b ∷ word))

abbrev pub version_extent : Kind → Extent
version_extent unclosed_bracket = one_character
version_extent (invalid_name name) = whole_word
version_extent (invalid_modifier word) = modifier_extent word
version_extent missing_name = one_character
version_extent (missing_modifier key) = whole_word
version_extent (expected what) = one_character
version_extent (not_supported what context) = one_character
version_extent (duplicate_modifier key) = whole_key
version_extent (invalid_combination key context) = whole_key

-- Strftime's faults are of one character.
abbrev pub strftime_extent : Kind → Extent
strftime_extent kind = one_character

abbrev pub extent_of : Language → Kind → Extent
extent_of (Version v) kind = version_extent kind
extent_of Strftime kind = strftime_extent kind

-- how many bytes the first of some characters has
abbrev pub first_len : List ℕ → ℕ
first_len [] = 0
first_len (c ∷ characters) = len_utf8 c

-- how many bytes at the front of what is there
abbrev pub measured : Extent → Text → ℕ
measured one_character rest = first_len (chars rest)
measured whole_word rest = prefix_len is_word_byte rest
measured whole_key rest = prefix_len is_key_byte rest
measured (this_many most) rest = min most (length rest)

-- the index after the bytes at fault
abbrev pub end_of : Language → Text → Fault → ℕ
end_of language text f = f.index + measured (extent_of language f.kind) (drop f.index text)

-- The fault ends where the bytes at fault end, and no later than the text. Its rule says what should
-- have been there.
pub record IsSpanned (language : Language) (text : Text) (f : BorrowedFault) : Type 0 where
  pub end : f.end ≡ end_of language text (to_borrowed_fault f)
  pub order : f.start ≤ f.end
  pub within : f.end ≤ length text
  pub slot : IsWanted language text (to_borrowed_fault f) (wanted_by f.rule)

-- such a fault, or out of memory
abbrev pub HasSpan : Language → Text → BorrowedParseError → Type 0
HasSpan language text (Invalid f) = IsSpanned language text f
HasSpan language text (Memory e) = ⊤

-- The bytes at fault, from the index of a fault on, lie within the text.
abbrev pub SpansWithin : Language → Text → Fault → Type 0
SpansWithin language text f =
    (f.index ≤ end_of language text f) × (end_of language text f ≤ length text)

-- such a fault, or out of memory
abbrev pub HasSpanWithin : Language → Text → ParseError → Type 0
HasSpanWithin language text (reported.Invalid f) = SpansWithin language text (fault_of f)
HasSpanWithin language text (reported.Memory e) = ⊤

-- How that is known of a reader's fault: it is in the last bytes of the text, has as many bytes as
-- are at fault there, and what is wanted there is known by what precedes it. What holds of a text's
-- end, holds of the text.
pub record SpansIn (extent : Kind → Extent) (wants : Text → Rule → Type 0) (text : Text)
    (f : code_fault.Fault) : Type 0 where
  pub before : Text
  pub rest : Text
  pub whole : text ≡ before ++ rest
  pub start : f.remaining ≡ length rest
  pub len : f.len ≡ measured (extent (rule_kind f.rule)) rest
  pub within : f.len ≤ length rest
  pub wanted : wants before f.rule

-- of a text of a version
abbrev pub SpansVersion : Bool → Text → code_fault.Fault → Type 0
SpansVersion strict = SpansIn version_extent (WantsIn strict)

-- No name, key or value belongs where a fault of strftime is.
abbrev pub WantsNothing : Text → Rule → Type 0
WantsNothing front rule = wanted_by rule ≡ None

-- of a text of strftime
abbrev pub SpansStrftime : Text → code_fault.Fault → Type 0
SpansStrftime = SpansIn strftime_extent WantsNothing
