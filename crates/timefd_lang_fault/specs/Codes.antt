-- The stable names of faults.
use Rattle.std.specs.Prelude.{◌≡◌, ◌++◌, List, [], ◌∷◌, codes, bytes_eq, if◌then◌else◌}
use Rattle.timefd_lang_fault.specs.Faults.{Text, Kind, unclosed_bracket, invalid_name, invalid_modifier, missing_name, missing_modifier, expected, not_supported, duplicate_modifier, invalid_combination}
use Rattle.timefd_lang_fault.specs.Words.{expected_escape, expected_closing_escape, expected_white, expected_nested, too_highly_nested, many_nested, optional_item, first_item, unsupported_flag, unsupported_letter}
use Rattle.timefd_lang_fault.specs.declared.code.Code.{Code}
use Rattle.timefd_lang_fault.specs.declared.code.Code.TheVariants.{UnclosedBracket, UnknownName, InvalidModifier, MissingName, MissingModifier, InvalidEscape, UnescapedBracket, MissingSpace, MissingDescription, MissingAlternative, NestedTooDeep, SeveralDescriptions, OptionalItem, FirstItem, UnsupportedFlag, UnsupportedLetter, NestedInComponent, DuplicateModifier, RefusedModifier}

abbrev pub name_of : Code → Text
name_of UnclosedBracket = codes "unclosed-bracket"
name_of UnknownName = codes "unknown-name"
name_of InvalidModifier = codes "invalid-modifier"
name_of MissingName = codes "missing-name"
name_of MissingModifier = codes "missing-modifier"
name_of InvalidEscape = codes "invalid-escape"
name_of UnescapedBracket = codes "unescaped-bracket"
name_of MissingSpace = codes "missing-space"
name_of MissingDescription = codes "missing-description"
name_of MissingAlternative = codes "missing-alternative"
name_of NestedTooDeep = codes "nested-too-deep"
name_of SeveralDescriptions = codes "several-descriptions"
name_of OptionalItem = codes "optional-item"
name_of FirstItem = codes "first-item"
name_of UnsupportedFlag = codes "unsupported-flag"
name_of UnsupportedLetter = codes "unsupported-letter"
name_of NestedInComponent = codes "nested-in-component"
name_of DuplicateModifier = codes "duplicate-modifier"
name_of RefusedModifier = codes "refused-modifier"

-- what a kind says was expected, or isn't supported
abbrev words_of : Kind → Text
words_of (expected what) = what
words_of (not_supported what context) = what
words_of other = []

-- the codes of what is expected, and of what is not supported

abbrev pub expected_code : Text → Code
expected_code what =
    if bytes_eq what (words_of expected_escape) then InvalidEscape
    else if bytes_eq what (words_of expected_closing_escape) then UnescapedBracket
    else if bytes_eq what (words_of expected_white) then MissingSpace
    else if bytes_eq what (words_of expected_nested) then MissingDescription
    else MissingAlternative

abbrev pub unsupported_code : Text → Code
unsupported_code what =
    if bytes_eq what (words_of too_highly_nested) then NestedTooDeep
    else if bytes_eq what (words_of many_nested) then SeveralDescriptions
    else if bytes_eq what (words_of optional_item) then OptionalItem
    else if bytes_eq what (words_of first_item) then FirstItem
    else if bytes_eq what (words_of unsupported_flag) then UnsupportedFlag
    else if bytes_eq what (words_of unsupported_letter) then UnsupportedLetter
    else NestedInComponent

abbrev pub code_of : Kind → Code
code_of unclosed_bracket = UnclosedBracket
code_of (invalid_name name) = UnknownName
code_of (invalid_modifier word) = InvalidModifier
code_of missing_name = MissingName
code_of (missing_modifier key) = MissingModifier
code_of (expected what) = expected_code what
code_of (not_supported what context) = unsupported_code what
code_of (duplicate_modifier key) = DuplicateModifier
code_of (invalid_combination key context) = RefusedModifier

-- No two codes have the same name.
abbrev pub NamesDiffer : Type 0
NamesDiffer = (a b : Code) → name_of a ≡ name_of b → a ≡ b

-- all codes, in the order of the enum
abbrev pub all : List Code
all = UnclosedBracket ∷ UnknownName ∷ InvalidModifier ∷ MissingName ∷ MissingModifier
    ∷ InvalidEscape ∷ UnescapedBracket ∷ MissingSpace ∷ MissingDescription ∷ MissingAlternative
    ∷ NestedTooDeep ∷ SeveralDescriptions ∷ OptionalItem ∷ FirstItem ∷ UnsupportedFlag
    ∷ UnsupportedLetter ∷ NestedInComponent ∷ DuplicateModifier ∷ RefusedModifier ∷ []

-- Each code is one of them.
abbrev pub AllAreThere : Type 0
AllAreThere = (code : Code) → (before after : List Code) × (all ≡ before ++ code ∷ after)
