-- No two codes have the same name: each is read back from its name. Each is one of all.
use Rattle.std.proofs.Common.{◌≡◌, ◌∙◌, refl, sym, ap, codes, take, drop}
use Rattle.std.specs.Prelude.{bytes_eq, if◌then◌else◌}
use Rattle.timefd_lang_fault.specs.Faults.{Text}
use Rattle.timefd_lang_fault.specs.declared.code.Code.{Code}
use Rattle.timefd_lang_fault.specs.declared.code.Code.TheVariants.{UnclosedBracket, UnknownName, InvalidModifier, MissingName, MissingModifier, InvalidEscape, UnescapedBracket, MissingSpace, MissingDescription, MissingAlternative, NestedTooDeep, SeveralDescriptions, OptionalItem, FirstItem, UnsupportedFlag, UnsupportedLetter, NestedInComponent, DuplicateModifier, RefusedModifier}
use Rattle.timefd_lang_fault.specs.Codes.{name_of, NamesDiffer, all, AllAreThere}

abbrev code_named : Text → Code
code_named name =
    if bytes_eq name (codes "unclosed-bracket") then UnclosedBracket
    else if bytes_eq name (codes "unknown-name") then UnknownName
    else if bytes_eq name (codes "invalid-modifier") then InvalidModifier
    else if bytes_eq name (codes "missing-name") then MissingName
    else if bytes_eq name (codes "missing-modifier") then MissingModifier
    else if bytes_eq name (codes "invalid-escape") then InvalidEscape
    else if bytes_eq name (codes "unescaped-bracket") then UnescapedBracket
    else if bytes_eq name (codes "missing-space") then MissingSpace
    else if bytes_eq name (codes "missing-description") then MissingDescription
    else if bytes_eq name (codes "missing-alternative") then MissingAlternative
    else if bytes_eq name (codes "nested-too-deep") then NestedTooDeep
    else if bytes_eq name (codes "several-descriptions") then SeveralDescriptions
    else if bytes_eq name (codes "optional-item") then OptionalItem
    else if bytes_eq name (codes "first-item") then FirstItem
    else if bytes_eq name (codes "unsupported-flag") then UnsupportedFlag
    else if bytes_eq name (codes "unsupported-letter") then UnsupportedLetter
    else if bytes_eq name (codes "nested-in-component") then NestedInComponent
    else if bytes_eq name (codes "duplicate-modifier") then DuplicateModifier
    else RefusedModifier

read_back : (c : Code) → code_named (name_of c) ≡ c
read_back UnclosedBracket = refl
read_back UnknownName = refl
read_back InvalidModifier = refl
read_back MissingName = refl
read_back MissingModifier = refl
read_back InvalidEscape = refl
read_back UnescapedBracket = refl
read_back MissingSpace = refl
read_back MissingDescription = refl
read_back MissingAlternative = refl
read_back NestedTooDeep = refl
read_back SeveralDescriptions = refl
read_back OptionalItem = refl
read_back FirstItem = refl
read_back UnsupportedFlag = refl
read_back UnsupportedLetter = refl
read_back NestedInComponent = refl
read_back DuplicateModifier = refl
read_back RefusedModifier = refl

pub names_differ : NamesDiffer
names_differ a b same = sym (read_back a) ∙ ap code_named same ∙ read_back b

pub all_are_there : AllAreThere
all_are_there UnclosedBracket = (take 0 all, drop 1 all, refl)
all_are_there UnknownName = (take 1 all, drop 2 all, refl)
all_are_there InvalidModifier = (take 2 all, drop 3 all, refl)
all_are_there MissingName = (take 3 all, drop 4 all, refl)
all_are_there MissingModifier = (take 4 all, drop 5 all, refl)
all_are_there InvalidEscape = (take 5 all, drop 6 all, refl)
all_are_there UnescapedBracket = (take 6 all, drop 7 all, refl)
all_are_there MissingSpace = (take 7 all, drop 8 all, refl)
all_are_there MissingDescription = (take 8 all, drop 9 all, refl)
all_are_there MissingAlternative = (take 9 all, drop 10 all, refl)
all_are_there NestedTooDeep = (take 10 all, drop 11 all, refl)
all_are_there SeveralDescriptions = (take 11 all, drop 12 all, refl)
all_are_there OptionalItem = (take 12 all, drop 13 all, refl)
all_are_there FirstItem = (take 13 all, drop 14 all, refl)
all_are_there UnsupportedFlag = (take 14 all, drop 15 all, refl)
all_are_there UnsupportedLetter = (take 15 all, drop 16 all, refl)
all_are_there NestedInComponent = (take 16 all, drop 17 all, refl)
all_are_there DuplicateModifier = (take 17 all, drop 18 all, refl)
all_are_there RefusedModifier = (take 18 all, drop 19 all, refl)
