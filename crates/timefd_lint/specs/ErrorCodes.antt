-- The names of errors.
use Rattle.std.specs.Prelude.{◌≡◌, Option, Some, None, codes, bytes_eq, if◌then◌else◌}
use Rattle.timefd_parse.specs.Tree.{Text}
use Rattle.timefd_parse.specs.Code.{Code}
use Rattle.timefd_parse.specs.Code.TheVariants as faults
use Rattle.timefd_parse.specs.Codes as of_faults
use Rattle.timefd_lint.specs.declared.error_code.ErrorCode.{ErrorCode}
use Rattle.timefd_lint.specs.declared.error_code.ErrorCode.TheVariants.{Fault, NotText, Unreadable, Unwritable, ByteOrderMark, UnknownLanguage, UnknownCode}

abbrev pub name_of : ErrorCode → Text
name_of (Fault code) = of_faults.name_of code
name_of NotText = codes "not-text"
name_of Unreadable = codes "unreadable"
name_of Unwritable = codes "unwritable"
name_of ByteOrderMark = codes "byte-order-mark"
name_of UnknownLanguage = codes "unknown-language"
name_of UnknownCode = codes "unknown-code"

-- the code of the fault with this name
abbrev pub fault_named : Text → Option Code
fault_named name =
    if bytes_eq name (codes "unclosed-bracket") then Some faults.UnclosedBracket
    else if bytes_eq name (codes "unknown-name") then Some faults.UnknownName
    else if bytes_eq name (codes "invalid-modifier") then Some faults.InvalidModifier
    else if bytes_eq name (codes "missing-name") then Some faults.MissingName
    else if bytes_eq name (codes "missing-modifier") then Some faults.MissingModifier
    else if bytes_eq name (codes "invalid-escape") then Some faults.InvalidEscape
    else if bytes_eq name (codes "unescaped-bracket") then Some faults.UnescapedBracket
    else if bytes_eq name (codes "missing-space") then Some faults.MissingSpace
    else if bytes_eq name (codes "missing-description") then Some faults.MissingDescription
    else if bytes_eq name (codes "missing-alternative") then Some faults.MissingAlternative
    else if bytes_eq name (codes "nested-too-deep") then Some faults.NestedTooDeep
    else if bytes_eq name (codes "several-descriptions") then Some faults.SeveralDescriptions
    else if bytes_eq name (codes "optional-item") then Some faults.OptionalItem
    else if bytes_eq name (codes "first-item") then Some faults.FirstItem
    else if bytes_eq name (codes "unsupported-flag") then Some faults.UnsupportedFlag
    else if bytes_eq name (codes "unsupported-letter") then Some faults.UnsupportedLetter
    else if bytes_eq name (codes "nested-in-component") then Some faults.NestedInComponent
    else if bytes_eq name (codes "duplicate-modifier") then Some faults.DuplicateModifier
    else if bytes_eq name (codes "refused-modifier") then Some faults.RefusedModifier
    else None

abbrev pub of_fault : Option Code → Option ErrorCode
of_fault None = None
of_fault (Some code) = Some (Fault code)

-- the code of the error with this name
abbrev pub named : Text → Option ErrorCode
named name =
    if bytes_eq name (codes "not-text") then Some NotText
    else if bytes_eq name (codes "unreadable") then Some Unreadable
    else if bytes_eq name (codes "unwritable") then Some Unwritable
    else if bytes_eq name (codes "byte-order-mark") then Some ByteOrderMark
    else if bytes_eq name (codes "unknown-language") then Some UnknownLanguage
    else if bytes_eq name (codes "unknown-code") then Some UnknownCode
    else of_fault (fault_named name)

-- Each name of an error is read back as its code.
abbrev pub NamesAreRead : Type 0
NamesAreRead = (code : ErrorCode) → named (name_of code) ≡ Some code
