-- The calls that take a description and have no number for its version.
use Rattle.std.specs.Prelude.{ℕ, ◌-◌, codes, length, take, nat_eq, if◌then◌else◌, Option, Some, None}
use Rattle.std.specs.Char.{is_ascii_whitespace}
use Rattle.std.specs.List.{ends_with, suffix_len}
use Rattle.timefd_parse.specs.Tree.{Text}
use Rattle.timefd_lint.specs.declared.manual.call.UnversionedCall.{UnversionedCall}
use Rattle.timefd_lint.specs.declared.manual.call.UnversionedCall.TheVariants.{Parse, ParseBorrowed, ParseOwned}

abbrev pub name : UnversionedCall → Text
name Parse = codes "parse"
name ParseBorrowed = codes "parse_borrowed"
name ParseOwned = codes "parse_owned"

-- the call that does the same, and takes a number
abbrev pub numbered : UnversionedCall → Text
numbered Parse = codes "parse_borrowed"
numbered ParseBorrowed = codes "parse_borrowed"
numbered ParseOwned = codes "parse_owned"

-- a text without the white space at its end
abbrev pub trimmed : Text → Text
trimmed text = take (length text - suffix_len is_ascii_whitespace text) text

-- the call whose name ends a text
abbrev pub call_named : Text → Option UnversionedCall
call_named text = if ends_with nat_eq text (codes "parse_borrowed") then Some ParseBorrowed
    else if ends_with nat_eq text (codes "parse_owned") then Some ParseOwned
    else if ends_with nat_eq text (codes "parse") then Some Parse else None

-- the call whose opening bracket ends a text
abbrev pub call_opened : Text → Option UnversionedCall
call_opened text =
    if ends_with nat_eq text (codes "(") then call_named (trimmed (take (length text - 1) text)) else None

-- the call whose opening bracket comes right before a position, white space aside
abbrev pub call_before : Text → ℕ → Option UnversionedCall
call_before source at = call_opened (trimmed (take at source))
