-- What faults say that was expected, or isn't supported.
use Rattle.std.specs.Prelude.{codes, []}
use Rattle.timefd_lang_fault.specs.Faults.{Kind, expected, not_supported}

abbrev pub expected_escape : Kind
expected_escape = expected (codes "valid escape sequence")

abbrev pub expected_closing_escape : Kind
expected_closing_escape = expected (codes "right bracket to be escaped")

abbrev pub expected_white : Kind
expected_white = expected (codes "whitespace before nested format description")

abbrev pub expected_nested : Kind
expected_nested = expected (codes "nested format description")

abbrev pub expected_alternative : Kind
expected_alternative = expected (codes "at least one nested format description")

abbrev pub too_highly_nested : Kind
too_highly_nested = not_supported (codes "highly-nested format description") []

abbrev pub many_nested : Kind
many_nested = not_supported (codes "more than one nested format description")
    (codes "`optional` components")

abbrev pub optional_item : Kind
optional_item = not_supported (codes "optional item") (codes "runtime-parsed format descriptions")

abbrev pub first_item : Kind
first_item = not_supported (codes "'first' item") (codes "runtime-parsed format descriptions")

-- the context is `time`'s, and makes a sentence with "in on"
abbrev pub nested_here : Kind
nested_here = not_supported (codes "nested format descriptions") (codes "on this component")

-- of strftime: the flag `O`, and the letter `Z`

abbrev pub unsupported_flag : Kind
unsupported_flag = not_supported (codes "modifier") []

abbrev pub unsupported_letter : Kind
unsupported_letter = not_supported (codes "component") []
