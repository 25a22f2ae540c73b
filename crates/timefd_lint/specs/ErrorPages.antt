-- What each error means, and what to write instead.
use Rattle.std.specs.Prelude.{codes}
use Rattle.timefd_parse.specs.Tree.{Text}
use Rattle.timefd_parse.specs.Code.{Code}
use Rattle.timefd_parse.specs.Code.TheVariants as faults
use Rattle.timefd_lint.specs.declared.error_code.ErrorCode.{ErrorCode}
use Rattle.timefd_lint.specs.declared.error_code.ErrorCode.TheVariants.{Fault, NotText, Unreadable, Unwritable, ByteOrderMark, UnknownLanguage, UnknownCode}

abbrev pub fault_summary : Code → Text
fault_summary faults.UnclosedBracket = codes "a bracket that isn't closed"
fault_summary faults.UnknownName = codes "a name that no component has"
fault_summary faults.InvalidModifier = codes "a modifier that the component doesn't take"
fault_summary faults.MissingName = codes "a bracket without a name"
fault_summary faults.MissingModifier = codes "a component without a modifier that it needs"
fault_summary faults.InvalidEscape = codes "an escape that isn't one"
fault_summary faults.UnescapedBracket = codes "a closing bracket that closes nothing"
fault_summary faults.MissingSpace = codes "no space before a nested description"
fault_summary faults.MissingDescription = codes "`optional` without a description"
fault_summary faults.MissingAlternative = codes "`first` without an alternative"
fault_summary faults.NestedTooDeep = codes "descriptions nested too deep"
fault_summary faults.SeveralDescriptions = codes "`optional` with more than one description"
fault_summary faults.OptionalItem = codes "`optional` before version 3"
fault_summary faults.FirstItem = codes "`first` before version 3"
fault_summary faults.UnsupportedFlag = codes "a flag that isn't read"
fault_summary faults.UnsupportedLetter = codes "a letter that isn't read"
fault_summary faults.NestedInComponent = codes "a description nested in a component"
fault_summary faults.DuplicateModifier = codes "a key that is given twice"
fault_summary faults.RefusedModifier = codes "a modifier that another one refuses"

-- what an error is, in a few words
abbrev pub summary : ErrorCode → Text
summary (Fault code) = fault_summary code
summary NotText = codes "bytes that aren't UTF-8"
summary Unreadable = codes "a file that can't be read"
summary Unwritable = codes "a file that can't be replaced"
summary ByteOrderMark = codes "a byte-order mark before the first line"
summary UnknownLanguage = codes "a comment that names no language"
summary UnknownCode = codes "a comment that allows what isn't an error or a warning"

abbrev pub fault_explanation : Code → Text
fault_explanation faults.UnclosedBracket =
    codes
    "`due [day` ends inside a bracket. Write `due [day]`. For a bracket as text write `[[` in version 1, `\\[` in versions 2 and 3."
fault_explanation faults.UnknownName =
    codes
    "`[mnth]` isn't a component. Write `[month]`: the help has the nearest name. In strftime no directive has the letter."
fault_explanation faults.InvalidModifier =
    codes
    "`[day padding:zro]` has a value that `padding` doesn't take. Write `[day padding:zero]`: the help has all keys or values. A word without a colon isn't a modifier."
fault_explanation faults.MissingName =
    codes
    "`[]` isn't a component. Write a name. For a bracket as text write `[[` in version 1, `\\[` in versions 2 and 3."
fault_explanation faults.MissingModifier =
    codes
    "`[ignore]` doesn't say how many bytes it skips. Write `[ignore count:2]`."
fault_explanation faults.InvalidEscape =
    codes
    "`a\\b` has a backslash before a letter; versions 2 and 3 allow it only before a bracket or a backslash. Write `a\\\\b`. In strftime write a percent sign as `%%`."
fault_explanation faults.UnescapedBracket =
    codes
    "`[day]]` has one bracket too many. Leave it out, or write `[day]\\]` where it is text."
fault_explanation faults.MissingSpace = codes "`[optional[day]]` lacks a space. Write `[optional [day]]`."
fault_explanation faults.MissingDescription =
    codes
    "`[optional]` has nothing that is optional. Put it into brackets: `[optional [[day]]]`."
fault_explanation faults.MissingAlternative =
    codes
    "`[first]` has nothing to choose from. Put each alternative into brackets: `[first [[day]] [[month]]]`."
fault_explanation faults.NestedTooDeep = codes "Descriptions are nested deeper than version 3 allows. Nest fewer."
fault_explanation faults.SeveralDescriptions =
    codes
    "`[optional [a] [b]]` has two. Put all into one pair of brackets: `[optional [ab]]`."
fault_explanation faults.OptionalItem =
    codes
    "In versions 1 and 2 `parse` and `parse_borrowed` refuse `[optional [x]]`; `format_description!` and `parse_owned` take it. Leave it out, call one of these, or use version 3."
fault_explanation faults.FirstItem =
    codes
    "In versions 1 and 2 `parse` and `parse_borrowed` refuse `[first [x]]`; `format_description!` and `parse_owned` take it. Leave it out, call one of these, or use version 3."
fault_explanation faults.UnsupportedFlag = codes "`%Od` has the flag `O`. Leave it out: write `%d`."
fault_explanation faults.UnsupportedLetter = codes "`%Z` is the name of a time zone. Write `%z`, the offset from UTC."
fault_explanation faults.NestedInComponent =
    codes
    "`[day [x]]` has text inside a component. Leave it out, or write it after the bracket: `[day]x`."
fault_explanation faults.DuplicateModifier =
    codes
    "`[day padding:zero padding:none]` has `padding` twice. Leave one out. In versions 1 and 2 the last one counts."
fault_explanation faults.RefusedModifier =
    codes
    "`[month repr:long padding:none]` pads a name. Leave `padding` out, or write `repr:numerical`."

-- what an error means, with an example, and what to write instead
abbrev pub explanation : ErrorCode → Text
explanation (Fault code) = fault_explanation code
explanation NotText = codes "Save the file as UTF-8. The other lines are looked at."
explanation Unreadable =
    codes
    "The message says why: there is no such file, it is a folder, or you may not read it. The other files are looked at."
explanation Unwritable =
    codes
    "The new text is written to `FILE.timefd_lint`, which then takes the file's place. Remove that file if an earlier run has left it, and see that you may write in its folder. The old file is as it was."
explanation ByteOrderMark =
    codes
    "Save the file without it. It is a literal of the first description, and hides a comment mark."
explanation UnknownLanguage =
    codes
    "`// timefd: strftme` names no language, and checks nothing. Write one of 1, 2, 3, strftime, python, c, gnu, chrono, jiff, ruby, java, go and moment."
explanation UnknownCode =
    codes
    "`// timefd: allow unknwn-name` names no error and no warning of a format, and allows nothing. Write the codes that reports show, with commas or spaces between them."
