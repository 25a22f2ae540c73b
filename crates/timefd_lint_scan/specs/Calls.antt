-- Calls whose arguments are descriptions.
use Rattle.std.specs.Prelude.{ℕ, Bool, not, ◌&&◌, ◌||◌, if◌then◌else◌, List, codes, bytes_eq, Option, Some, None}
use Rattle.timefd_lint_scan.specs.declared.alias.Alias.{Alias}
use Rattle.timefd_lint_scan.specs.declared.calls.Call.{Call}
use Rattle.timefd_lint_scan.specs.declared.calls.Call.TheVariants.{Macro, First, Owned, Second, Format, Other}
use Rattle.timefd_lint_scan.specs.declared.dialect.FormatLanguage.{FormatLanguage}
use Rattle.timefd_lint_scan.specs.declared.dialect.FormatLanguage.TheVariants.{One, Strftime, Chrono, Jiff}
use Rattle.timefd_lint_scan.specs.declared.piece.PlacedToken.{PlacedToken}
use Rattle.timefd_lint_scan.specs.Bytes.{Text}
use Rattle.timefd_lint_scan.specs.Dialects.{version_named}
use Rattle.timefd_lint_scan.specs.Aliases.{original_of, real_name}
use Rattle.timefd_lint_scan.specs.Words.{position_at, text_before, text_of}

-- `format_description!`
abbrev pub macro_named : Text → Call
macro_named name = if bytes_eq name (codes "format_description") then Macro else Other

-- `parse_borrowed`, `parse_owned`: their version may follow them
abbrev pub takes_version : Text → Bool
takes_version name = bytes_eq name (codes "parse_borrowed") || bytes_eq name (codes "parse_owned")

-- `parse_owned` makes an owned description, which may have items that the others refuse.
abbrev pub parser_named : Text → FormatLanguage → Call
parser_named name dialect = if bytes_eq name (codes "parse_owned") then Owned dialect else First dialect

abbrev pub is_of_strftime : Text → Bool
is_of_strftime name =
    bytes_eq name (codes "parse_strftime_borrowed") || bytes_eq name (codes "parse_strftime_owned")

abbrev pub is_of_chrono : Text → Bool
is_of_chrono name =
    bytes_eq name (codes "parse_from_str") || bytes_eq name (codes "datetime_from_str")
    || bytes_eq name (codes "parse_and_remainder")

abbrev pub call_named : Text → Call
call_named name =
    if takes_version name then parser_named name One
    else if is_of_strftime name then First Strftime
    else if is_of_chrono name then Second Chrono
    else Other

-- `.format(`, `.format_localized(`, `.strftime(`, `.datetime_from_str(`
abbrev pub method_named : Text → Call
method_named name =
    if bytes_eq name (codes "format") then Format
    else if bytes_eq name (codes "format_localized") then First Chrono
    else if bytes_eq name (codes "strftime") then First Jiff
    else if is_of_chrono name then Second Chrono
    else Other

abbrev pub is_type_of_chrono : Text → Bool
is_type_of_chrono name =
    bytes_eq name (codes "DateTime") || bytes_eq name (codes "NaiveDateTime")
    || bytes_eq name (codes "NaiveDate") || bytes_eq name (codes "NaiveTime")

abbrev pub is_new : Text → Bool
is_new name =
    bytes_eq name (codes "new") || bytes_eq name (codes "new_lenient") || bytes_eq name (codes "new_with_locale")

abbrev pub is_items_of_chrono : Text → Bool
is_items_of_chrono name =
    bytes_eq name (codes "StrftimeItems") || bytes_eq name (codes "ChronoLocal")
    || bytes_eq name (codes "ChronoUtc")

abbrev pub is_of_strtime : Text → Bool
is_of_strtime name = bytes_eq name (codes "format") || bytes_eq name (codes "parse")

abbrev pub is_of_broken_time : Text → Bool
is_of_broken_time name = bytes_eq name (codes "parse") || bytes_eq name (codes "parse_prefix")

-- `Zoned::strptime(`, `strtime::format(`, `BrokenDownTime::parse(`
abbrev pub is_of_jiff : Text → Text → Bool
is_of_jiff name path =
    (bytes_eq name (codes "strptime") && not (bytes_eq path (codes "time")))
    || (is_of_strtime name && bytes_eq path (codes "strtime"))
    || (is_of_broken_time name && bytes_eq path (codes "BrokenDownTime"))

-- `format_description::parse(`, `DateTime::format(`, `StrftimeItems::new(`
abbrev pub call_in_module : Text → Text → Call
call_in_module name path =
    if bytes_eq name (codes "parse") && bytes_eq path (codes "format_description") then First One
    else if bytes_eq name (codes "format") && is_type_of_chrono path then Second Chrono
    else if is_new name && is_items_of_chrono path then First Chrono
    else if is_of_jiff name path then First Jiff
    else call_named name

-- `parse` is only ever imported from the module of `time`.
abbrev pub call_imported : Text → Call
call_imported name = if bytes_eq name (codes "parse") then First One else call_named name

abbrev pub bare_by : Text → Text → Option PlacedToken → Call
bare_by source name None = call_named name
bare_by source name (Some original) = call_imported (text_of source original)

-- a call by a bare name, which may be imported
abbrev pub bare_call : Text → Text → ℕ → List Alias → Call
bare_call source name position aliases = bare_by source name (original_of source name position aliases)

abbrev pub parser_by : Text → Option FormatLanguage → Call
parser_by name None = Other
parser_by name (Some dialect) = parser_named name dialect

-- `::<2>(`
abbrev pub is_turbofish : Text → List PlacedToken → ℕ → Bool
is_turbofish source ps i = bytes_eq (text_before source ps i 3) (codes "<")
    && bytes_eq (text_before source ps i 4) (codes ":")
    && bytes_eq (text_before source ps i 5) (codes ":")

abbrev pub with_version : Text → List PlacedToken → ℕ → Text → Call
with_version source ps i name =
    if is_turbofish source ps i && takes_version name then
    parser_by name (version_named (text_before source ps i 2))
    else Other

-- `parse_borrowed::<2>(`
abbrev pub call_with_version : Text → List PlacedToken → List Alias → ℕ → Call
call_with_version source ps aliases i =
    with_version source ps i (real_name source (text_before source ps i 6) (position_at ps i) aliases)

abbrev pub is_after_path : Text → List PlacedToken → ℕ → Bool
is_after_path source ps i =
    bytes_eq (text_before source ps i 2) (codes ":") && bytes_eq (text_before source ps i 3) (codes ":")

-- `<NaiveDate>::format(`, but not `Wrapped::<NaiveDate>::format(`
abbrev pub is_after_type : Text → List PlacedToken → ℕ → Bool
is_after_type source ps i =
    bytes_eq (text_before source ps i 4) (codes ">") && bytes_eq (text_before source ps i 6) (codes "<")
    && not (bytes_eq (text_before source ps i 7) (codes ":"))

-- the type or module before `::` and a call's name
abbrev pub path_before : Text → List PlacedToken → ℕ → Text
path_before source ps i =
    if is_after_type source ps i then text_before source ps i 5 else text_before source ps i 4

-- the call whose arguments are in the bracket that this token opens, with these aliases declared
abbrev pub call_of : Text → List PlacedToken → List Alias → ℕ → Call
call_of source ps aliases i =
    if bytes_eq (text_before source ps i 1) (codes "!") then
    macro_named (real_name source (text_before source ps i 2) (position_at ps i) aliases)
    else if bytes_eq (text_before source ps i 1) (codes ">") then call_with_version source ps aliases i
    else if is_after_path source ps i then
    call_in_module (text_before source ps i 1) (real_name source (path_before source ps i) (position_at ps i) aliases)
    else if bytes_eq (text_before source ps i 2) (codes ".") then method_named (text_before source ps i 1)
    else bare_call source (text_before source ps i 1) (position_at ps i) aliases
