-- What a bracket says about a token in it: whether it is a description, in which language, and where the
-- source says so.
use Rattle.std.specs.Prelude.{ℕ, ◌+◌, ◌-◌, ◌==◌, Bool, true, false, not, ◌&&◌, ◌||◌, nat_eq, nat_le, if◌then◌else◌, List, codes, bytes_eq, Option, Some, None}
use Rattle.std.specs.List.{slice_get}
use Rattle.timefd_lint_scan.specs.declared.calls.Call.{Call}
use Rattle.timefd_lint_scan.specs.declared.calls.Call.TheVariants.{Macro, First, Owned, Second, Format, Own, Other}
use Rattle.timefd_lint_scan.specs.declared.calls.OpenBracket.{OpenBracket}
use Rattle.timefd_lint_scan.specs.declared.known.Items.{Items}
use Rattle.timefd_lint_scan.specs.declared.known.Items.TheVariants.{Taken, Refused}
use Rattle.timefd_lint_scan.specs.declared.known.Known.{Known}
use Rattle.timefd_lint_scan.specs.declared.dialect.FormatLanguage.{FormatLanguage}
use Rattle.timefd_lint_scan.specs.declared.dialect.FormatLanguage.TheVariants.{One, Chrono}
use Rattle.timefd_lint_scan.specs.declared.piece.PlacedToken.{PlacedToken}
use Rattle.timefd_lint_scan.specs.declared.version.VersionPosition.{VersionPosition}
use Rattle.timefd_lint_scan.specs.declared.version.VersionPosition.TheVariants as positions
use Rattle.timefd_lint_scan.specs.Bytes.{Text}
use Rattle.timefd_lint_scan.specs.Dialects.{version_named}
use Rattle.timefd_lint_scan.specs.Words.{is_closing, is_opening, text_before, text_after}

-- The arguments of a macro begin with its version: `version = `
abbrev pub says_version : Text → List PlacedToken → ℕ → Bool
says_version source ps opening =
    bytes_eq (text_after source ps opening 1) (codes "version")
    && bytes_eq (text_after source ps opening 2) (codes "=")

-- the version of a macro's description: 1 if its arguments don't say one
abbrev pub macro_version : Text → List PlacedToken → ℕ → Option FormatLanguage
macro_version source ps opening =
    if says_version source ps opening then version_named (text_after source ps opening 3) else Some One

-- A token is a whole argument.
abbrev pub is_argument : Text → List PlacedToken → ℕ → Bool
is_argument source ps i =
    (is_opening (text_before source ps i 1) || bytes_eq (text_before source ps i 1) (codes ","))
    && (is_closing (text_after source ps i 1) || bytes_eq (text_after source ps i 1) (codes ","))

-- It is the last argument of its bracket.
abbrev pub is_last : Text → List PlacedToken → ℕ → Bool
is_last source ps i = is_closing (text_after source ps i 1)
    || (bytes_eq (text_after source ps i 1) (codes ",") && is_closing (text_after source ps i 2))

abbrev pub digit_of_piece : Option PlacedToken → VersionPosition
digit_of_piece None = positions.Elsewhere
digit_of_piece (Some p) = positions.Digit p.start

-- the first byte of the token `back` tokens before this one
abbrev pub digit_before : List PlacedToken → ℕ → ℕ → VersionPosition
digit_before ps i back = if nat_le back i then digit_of_piece (slice_get ps (i - back)) else positions.Elsewhere

-- the first byte of the token `ahead` tokens after this one
abbrev pub digit_after : List PlacedToken → ℕ → ℕ → VersionPosition
digit_after ps i ahead = digit_of_piece (slice_get ps (i + ahead))

-- A module follows the version: `version = 2, mod m, T, ".."`
abbrev pub says_module : Text → List PlacedToken → ℕ → Bool
says_module source ps opening = bytes_eq (text_after source ps opening 5) (codes "mod")

-- Where a macro says the version of its description, which is the last argument: nowhere if it is the only
-- one; after `version = ` if the description comes next, or if the macro makes a module of it.
abbrev pub macro_position : Text → List PlacedToken → ℕ → ℕ → VersionPosition
macro_position source ps opening i =
    if not (is_last source ps i) then positions.Call
    else if nat_eq i (opening + 1) then positions.Unsaid
    else if not (says_version source ps opening) then positions.Call
    else if nat_eq i (opening + 5) || says_module source ps opening then digit_after ps opening 3
    else positions.Call

-- Where another call says the version: `parse_borrowed::<2>(`
abbrev pub call_position : Text → List PlacedToken → ℕ → VersionPosition
call_position source ps opening =
    if bytes_eq (text_before source ps opening 1) (codes ">") then digit_before ps opening 2
    else positions.Call

-- the language of the argument with a number; none for the others
abbrev pub dialect_at : ℕ → ℕ → FormatLanguage → Option FormatLanguage
dialect_at argument number dialect = if argument == number then Some dialect else None

-- the language of the argument of a call that is a description
abbrev pub dialect_by : Call → ℕ → Option FormatLanguage → Option FormatLanguage
dialect_by Macro argument version = version
dialect_by (First dialect) argument version = dialect_at argument 0 dialect
dialect_by (Owned dialect) argument version = dialect_at argument 0 dialect
dialect_by (Second dialect) argument version = dialect_at argument 1 dialect
dialect_by Format argument version = dialect_at argument 0 Chrono
dialect_by (Own dialect number) argument version = dialect_at argument number dialect
dialect_by Other argument version = None

-- the language of a token in a bracket; none if it isn't a whole argument, or isn't a description
abbrev pub dialect_in : Text → List PlacedToken → ℕ → OpenBracket → Option FormatLanguage
dialect_in source ps i frame =
    if is_argument source ps i then
    dialect_by frame.call frame.argument (macro_version source ps frame.opened)
    else None

abbrev pub version_position : Text → List PlacedToken → ℕ → OpenBracket → Call → VersionPosition
version_position source ps i frame Macro = macro_position source ps frame.opened i
version_position source ps i frame (First dialect) = call_position source ps frame.opened
version_position source ps i frame (Owned dialect) = call_position source ps frame.opened
version_position source ps i frame (Second dialect) = positions.Elsewhere
version_position source ps i frame Format = positions.Elsewhere
version_position source ps i frame (Own dialect number) = positions.Call
version_position source ps i frame Other = positions.Elsewhere

-- `format` is a common name: its argument is a description only with a `%`.
abbrev pub wants_percent : Call → Bool
wants_percent Macro = false
wants_percent (First dialect) = false
wants_percent (Owned dialect) = false
wants_percent (Second dialect) = false
wants_percent Format = true
wants_percent (Own dialect number) = false
wants_percent Other = false

-- The macro and `parse_owned` take `[optional ..]` and `[first ..]` in versions 1 and 2.
abbrev pub items_in : Call → Items
items_in Macro = Taken
items_in (First dialect) = Refused
items_in (Owned dialect) = Taken
items_in (Second dialect) = Refused
items_in Format = Refused
items_in (Own dialect number) = Refused
items_in Other = Refused

abbrev pub known_of : Text → List PlacedToken → ℕ → OpenBracket → Option FormatLanguage → Option Known
known_of source ps i frame None = None
known_of source ps i frame (Some dialect) = Some (record {
  dialect = dialect;
  items = items_in frame.call;
  version = version_position source ps i frame frame.call;
  wants_percent = wants_percent frame.call;
  call = None;
})

-- what the bracket that a token is in says about it
abbrev pub reported_in : Text → List PlacedToken → ℕ → Option OpenBracket → Option Known
reported_in source ps i None = None
reported_in source ps i (Some frame) = known_of source ps i frame (dialect_in source ps i frame)

abbrev pub reported_as : Call → Option FormatLanguage → Option Known
reported_as call None = None
reported_as call (Some dialect) = Some (record {
  dialect = dialect;
  items = items_in call;
  version = positions.Call;
  wants_percent = wants_percent call;
  call = None;
})

-- what a call says about the value of an argument, however that is written
abbrev pub known_by_call : Call → ℕ → Option Known
known_by_call call argument = reported_as call (dialect_by call argument None)
