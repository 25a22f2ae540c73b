-- Where the value of an expression goes: to the call, the name or the bracket that it is passed to.
use Rattle.std.specs.Prelude.{ℕ, ◌-◌, Bool, not, ◌&&◌, ◌||◌, if◌then◌else◌, List, codes, bytes_eq, Option, Some, None}
use Rattle.std.specs.Option.{option_or}
use Rattle.timefd_lint_scan.specs.declared.alias.Alias.{Alias}
use Rattle.timefd_lint_scan.specs.declared.calls.Call.{Call}
use Rattle.timefd_lint_scan.specs.declared.calls.Call.TheVariants.{Macro, First, Owned, Second, Format, Own, Other}
use Rattle.timefd_lint_scan.specs.declared.calls.OpenBracket.{OpenBracket}
use Rattle.timefd_lint_scan.specs.declared.own_call.OwnCall.{OwnCall}
use Rattle.timefd_lint_scan.specs.declared.piece.PlacedToken.{PlacedToken}
use Rattle.timefd_lint_scan.specs.declared.known.Known.{Known}
use Rattle.timefd_lint_scan.specs.declared.uses.Use.{Use}
use Rattle.timefd_lint_scan.specs.Arguments.{known_by_call}
use Rattle.timefd_lint_scan.specs.Bytes.{Text}
use Rattle.timefd_lint_scan.specs.OwnCalls.{call_at}
use Rattle.timefd_lint_scan.specs.Uses.{known_by_name}
use Rattle.timefd_lint_scan.specs.Values.{is_operator, is_value}
use Rattle.timefd_lint_scan.specs.Words.{is_word_at, text_at, text_before, text_after}

-- what is known about a value that is a whole argument, or the last one of a block
abbrev pub reported_of_value : OpenBracket → Option Known
reported_of_value frame = option_or (known_by_call frame.call frame.argument) frame.passes

-- a bracket after the end of a statement, an arm or an argument
abbrev pub settled : OpenBracket → OpenBracket
settled frame = record frame { pending = reported_of_value frame; name = None }

abbrev pub with_pending : OpenBracket → Option Known → OpenBracket
with_pending frame pending = record frame { pending = pending; name = None }

-- A colon is followed by a type, or the value of a field: nothing is known about it.
abbrev pub after_colon : Text → List PlacedToken → ℕ → OpenBracket → OpenBracket
after_colon source ps i frame =
    if bytes_eq (text_before source ps i 1) (codes ":") || bytes_eq (text_after source ps i 1) (codes ":") then frame
    else record frame { pending = None }

abbrev pub assigned_to : Text → List PlacedToken → List Use → ℕ → Option Known → Option ℕ → Option Known
assigned_to source ps us i pending (Some name) = known_by_name source ps name us
assigned_to source ps us i pending None = if is_word_at ps (i - 1) then None else pending

-- What is known about the value after an equals sign: what is known about the name before it; nothing if
-- something else is assigned to; and for a value that a pattern is compared with, what is known about the
-- whole expression.
abbrev pub assigned : Text → List PlacedToken → List Use → ℕ → OpenBracket → Option Known
assigned source ps us i frame = assigned_to source ps us i frame.pending frame.name

abbrev pub after_equals_sign : Text → List PlacedToken → List Use → ℕ → OpenBracket → OpenBracket
after_equals_sign source ps us i frame =
    if bytes_eq (text_after source ps i 1) (codes ">") then settled frame
    else if bytes_eq (text_after source ps i 1) (codes "=") || is_operator (text_before source ps i 1) then frame
    else with_pending frame (assigned source ps us i frame)

-- A `let` after this token belongs to a condition.
abbrev pub is_condition : Text → Bool
is_condition text =
    bytes_eq text (codes "if") || bytes_eq text (codes "while") || bytes_eq text (codes "&")

-- A token is the name of a constant, or of a variable.
abbrev pub names_value : Text → List PlacedToken → ℕ → Bool
names_value source ps i =
    bytes_eq (text_before source ps i 1) (codes "const") || bytes_eq (text_before source ps i 1) (codes "static")
    || (bytes_eq (text_before source ps i 1) (codes "let") && not (is_condition (text_before source ps i 2)))

-- The bracket after `let`, the name of an item or of a variable, and `in`.
abbrev pub after_word : Text → List PlacedToken → List Use → ℕ → OpenBracket → OpenBracket
after_word source ps us i frame =
    if bytes_eq (text_at source ps i) (codes "let") && not (is_condition (text_before source ps i 1)) then
    with_pending frame None
    else if bytes_eq (text_before source ps i 1) (codes "fn") then with_pending frame (known_by_name source ps i us)
    else if names_value source ps i then record frame { pending = None; name = Some i }
    else if bytes_eq (text_at source ps i) (codes "in") && bytes_eq (text_before source ps i 2) (codes "for") then
    with_pending frame (known_by_name source ps (i - 1) us)
    else frame

-- A token that is neither a bracket nor a comma may change what is known in the bracket that it is in.
abbrev pub may_enter : Text → List PlacedToken → ℕ → Bool
may_enter source ps i =
    bytes_eq (text_at source ps i) (codes ";") || bytes_eq (text_at source ps i) (codes ":")
    || bytes_eq (text_at source ps i) (codes "=") || bytes_eq (text_at source ps i) (codes "let")
    || bytes_eq (text_at source ps i) (codes "in") || bytes_eq (text_before source ps i 1) (codes "fn")
    || names_value source ps i

-- the innermost bracket after a token that neither opens nor closes one and isn't a comma
abbrev pub entered : Text → List PlacedToken → List Use → ℕ → OpenBracket → OpenBracket
entered source ps us i frame =
    if bytes_eq (text_at source ps i) (codes ";") then settled frame
    else if bytes_eq (text_at source ps i) (codes ":") then after_colon source ps i frame
    else if bytes_eq (text_at source ps i) (codes "=") then after_equals_sign source ps us i frame
    else after_word source ps us i frame

-- Functions and methods that pass on the text they get: translated, instead of one that is missing, or as another type.
abbrev pub is_handing_on : Text → Bool
is_handing_on name =
    bytes_eq name (codes "gettext") || bytes_eq name (codes "unwrap_or") || bytes_eq name (codes "unwrap_or_else")
    || bytes_eq name (codes "from") || bytes_eq name (codes "Borrowed")

-- The round bracket that a token opens only groups a value, or is a call that passes it on.
abbrev pub is_group : Text → List PlacedToken → ℕ → Bool
is_group source ps i =
    is_handing_on (text_before source ps i 1)
    || not (is_word_at ps (i - 1) || bytes_eq (text_before source ps i 1) (codes ")")
    || bytes_eq (text_before source ps i 1) (codes "]")
    || (bytes_eq (text_before source ps i 1) (codes ">") && not (bytes_eq (text_before source ps i 2) (codes "=")))
    || bytes_eq (text_before source ps i 1) (codes "!") || bytes_eq (text_before source ps i 1) (codes "?"))

-- The square bracket that a token opens is an array or a `vec![..]`.
abbrev pub is_array : Text → List PlacedToken → ℕ → Bool
is_array source ps i =
    (bytes_eq (text_before source ps i 1) (codes "!") && bytes_eq (text_before source ps i 2) (codes "vec"))
    || bytes_eq (text_before source ps i 1) (codes "in")
    || not (is_word_at ps (i - 1) || bytes_eq (text_before source ps i 1) (codes ")")
    || bytes_eq (text_before source ps i 1) (codes "]") || bytes_eq (text_before source ps i 1) (codes "#")
    || bytes_eq (text_before source ps i 1) (codes "!") || bytes_eq (text_before source ps i 1) (codes "?"))

-- The value of the bracket that a token opens is one of the values inside. This isn't so for a macro.
abbrev pub is_around_values : Text → List PlacedToken → ℕ → Bool
is_around_values source ps i =
    if bytes_eq (text_at source ps i) (codes "(") then is_group source ps i
    else if bytes_eq (text_at source ps i) (codes "[") then is_array source ps i
    else not (bytes_eq (text_before source ps i 1) (codes "!"))

abbrev pub pending_of : Option OpenBracket → Option Known
pending_of None = None
pending_of (Some frame) = frame.pending

-- what is known about the values in a bracket because of what the bracket is in: nothing if it holds the
-- arguments of a known call
abbrev pub passed_into : Text → List PlacedToken → ℕ → Call → Option OpenBracket → Option Known
passed_into source ps i Macro outer = None
passed_into source ps i (First dialect) outer = None
passed_into source ps i (Owned dialect) outer = None
passed_into source ps i (Second dialect) outer = None
passed_into source ps i Format outer = None
passed_into source ps i (Own dialect number) outer = None
passed_into source ps i Other outer = if is_around_values source ps i then pending_of outer else None

abbrev pub begun : ℕ → Call → Option Known → OpenBracket
begun i call passes = record {
  opened = i;
  call = call;
  argument = 0;
  passes = passes;
  pending = None;
  name = None;
}

-- the bracket that a token opens, inside of another one
abbrev pub opened : Text → List PlacedToken → List Alias → List OwnCall → ℕ → Option OpenBracket → OpenBracket
opened source ps aliases own i outer =
    settled (begun i (call_at source ps aliases own i) (passed_into source ps i (call_at source ps aliases own i) outer))

-- the frame around all brackets of a source
abbrev pub outermost : OpenBracket
outermost = begun 0 Other None

-- what is known about a token that is a whole value, because of what the value is passed to
abbrev pub known_of : Text → List PlacedToken → ℕ → Option OpenBracket → Option Known
known_of source ps i frame = if is_value source ps i then pending_of frame else None
