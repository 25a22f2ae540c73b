-- The names of a source that are used instead of descriptions.
use Rattle.std.specs.Prelude.{ℕ, ◌+◌, ◌-◌, Bool, ◌&&◌, ◌||◌, if◌then◌else◌, List, [], ◌∷◌, ◌++◌, codes, bytes_eq, Option, Some, None}
use Rattle.std.specs.List.{slice_get}
use Rattle.std.specs.Option.{option_to_list}
use Rattle.timefd_lint_scan.specs.declared.alias.Alias.{Alias}
use Rattle.timefd_lint_scan.specs.declared.calls.OpenBracket.{OpenBracket}
use Rattle.timefd_lint_scan.specs.declared.own_call.OwnCall.{OwnCall}
use Rattle.timefd_lint_scan.specs.declared.piece.PlacedToken.{PlacedToken}
use Rattle.timefd_lint_scan.specs.declared.known.Known.{Known}
use Rattle.timefd_lint_scan.specs.declared.token.Token.{Token}
use Rattle.timefd_lint_scan.specs.declared.uses.Use.{Use}
use Rattle.timefd_lint_scan.specs.declared.uses.Way.{Way}
use Rattle.timefd_lint_scan.specs.declared.uses.Way.TheVariants.{Value, Call, Part}
use Rattle.timefd_lint_scan.specs.Bytes.{Text}
use Rattle.timefd_lint_scan.specs.Flows.{outermost, pending_of}
use Rattle.timefd_lint_scan.specs.Frames.{innermost, passed}
use Rattle.timefd_lint_scan.specs.UsedParts.{is_changed, is_literal, is_part}
use Rattle.timefd_lint_scan.specs.Uses.{known_by_name}
use Rattle.timefd_lint_scan.specs.Values.{ends_value, is_begun}
use Rattle.timefd_lint_scan.specs.Words.{is_word_token, text_at, text_before, text_after}

-- the token that a name begins with: `F`, `Self::F`, `self.f(`
abbrev pub path_start : Text → List PlacedToken → ℕ → Option ℕ
path_start source ps i =
    if bytes_eq (text_before source ps i 1) (codes ":") then
    (if bytes_eq (text_before source ps i 2) (codes ":") && bytes_eq (text_before source ps i 3) (codes "Self") then
    Some (i - 3) else None)
    else if bytes_eq (text_before source ps i 1) (codes ".") then
    (if bytes_eq (text_before source ps i 2) (codes "self") && bytes_eq (text_after source ps i 1) (codes "(") then
    Some (i - 2) else None)
    else Some i

abbrev pub way_from : Text → List PlacedToken → ℕ → Option ℕ → Option Way
way_from source ps i None = None
way_from source ps i (Some start) =
    if is_begun source ps start then
    (if bytes_eq (text_after source ps i 1) (codes "(") then Some Call
    else if ends_value source ps i then Some Value
    else None)
    else None

-- how a name is used as a value, if it is
abbrev pub way_of : Text → List PlacedToken → ℕ → Option Way
way_of source ps i = way_from source ps i (path_start source ps i)

abbrev pub or_part : Option Way → Bool → Option Way
or_part None is_part = if is_part then Some Part else None
or_part (Some way) is_part = Some way

-- how a name is used, as a value or as a part of one
abbrev pub way_at : Text → List PlacedToken → ℕ → Option Way
way_at source ps i = or_part (way_of source ps i) (is_part source ps i)

-- how a token is used: a name, or a literal that a value begins with
abbrev pub way_by : Text → List PlacedToken → ℕ → Token → Option Way
way_by source ps i token =
    if is_word_token token then way_at source ps i
    else if is_literal token && is_changed source ps i then Some Part
    else None

abbrev pub use_of : PlacedToken → Option Way → Known → Option Use
use_of name None known = None
use_of name (Some way) known =
    Some (record { name = name; way = way; known = record known { call = Some name.start } })

abbrev pub use_reported : Text → List PlacedToken → ℕ → PlacedToken → Option Known → Option Use
use_reported source ps i p None = None
use_reported source ps i p (Some known) = use_of p (way_by source ps i p.token) known

-- the use of the name at a token, with this bracket open
abbrev pub use_at : Text → List PlacedToken → ℕ → PlacedToken → Option OpenBracket → Option Use
use_at source ps i p frame = use_reported source ps i p (pending_of frame)

-- the uses among the tokens from an index on, with these open brackets
abbrev pub in_calls_from : Text → List PlacedToken → List Alias → List OwnCall → ℕ → List PlacedToken → List OpenBracket → List Use
in_calls_from source ps aliases own i [] frames = []
in_calls_from source ps aliases own i (p ∷ rest) frames =
    option_to_list (use_at source ps i p (innermost (passed source ps aliases own [] i frames)))
    ++ in_calls_from source ps aliases own (i + 1) rest (passed source ps aliases own [] i frames)

abbrev pub in_calls : Text → List PlacedToken → List Alias → List OwnCall → List Use
in_calls source ps aliases own = in_calls_from source ps aliases own 0 ps (outermost ∷ [])

abbrev pub piece_after : List PlacedToken → ℕ → ℕ → Option PlacedToken
piece_after ps i ahead = slice_get ps (i + ahead)

-- `in F {`, `in &F {`, `in F.iter() {`
abbrev pub looped_over : Text → List PlacedToken → ℕ → ℕ → ℕ → Option PlacedToken
looped_over source ps i ahead next =
    if bytes_eq (text_after source ps i next) (codes "{") || bytes_eq (text_after source ps i next) (codes ".") then
    piece_after ps i ahead
    else None

-- the name of the list that a loop goes over, which may be borrowed
abbrev pub looped : Text → List PlacedToken → ℕ → Option PlacedToken
looped source ps i =
    if bytes_eq (text_after source ps i 1) (codes "&") then looped_over source ps i 2 3
    else looped_over source ps i 1 2

abbrev pub list_of : Option PlacedToken → Option Known → Option Use
list_of None known = None
list_of (Some name) None = None
list_of (Some name) (Some known) = Some (record { name = name; way = Value; known = known })

abbrev pub is_loop : Text → List PlacedToken → ℕ → Bool
is_loop source ps i =
    bytes_eq (text_at source ps i) (codes "in") && bytes_eq (text_before source ps i 2) (codes "for")

-- The list that a loop goes over by name: what is known about the loop's variable is known about
-- the list.
abbrev pub loop_at : Text → List PlacedToken → List Use → ℕ → Option Use
loop_at source ps us i =
    if is_loop source ps i then
    list_of (looped source ps i) (known_by_name source ps (i - 1) us)
    else None

abbrev pub in_loops_from : Text → List PlacedToken → List Use → ℕ → List PlacedToken → List Use
in_loops_from source ps us i [] = []
in_loops_from source ps us i (p ∷ rest) =
    option_to_list (loop_at source ps us i) ++ in_loops_from source ps us (i + 1) rest

abbrev pub in_loops : Text → List PlacedToken → List Use → List Use
in_loops source ps us = in_loops_from source ps us 0 ps

abbrev pub with_loops : Text → List PlacedToken → List Use → List Use
with_loops source ps us = us ++ in_loops source ps us

-- the uses in known calls, followed by the lists that loops go over
abbrev pub uses_in : Text → List PlacedToken → List Alias → List OwnCall → List Use
uses_in source ps aliases own = with_loops source ps (in_calls source ps aliases own)
