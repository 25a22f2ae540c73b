-- The brackets that are open, the innermost one last.
use Rattle.std.specs.Prelude.{ℕ, ◌+◌, ◌-◌, ◌^◌, min, Bool, not, ◌&&◌, ◌||◌, if◌then◌else◌, List, [], ◌∷◌, ◌++◌, codes, bytes_eq, length}
use Rattle.std.specs.Prelude.{take, Option, Some, None}
use Rattle.std.specs.List.{slice_get}
use Rattle.timefd_lint_scan.specs.declared.alias.Alias.{Alias}
use Rattle.timefd_lint_scan.specs.declared.calls.OpenBracket.{OpenBracket}
use Rattle.timefd_lint_scan.specs.declared.own_call.OwnCall.{OwnCall}
use Rattle.timefd_lint_scan.specs.declared.piece.PlacedToken.{PlacedToken}
use Rattle.timefd_lint_scan.specs.declared.uses.Use.{Use}
use Rattle.timefd_lint_scan.specs.Bytes.{Text}
use Rattle.timefd_lint_scan.specs.Flows.{entered, may_enter, opened, settled}
use Rattle.timefd_lint_scan.specs.Words.{is_closing, is_opening, text_at, text_after}

abbrev pub innermost : List OpenBracket → Option OpenBracket
innermost frames = slice_get frames (length frames - 1)

abbrev pub but_last : List OpenBracket → List OpenBracket
but_last frames = take (length frames - 1) frames

-- the number after another, up to the largest
abbrev pub next_argument : ℕ → ℕ
next_argument argument = min (argument + 1) (2 ^ 64 - 1)

abbrev pub with_comma : OpenBracket → OpenBracket
with_comma frame = settled (record frame { argument = next_argument frame.argument })

-- Another statement, arm or argument begins after a block that no `else` follows.
abbrev pub is_end : Text → List PlacedToken → ℕ → Bool
is_end source ps i =
    bytes_eq (text_at source ps i) (codes "}") && not (bytes_eq (text_after source ps i 1) (codes "else"))

-- A token that doesn't open a bracket may change the innermost one.
abbrev pub may_change : Text → List PlacedToken → ℕ → Bool
may_change source ps i =
    bytes_eq (text_at source ps i) (codes ",") || is_end source ps i || may_enter source ps i

-- the innermost bracket after a token that doesn't open one
abbrev pub after_token : Text → List PlacedToken → List Use → ℕ → OpenBracket → OpenBracket
after_token source ps us i frame =
    if bytes_eq (text_at source ps i) (codes ",") then with_comma frame
    else if is_closing (text_at source ps i) then (if is_end source ps i then settled frame else frame)
    else entered source ps us i frame

abbrev pub with_innermost : Text → List PlacedToken → List Use → ℕ → List OpenBracket → Option OpenBracket → List OpenBracket
with_innermost source ps us i frames None = frames
with_innermost source ps us i frames (Some frame) = frames ++ after_token source ps us i frame ∷ []

-- the brackets, with the innermost one as it is after a token
abbrev pub replaced : Text → List PlacedToken → List Use → ℕ → List OpenBracket → List OpenBracket
replaced source ps us i frames = with_innermost source ps us i (but_last frames) (innermost frames)

-- the brackets that are open after a token, with these aliases, calls of the project and uses of names
abbrev pub passed : Text → List PlacedToken → List Alias → List OwnCall → List Use → ℕ → List OpenBracket → List OpenBracket
passed source ps aliases own us i frames =
    if is_opening (text_at source ps i) then frames ++ opened source ps aliases own i (innermost frames) ∷ []
    else if is_closing (text_at source ps i) then replaced source ps us i (but_last frames)
    else replaced source ps us i frames
