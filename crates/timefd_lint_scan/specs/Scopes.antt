-- Where a name may be used that a token declares.
use Rattle.std.specs.Prelude.{ℕ, ◌+◌, ◌-◌, Bool, true, false, ◌&&◌, ◌==◌, nat_le, if◌then◌else◌, List, [], ◌∷◌, drop}
use Rattle.timefd_lint_scan.specs.declared.piece.PlacedToken.{PlacedToken}
use Rattle.timefd_lint_scan.specs.Bytes.{Text}
use Rattle.timefd_lint_scan.specs.Words.{is_closing, is_opening, position_at, text_of}

-- A block isn't closed before a position. At the first of these tokens, `depth` blocks inside of it are
-- open.
abbrev pub stays_open : Text → ℕ → ℕ → List PlacedToken → Bool
stays_open source position depth [] = true
stays_open source position depth (p ∷ ps) =
    if nat_le position p.start then true
    else if is_opening (text_of source p) then stays_open source position (depth + 1) ps
    else if is_closing (text_of source p) then
    (if depth == 0 then false else stays_open source position (depth - 1) ps)
    else stays_open source position depth ps

-- At `position`, all brackets are closed again that open after the position `from`. At the first of these
-- tokens, `depth` of them are open.
abbrev pub is_outside : Text → ℕ → ℕ → ℕ → List PlacedToken → Bool
is_outside source from position depth [] = depth == 0
is_outside source from position depth (p ∷ ps) =
    if nat_le position p.start then depth == 0
    else if nat_le from p.start && is_opening (text_of source p) then is_outside source from position (depth + 1) ps
    else if is_closing (text_of source p) then is_outside source from position (depth - 1) ps
    else is_outside source from position depth ps

-- The block that a token is in also contains a position, before or after the token.
abbrev pub reaches : Text → List PlacedToken → ℕ → ℕ → Bool
reaches source ps declared position =
    if nat_le (position_at ps declared) position then stays_open source position 0 (drop declared ps)
    else is_outside source position (position_at ps declared) 0 ps
