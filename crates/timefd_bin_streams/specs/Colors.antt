-- Whether a terminal shows colours.
use Rattle.std.specs.Prelude.{ℕ, ◌≡◌, ◌==◌, ◌&&◌, Bool, true, false, not, List, Result, Ok, Err, String, codes, length, bytes_eq, string_bytes}
use Rattle.std.specs.declared.alloc.Global.{Global}
use Rattle.std.specs.declared.env.VarError.{VarError}
use Rattle.std.specs.declared.env.VarError.TheVariants.{NotPresent, NotUnicode, OutOfMemory}

abbrev pub Text : Type 0
Text = List ℕ

-- A variable has a value that isn't empty. One whose value isn't known has.
abbrev pub is_set : Result (String Global) VarError → Bool
is_set (Ok value) = not (length (string_bytes value) == 0)
is_set (Err NotPresent) = false
is_set (Err NotUnicode) = true
is_set (Err OutOfMemory) = true

-- A variable names a terminal without colours.
abbrev pub is_dumb : Result (String Global) VarError → Bool
is_dumb (Ok value) = bytes_eq (string_bytes value) (codes "dumb")
is_dumb (Err error) = false

-- Colours are shown unless `NO_COLOR` is set, or `TERM` is `dumb`.
abbrev pub AreShown : (Text → Result (String Global) VarError → Type 0) → Bool → Type 0
AreShown have shown = (no_color : Result (String Global) VarError) × have (codes "NO_COLOR") no_color
    × ((term : Result (String Global) VarError) × have (codes "TERM") term
    × (shown ≡ (not (is_set no_color) && not (is_dumb term))))
