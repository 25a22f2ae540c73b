-- How a text changes, as a unified diff with three lines of context.
use Rattle.std.specs.Prelude.{ℕ, zero, suc, ◌≡◌, ◌≢◌, ◌+◌, ◌-◌, Bool, not, ◌&&◌, nat_eq, nat_lt, List, [], ◌∷◌, ◌++◌, Option, bytes_eq, codes, decimal, drop, flat_map, length, map, take, if◌then◌else◌}
use Rattle.std.specs.Io.BufRead.{drop_through, ends_with_byte, take_through}
use Rattle.std.specs.Io.KnownBytes.{Appends}
use Rattle.std.specs.List.{list_any}
use Rattle.timefd_parse.specs.Tree.{Text}
use Rattle.timefd_lint_rewrite.specs.declared.pairs.Pair.{Pair}

-- A line, and the line that replaces it.
pub record Line : Type 0 where
  pub old : Text
  pub new : Text

abbrev pub line_of : Pair → Line
line_of pair = record { old = pair.old.now; new = pair.new.now }

abbrev pub lines_of : List Pair → List Line
lines_of pairs = map line_of pairs

-- The lines of two texts side by side, up to the rest of each. There is a line for each of the first text.
abbrev pub AreUpTo : Text → Text → List Line → Text → Text → Type 0
AreUpTo old new [] old_rest new_rest = (old ≡ old_rest) × (new ≡ new_rest)
AreUpTo old new (line ∷ lines) old_rest new_rest =
    (old ≢ []) × (line.old ≡ take_through 10 old) × (line.new ≡ take_through 10 new)
    × AreUpTo (drop_through 10 old) (drop_through 10 new) lines old_rest new_rest

abbrev pub AreSideBySide : Text → Text → List Line → Type 0
AreSideBySide old new lines = (rest : Text) × AreUpTo old new lines [] rest

abbrev pub changes : Line → Bool
changes line = not (bytes_eq line.old line.new)

-- Whether a line is shown: it changes, or one of the three before it or after it does.
abbrev pub is_shown : List Line → ℕ → Bool
is_shown lines at = list_any changes (take (at + 4 - (at - 3)) (drop (at - 3) lines))

-- Lines that are shown in turn are a hunk. It begins at one after a line that isn't shown.
abbrev pub begins : List Line → ℕ → Bool
begins lines at = is_shown lines at && not (nat_lt 0 at && is_shown lines (at - 1))

-- The first line that isn't shown, here or among as many that follow.
abbrev pub end_from : List Line → ℕ → ℕ → ℕ
end_from lines zero at = at
end_from lines (suc more) at = if is_shown lines at then end_from lines more (at + 1) else at

-- What stands after a line without its newline.
abbrev pub line_end : Text → Text
line_end line = if ends_with_byte 10 line then [] else codes "\n\\ No newline at end of file\n"

abbrev pub marked : Text → Text → Text
marked mark line = mark ++ (line ++ line_end line)

abbrev pub added : List Line → Text
added lines = flat_map (λ line. marked (codes "+") line.new) lines

-- What is written for a line. Before one that stays come the new lines of the change that ends there.
abbrev pub shown : List Line → Line → Text
shown changed line = if changes line then marked (codes "-") line.old
    else added changed ++ marked (codes " ") line.old

-- The lines that change and no other has followed yet.
abbrev pub pending : List Line → Line → List Line
pending changed line = if changes line then changed ++ line ∷ [] else []

-- Lines of a hunk: each that stays, and of each change all old lines and then all new ones.
abbrev pub body : List Line → List Line → Text
body changed [] = added changed
body changed (line ∷ lines) = shown changed line ++ body (pending changed line) lines

-- The first line of a hunk, and how many lines it has, if these aren't one alone.
abbrev pub range : ℕ → ℕ → Text
range first count = if nat_eq count 1 then decimal first
    else decimal first ++ (codes "," ++ decimal count)

abbrev pub hunk_header : Text → Text
hunk_header range = codes "@@ -" ++ (range ++ (codes " +" ++ (range ++ codes " @@\n")))

abbrev pub hunk : ℕ → List Line → Text
hunk first lines = hunk_header (range first (length lines)) ++ body [] lines

-- The hunk that begins at a line, or nothing.
abbrev pub hunk_at : List Line → ℕ → Text
hunk_at lines at = if begins lines at
    then hunk (at + 1) (take (end_from lines (length lines - at) at - at) (drop at lines)) else []

abbrev pub hunks_from : List Line → ℕ → ℕ → Text
hunks_from lines zero at = []
hunks_from lines (suc more) at = hunk_at lines at ++ hunks_from lines more (at + 1)

abbrev pub file_header : Text → Text
file_header name = codes "--- " ++ (name ++ (codes "\n+++ " ++ (name ++ codes "\n")))

abbrev pub diff : Text → List Line → Text
diff name lines = file_header name ++ hunks_from lines (length lines) 0

-- The diff of two texts is written, both under one name.
abbrev pub WritesDiff : Text → Text → Text → Option Text → Option Text → Type 0
WritesDiff name old new before after =
    (lines : List Line) × AreSideBySide old new lines × Appends before after (diff name lines)
