-- How many brackets are open.
use Rattle.std.specs.Prelude.{ℕ, ◌+◌, ◌-◌, ◌^◌, ◌==◌, ◌||◌, min, List, get_or, if◌then◌else◌}

-- after a byte, if `depth` are open before it
abbrev pub depth_by : ℕ → ℕ → ℕ
depth_by byte depth =
    if (byte == 0x5B) || (byte == 0x7B) then min (depth + 1) (2 ^ 64 - 1)
    else (if (byte == 0x5D) || (byte == 0x7D) then depth - 1 else depth)

-- after the byte at a position; a position after the end changes nothing
abbrev pub depth_at : List ℕ → ℕ → ℕ → ℕ
depth_at source at depth = depth_by (get_or source at 0) depth
