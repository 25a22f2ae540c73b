-- Lines of a text.
use Rattle.std.specs.Prelude.{ℕ, ◌+◌, ◌==◌, if◌then◌else◌, [], ◌∷◌}
use Rattle.timefd_parse.specs.Tree.{Text}

-- how many newlines the text has
abbrev pub newlines : Text → ℕ
newlines [] = 0
newlines (b ∷ text) = (if b == 10 then 1 else 0) + newlines text

-- what follows the last newline, or the whole text if there is none
abbrev pub begun_line : Text → Text
begun_line [] = []
begun_line (b ∷ text) = if newlines (b ∷ text) == 0 then b ∷ text else begun_line text
