-- The longest literal of some trees.
use Rattle.std.specs.Prelude.{ℕ, List, [], ◌∷◌, length, max}
use Rattle.timefd_lang_component.specs.Tree.{Tree, literal}

-- how many bytes a tree has if it is a literal, and otherwise 0
abbrev pub literal_bytes : Tree → ℕ
literal_bytes (literal bytes) = length bytes
literal_bytes other = 0

-- how many bytes the longest literal among these trees has, or 0 if there is none
abbrev pub longest : List Tree → ℕ
longest [] = 0
longest (t ∷ ts) = max (literal_bytes t) (longest ts)
