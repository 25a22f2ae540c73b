-- Rows, grouped by the byte that selects them.
use Rattle.std.specs.Prelude.{ℕ, ◌==◌, if◌then◌else◌, List, [], ◌∷◌, ◌++◌, Option, Some, None}
use Rattle.timefd_lang_component.specs.Tree.{Text}
use Rattle.timefd_lang_dialect.specs.Rows.{Entry, stands}

-- Rows that one byte selects, the longest first.
pub record Group : Type 0 where
  pub key : ℕ
  pub rows : List Entry

abbrev pub under : ℕ → List Entry → Group
under key rows = record { key = key; rows = rows }

abbrev pub all_rows : List Group → List Entry
all_rows [] = []
all_rows (g ∷ gs) = g.rows ++ all_rows gs

abbrev pub keys_of : List Group → List ℕ
keys_of [] = []
keys_of (g ∷ gs) = g.key ∷ keys_of gs

-- the rows that a byte selects
abbrev pub rows_at : ℕ → List Group → List Entry
rows_at b [] = []
rows_at b (g ∷ gs) = if b == g.key then g.rows else rows_at b gs

-- the rows that a byte selects, if there is a byte
abbrev pub rows_found : Option ℕ → List Group → List Entry
rows_found None gs = []
rows_found (Some b) gs = rows_at b gs

-- the first of the rows that is at the front of the text
abbrev pub first_standing : List Entry → Text → Option Entry
first_standing [] text = None
first_standing (row ∷ rows) text = if stands row text then Some row else first_standing rows text
