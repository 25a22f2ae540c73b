-- Which row's text of version 3 a description begins with.
use Rattle.std.specs.Prelude.{ℕ, ◌≡◌, ◌==◌, Bool, true, false, not, ◌&&◌, ◌||◌, nat_lt, eqb, if◌then◌else◌, List, [], ◌∷◌, length, Option, Some, None}
use Rattle.std.specs.List.{starts_with}
use Rattle.timefd_lang_component.specs.Tree.{Text}
use Rattle.timefd_lang_dialect.specs.declared.dialect.Dialect.{Dialect}
use Rattle.timefd_lang_dialect.specs.Groups.{Group, keys_of, rows_at}
use Rattle.timefd_lang_dialect.specs.Rows.{Entry, Meaning, written, refused}
use Rattle.timefd_lang_dialect.specs.Tables.{groups_of, rows_of}

-- the text of version 3 of a row, or nothing if the row is refused
abbrev pub own_text : Meaning → Text
own_text (written own range) = own
own_text (refused reason) = []

-- the description begins with the row's text
abbrev pub writes : Entry → Text → Bool
writes row text =
    nat_lt 0 (length (own_text row.meaning)) && starts_with eqb text (own_text row.meaning)

abbrev pub none_writes : List Entry → Text → Bool
none_writes [] text = true
none_writes (row ∷ rows) text = not (writes row text) && none_writes rows text

-- Which row is chosen: the one with the longest text of version 3. Of several with the same text it is the one
-- with the shortest directive after a `%`, and the first one where no `%` is.

-- the directive begins with a `%`, and is shorter than the other
abbrev pub is_shorter : Text → Text → Bool
is_shorter [] other = false
is_shorter (b ∷ rest) other = (b == 37) && nat_lt (length (b ∷ rest)) (length other)

abbrev pub is_better : Entry → Entry → Bool
is_better row best =
    nat_lt (length (own_text best.meaning)) (length (own_text row.meaning))
    || ((length (own_text best.meaning) == length (own_text row.meaning)) && is_shorter row.text best.text)

abbrev pub best_of : Option Entry → Entry → Entry
best_of None row = row
best_of (Some best) row = if is_better row best then row else best

abbrev pub best_with : Option Entry → Entry → Text → Option Entry
best_with best row text = if writes row text then Some (best_of best row) else best

abbrev pub best_from : Option Entry → List Entry → Text → Option Entry
best_from best [] text = best
best_from best (row ∷ rows) text = best_from (best_with best row text) rows text

-- the best of this row and the rows that these bytes select
abbrev pub best_at : Option Entry → List ℕ → List Group → Text → Option Entry
best_at best [] gs text = best
best_at best (b ∷ bytes) gs text = best_at (best_from best (rows_at b gs) text) bytes gs text

-- the best of all rows for the front of the description
abbrev pub chosen : Dialect → Text → Option Entry
chosen dialect text =
    best_at None (keys_of (groups_of dialect)) (groups_of dialect) text

-- the dialect has no directive for the front of the description
abbrev pub Lacks : Dialect → Text → Type 0
Lacks dialect text = none_writes (rows_of dialect) text ≡ true
