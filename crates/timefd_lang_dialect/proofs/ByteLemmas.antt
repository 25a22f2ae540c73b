-- A byte that selects no rows.
use Rattle.std.proofs.Common.{ℕ, ◌≡◌, ◌==◌, cond, Bool, true, false, [], ◌∷◌, List, refl}
use Rattle.std.specs.Prelude.{◌&&◌, not}
use Rattle.std.proofs.lemmas.Bool.{and_parts}
use Rattle.timefd_lang_dialect.specs.Groups.{Group, rows_at}

-- the byte selects no group
abbrev pub is_apart : ℕ → List Group → Bool
is_apart b [] = true
is_apart b (g ∷ gs) = not (b == g.key) && is_apart b gs

pub no_rows : (b : ℕ) (gs : List Group) → is_apart b gs ≡ true → rows_at b gs ≡ []
no_rows b [] e = refl
no_rows b (g ∷ gs) e =
    let p = and_parts (not (b == g.key)) (is_apart b gs) e in
    by (b == g.key) p.0 (no_rows b gs p.1)
  where
    by : (t : Bool) → not t ≡ true → rows_at b gs ≡ [] → cond t g.rows (rows_at b gs) ≡ []
    by true one more = cc
    by false one more = more
