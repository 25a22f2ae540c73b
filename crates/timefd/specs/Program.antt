-- What the program does with its arguments.
use Rattle.std.specs.Prelude.{ℕ, ◌≡◌, List, [], ◌∷◌, Option, Some, None}
use Rattle.timefd_parse.specs.Tree.{Text}
use Rattle.timefd.specs.declared.kind.Kind.{Kind}
use Rattle.timefd.specs.Arguments.{arguments}

-- what all arguments ask for, of which the first is the program's name
abbrev pub request : List Text → Option (Kind × ℕ)
request [] = None
request (name ∷ words) = arguments words

-- The arguments ask for a kind and a limit, and this holds for them.
abbrev pub Asks : List Text → (Kind → ℕ → Type 0) → Type 0
Asks args P = (kind : Kind) × (limit : ℕ) × (request args ≡ Some (kind, limit)) × P kind limit
