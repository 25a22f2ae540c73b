-- Where a name leads, seen from the folder that patterns are relative to.
use Rattle.std.specs.Prelude.{ℕ, ◌-◌, Bool, false, not, ◌&&◌, ◌==◌, nat_eq, if◌then◌else◌, [], ◌∷◌, ◌++◌, length, take, drop, Option, Some, None}
use Rattle.std.specs.List.{starts_with}
use Rattle.timefd_lint_files.specs.declared.start.Excluded.{Excluded}
use Rattle.timefd_lint_files.specs.declared.start.NameParts.{NameParts}
use Rattle.timefd_lint_files.specs.FileNames.{file_name}
use Rattle.timefd_lint_files.specs.Matching.{Text, slash}

-- the byte `.`
abbrev pub dot : ℕ
dot = 46

-- the path of a folder, with a slash after each name, and what of a name begins in it
pub record Begun : Type 0 where
  pub front : Text
  pub rest : Text

abbrev pub seen : NameParts → Begun
seen start = record { front = start.front.now; rest = start.rest.now }

abbrev pub seen_any : Option NameParts → Option Begun
seen_any None = None
seen_any (Some start) = Some (seen start)

abbrev pub without_last : Text → Text
without_last path = take (length path - 1) path

abbrev pub without_name : Text → Text
without_name path = take (length path - length (file_name path)) path

-- the folder around a folder
abbrev pub parent : Text → Text
parent folder = without_name (without_last folder)

abbrev pub is_here : ℕ → ℕ → Bool
is_here first second = (first == dot) && (second == slash)

-- `../`, which leads to no other folder from the outermost one
abbrev pub is_up : Text → ℕ → ℕ → ℕ → Bool
is_up front first second third =
    (first == dot) && ((second == dot) && ((third == slash) && not (length front == 0)))

abbrev pub next_up : Text → ℕ → ℕ → Text → Option Begun
next_up front first second [] = None
next_up front first second (third ∷ rest) =
    if is_up front first second third then Some (record { front = parent front; rest = rest }) else None

-- without the `./` or the `../` that a name begins with
abbrev pub next : Text → Text → Option Begun
next front [] = None
next front (first ∷ []) = None
next front (first ∷ (second ∷ rest)) =
    if is_here first second then Some (record { front = front; rest = rest }) else next_up front first second rest

abbrev pub begun : Text → Text → Begun
begun front rest = record { front = front; rest = rest }

-- Without all of them that a name begins with. Each `../` leads to the folder around.
abbrev pub start_in : Text → Text → Begun
start_in front [] = begun front []
start_in front (first ∷ []) = begun front (first ∷ [])
start_in front (first ∷ (second ∷ [])) =
    if is_here first second then begun front [] else begun front (first ∷ second ∷ [])
start_in front (first ∷ (second ∷ (third ∷ rest))) =
    if is_here first second then start_in front (third ∷ rest)
    else if is_up front first second third then start_in (parent front) rest
    else begun front (first ∷ second ∷ third ∷ rest)

abbrev pub is_absolute : Text → Bool
is_absolute [] = false
is_absolute (first ∷ rest) = first == slash

-- An absolute name begins in no folder.
abbrev pub start_of : Text → Text → Begun
start_of front name = if is_absolute name then begun [] name else start_in front name

abbrev pub joined : Begun → Text
joined start = start.front ++ start.rest

-- the path of what a name leads to, if the working directory has the path `front`
abbrev pub path_of : Text → Text → Text
path_of front name = joined (start_of front name)

-- a name without the `./` that it begins with
abbrev pub without_here : Text → Text
without_here [] = []
without_here (first ∷ []) = first ∷ []
without_here (first ∷ (second ∷ rest)) =
    if is_here first second then without_here rest else first ∷ second ∷ rest

-- whether a name begins with the path of a folder, which isn't empty
abbrev pub is_inside : Text → Text → Bool
is_inside folder name = not (length folder == 0) && starts_with nat_eq (without_here name) folder

abbrev pub start_inside : Text → Text → Text → Begun
start_inside folder front name =
    if is_inside folder name then begun [] (drop (length folder) (without_here name)) else start_of front name

-- The parts of a name as it is matched: what follows the path of the folder, or else from the working directory.
abbrev pub start_below : Excluded → Text → Begun
start_below excluded name = start_inside excluded.folder.now excluded.front.now name

-- the path of what a name leads to, from the folder that the patterns are relative to
abbrev pub path_below : Excluded → Text → Text
path_below excluded name = joined (start_below excluded name)
