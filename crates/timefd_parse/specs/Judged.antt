-- How the code's result for a closed bracket relates to the verdict of the rules.
use Rattle.std.specs.Prelude.{ℕ, ◌≡◌, ◌+◌, Bool, List, [], ◌∷◌, length, map, Result, Ok, Err, MatchResult}
use Rattle.timefd_lang_component.specs.declared.component.Component.{Component}
use Rattle.timefd_lang_fault.specs.Faults.{Fault}
use Rattle.timefd_lang_component.specs.Tree.{Tree, component, pack}
use Rattle.timefd_lang_fault.specs.declared.read_error.Fault as code_fault
use Rattle.timefd_lang_fault.specs.declared.read_error.ReadError as code_error
use Rattle.timefd_lang_fault.specs.declared.key.Key as code_key
use Rattle.timefd_parse.specs.declared.piece.Piece.{Piece}
use Rattle.timefd_parse.specs.declared.head.positions.Positions.{Positions}
use Rattle.timefd_parse.specs.declared.bracket.verdict.Nested as code_nested
use Rattle.timefd_language.specs.Head.{Placed}
use Rattle.timefd_language.specs.Verdict.{PlacedDescription}
use Rattle.timefd_language.specs.Lookup.{key_for}
use Rattle.timefd_parse.specs.Positions.{position}
use Rattle.timefd_parse.specs.Pieces.{IsPiece}
use Rattle.timefd_lang_fault.specs.ReadErrors.{IsFault, MemoryOr}
use Rattle.timefd_parse.specs.Checked.{first_position, ShowsPosition}

-- each nested description is packed
abbrev pub packed : List PlacedDescription → List Tree
packed parts = map (λ q. pack q.trees) parts

-- the trees of the nested descriptions, and where the first of them is
abbrev pub ShowsDescriptions : ℕ → Bool → ℕ → List Tree → List PlacedDescription → Type 0
ShowsDescriptions total spaced remaining read [] = read ≡ []
ShowsDescriptions total spaced remaining read (p ∷ ps) =
    (p.spaced ≡ spaced) × (p.index + remaining ≡ total) × (read ≡ packed (p ∷ ps))

-- how many there are, and where the first of them is
abbrev pub ShowsNested : ℕ → code_nested.Nested → List PlacedDescription → Type 0
ShowsNested total n [] = n.count ≡ 0
ShowsNested total n (p ∷ ps) = (p.spaced ≡ n.spaced) × (p.index + n.remaining ≡ total)
    × (n.count ≡ length (p ∷ ps))

-- where the keys are
abbrev pub ShowsPositions : ℕ → Positions → List Placed → Type 0
ShowsPositions total positions ps = (k : code_key.Key)
    → ShowsPosition total (position positions k) (first_position (key_for k).key ps)

abbrev pub JudgedFault : ℕ → Result Tree Fault → code_fault.Fault → Type 0
JudgedFault total rule f = (g : Fault) × (rule ≡ Err g) × IsFault total f g

-- The tree, or the fault. The lists are the trees that were built before the bracket was read, and
-- after, if any were built.
abbrev pub Judged : ℕ → Bool → Bool → List Tree → List Tree → Result Piece code_error.ReadError
    → Result Tree Fault → Type 0
Judged total strict builds old new r rule =
    MatchResult r (λ x. (tree : Tree) × (rule ≡ Ok tree) × IsPiece strict builds old new x tree)
    (MemoryOr (JudgedFault total rule))

-- a component or its fault, which takes no memory
abbrev pub JudgedComponent : ℕ → Result Component code_fault.Fault → Result Tree Fault → Type 0
JudgedComponent total r rule = MatchResult r (λ c. rule ≡ Ok (component c)) (JudgedFault total rule)
