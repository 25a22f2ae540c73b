-- How the pieces of the code relate to trees, and to the trees that are built from them.
use Rattle.std.specs.Prelude.{ℕ, ◌≡◌, Bool, List, [], ◌∷◌, ◌++◌, length, IsTrue, ⊤}
use Rattle.timefd_lang_component.specs.Modern.{modern}
use Rattle.timefd_lang_component.specs.Reserved.{reserved}
use Rattle.timefd_lang_component.specs.Tree.{Tree, component, literal}
use Rattle.timefd_parse.specs.declared.piece.Piece as code
use Rattle.timefd_parse.specs.declared.piece.Piece.TheVariants.{Literal, Component, Compound}

-- A reader that builds has built these trees after the others. Nothing is said about a reader that
-- doesn't.
abbrev pub IsBuilt : Bool → List Tree → List Tree → List Tree → Type 0
IsBuilt builds old new list = IsTrue builds → new ≡ old ++ list

-- The piece is this tree. If the reader builds, a compound is the last tree that is built, nothing
-- is built yet for any other piece, and a component comes with the bytes that it reserves. Only
-- version 3, which is strict, has compounds. A component is modern.
abbrev pub IsPiece : Bool → Bool → List Tree → List Tree → code.Piece → Tree → Type 0
IsPiece strict builds old new (Literal text) tree = (tree ≡ literal text.now)
    × (IsTrue builds → new ≡ old)
IsPiece strict builds old new (Component c bytes) tree = (tree ≡ component c) × (modern c ≡ c)
    × (IsTrue builds → new ≡ old) × (IsTrue builds → bytes ≡ reserved (modern c))
IsPiece strict builds old new Compound tree = IsTrue strict
    × IsBuilt builds old new (tree ∷ [])

-- a literal or a component
abbrev pub IsLeaf : code.Piece → Type 0
IsLeaf (Literal text) = ⊤
IsLeaf (Component c bytes) = ⊤
IsLeaf Compound = ⊥

abbrev pub IsLeafTree : code.Piece → Tree → Type 0
IsLeafTree (Literal text) tree = tree ≡ literal text.now
IsLeafTree (Component c bytes) tree = tree ≡ component c
IsLeafTree Compound tree = ⊥

-- how many bytes a piece reserves, if it isn't built
abbrev pub own_bytes : code.Piece → ℕ
own_bytes (Literal text) = length text.now
own_bytes (Component c bytes) = bytes
own_bytes Compound = 0
