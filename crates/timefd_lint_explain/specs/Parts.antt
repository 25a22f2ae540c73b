-- The parts of what a text spells, each before those that it holds, and the nodes that show them.
use Rattle.std.specs.Prelude.{ℕ, ◌≡◌, ◌+◌, ◌-◌, ◌^◌, min, codes, List, [], ◌∷◌, ◌++◌, string_bytes, ⊤}
use Rattle.timefd_lang_component.specs.Reserved.{reserve}
use Rattle.timefd_lang_component.specs.Tree.{Text, Tree, component, literal, compound, optional, first, Trees, no_trees, more_trees}
use Rattle.timefd_lang_node_list.specs.Nodes.{kept_bytes}
use Rattle.timefd_lint_explain.specs.Samples.{IsExample}
use Rattle.timefd_lint_explain.specs.declared.node.ShownNode.{ShownNode}
use Rattle.timefd_lint_explain.specs.declared.node.NodeKind.{NodeKind}
use Rattle.timefd_lint_explain.specs.declared.node.NodeKind.TheVariants as kinds
use Rattle.timefd_lint_explain.specs.Examples.{Names, optional_words}

-- A piece, or a description in brackets, with the number of brackets around it. A description has the tree
-- that its pieces are packed to.
pub data Part : Type 0 where
  piece : ℕ → Tree → Part
  description : ℕ → Tree → Part

-- The members of a composite letter hold nothing.
abbrev pub members : ℕ → Trees → List Part
members d no_trees = []
members d (more_trees t ts) = piece d t ∷ members d ts

abbrev mutual
  -- A piece, and what it holds.
  pub parts : ℕ → Tree → List Part
  parts d (component c) = piece d (component c) ∷ []
  parts d (literal bytes) = piece d (literal bytes) ∷ []
  parts d (compound ts) = piece d (compound ts) ∷ members (d + 1) ts
  parts d (optional f t) = piece d (optional f t) ∷ described (d + 1) t
  parts d (first ts) = piece d (first ts) ∷ alternatives (d + 1) ts

  -- Pieces, one after another.
  pub all_parts : ℕ → Trees → List Part
  all_parts d no_trees = []
  all_parts d (more_trees t ts) = parts d t ++ all_parts d ts

  -- A description, and its pieces: those of a compound, or else the single one that it is.
  pub described : ℕ → Tree → List Part
  described d (component c) = description d (component c) ∷ piece (d + 1) (component c) ∷ []
  described d (literal bytes) = description d (literal bytes) ∷ piece (d + 1) (literal bytes) ∷ []
  described d (compound ts) = description d (compound ts) ∷ all_parts (d + 1) ts
  described d (optional f t) =
      description d (optional f t) ∷ piece (d + 1) (optional f t)
      ∷ described (d + 1 + 1) t
  described d (first ts) =
      description d (first ts) ∷ piece (d + 1) (first ts) ∷ alternatives (d + 1 + 1) ts

  -- Descriptions, one after another.
  pub alternatives : ℕ → Trees → List Part
  alternatives d no_trees = []
  alternatives d (more_trees t ts) = described d t ++ alternatives d ts

-- The number, up to the most that a node can hold.
abbrev pub capped : ℕ → ℕ
capped n = min n (2 ^ 64 - 1)

-- What a node reports about a piece.
abbrev pub IsReported : Tree → NodeKind → Text → Text → Type 0
IsReported (component c) kind words example =
    (kind ≡ kinds.Component) × Names c words × IsExample c example
IsReported (literal bytes) kind words example =
    (kind ≡ kinds.Literal) × (words ≡ codes "literal") × (example ≡ bytes)
IsReported (compound ts) kind words example =
    (kind ≡ kinds.Several) × (words ≡ codes "these, one after another") × (example ≡ [])
IsReported (optional f t) kind words example =
    (kind ≡ kinds.Optional) × (words ≡ optional_words f) × (example ≡ [])
IsReported (first ts) kind words example =
    (kind ≡ kinds.First) × (words ≡ codes "first of these") × (example ≡ [])

pub record IsPiece (d : ℕ) (tree : Tree) (n : ShownNode) : Type 0 where
  pub depth : n.depth ≡ capped d
  pub bytes : n.bytes ≡ kept_bytes (reserve tree)
  pub reported : IsReported tree n.kind (string_bytes n.words) (string_bytes n.example)

pub record IsDescription (d : ℕ) (tree : Tree) (n : ShownNode) : Type 0 where
  pub depth : n.depth ≡ capped d
  pub bytes : n.bytes ≡ reserve tree
  pub kind : n.kind ≡ kinds.Description
  pub words : string_bytes n.words ≡ codes "description"

abbrev pub IsPart : Part → ShownNode → Type 0
IsPart (piece d tree) n = IsPiece d tree n
IsPart (description d tree) n = IsDescription d tree n

-- One node for each part, in order.
abbrev pub AreParts : List Part → List ShownNode → Type 0
AreParts [] [] = ⊤
AreParts [] (n ∷ ns) = ⊥
AreParts (p ∷ ps) [] = ⊥
AreParts (p ∷ ps) (n ∷ ns) = IsPart p n × AreParts ps ns

-- Nodes for these parts are appended.
pub record Adds (ps : List Part) (old new : List ShownNode) : Type 0 where
  pub more : List ShownNode
  pub whole : new ≡ old ++ more
  pub each : AreParts ps more
