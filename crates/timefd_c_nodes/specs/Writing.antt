-- What is written to the buffers.
use Rattle.std.specs.Prelude.{ℕ, ◌≡◌, ◌+◌, ◌<◌, ◌≤◌, ◌^◌, ◌++◌, ◌⊎◌, List, [], ◌∷◌, length, set, take, drop}
use Rattle.timefd_lang_component.specs.Tree.{Text, Tree}
use Rattle.timefd_lang_node_list.specs.Nodes.{kept_bytes}
use Rattle.timefd_c_nodes.specs.declared.node.RawNode.{RawNode}
use Rattle.timefd_c_nodes.specs.declared.position.WritePosition.{WritePosition}
use Rattle.timefd_c_nodes.specs.declared.position.Written.{Written}
use Rattle.timefd_c_nodes.specs.Encoding.{node_for, own_text, texts_of}

-- the bytes, with some of them replaced from an index on
abbrev pub overwritten : ℕ → Text → Text → Text
overwritten at text bytes = take at bytes ++ text ++ drop (at + length text) bytes

-- the nodes after those of some parts were written; the first of these has the index `at`
abbrev pub nodes_written : {A : Type 0} → (ℕ → ℕ → A → RawNode) → (A → Text) → ℕ → ℕ → List A
    → List RawNode → List RawNode
nodes_written node own at used [] nodes = nodes
nodes_written node own at used (a ∷ parts) nodes =
    nodes_written node own (at + 1) (used + length (own a)) parts (set nodes at (node at used a))

-- the bytes after the literals of some parts were written
abbrev pub literals_written : {A : Type 0} → (A → Text) → ℕ → List A → Text → Text
literals_written own used [] bytes = bytes
literals_written own used (a ∷ parts) bytes =
    literals_written own (used + length (own a)) parts (overwritten used (own a) bytes)

-- These parts, each with one node and these bytes, are written from one position to the other, as far as
-- there is room: a buffer that has room for all of them has all of them.
pub record WritesParts {A : Type 0} (node : ℕ → ℕ → A → RawNode) (own : A → Text) (parts : List A)
    (from to : WritePosition) (nodes_before nodes_after : List RawNode) (before after : Text) : Type 0 where
  pub node_at : to.nodes ≡ from.nodes + length parts
  pub literal_at : to.literals ≡ from.literals + length (texts_of own parts)
  pub node_room : length nodes_after ≡ length nodes_before
  pub literal_room : length after ≡ length before
  pub nodes : from.nodes + length parts ≤ length nodes_before
      → nodes_after ≡ nodes_written node own from.nodes from.literals parts nodes_before
  pub literals : from.literals + length (texts_of own parts) ≤ length before
      → after ≡ literals_written own from.literals parts before

-- These trees are written, each with its own node and bytes.
abbrev pub WritesWithin : List Tree → WritePosition → WritePosition → List RawNode → List RawNode → Text → Text → Type 0
WritesWithin ts from to nodes_before nodes_after before after =
    WritesParts node_for own_text ts from to nodes_before nodes_after before after

-- These trees are written from a position on, as far as there is room, and reserve `reserved` bytes.
pub record IsWritten (ts : List Tree) (reserved : ℕ) (from : WritePosition)
    (nodes_before nodes_after : List RawNode) (before after : Text) (w : Written) : Type 0 where
  pub within : WritesWithin ts from w.end nodes_before nodes_after before after
  pub bytes : w.bytes ≡ kept_bytes reserved

-- A node that adds nothing to the literals, and reserves `reserved` bytes, is written at a position if
-- there is room for it.
pub record Puts (node : RawNode) (reserved : ℕ) (at : WritePosition) (nodes_before nodes_after : List RawNode)
    (w : Written) : Type 0 where
  pub node_at : w.end.nodes ≡ at.nodes + 1
  pub literal_at : w.end.literals ≡ at.literals
  pub bytes : w.bytes ≡ reserved
  pub node_room : length nodes_after ≡ length nodes_before
  pub nodes : at.nodes < length nodes_before → nodes_after ≡ set nodes_before at.nodes node

-- a `usize` can't count the position after these parts
abbrev pub ArePast : {A : Type 0} → (A → Text) → List A → WritePosition → Type 0
ArePast own parts from =
    (2 ^ 64 ≤ from.nodes + length parts) ⊎ (2 ^ 64 ≤ from.literals + length (texts_of own parts))

-- a `usize` can't count the position after these trees
abbrev pub IsPast : List Tree → WritePosition → Type 0
IsPast ts from = ArePast own_text ts from
