-- The normal form of a description: its text of version 3.
use Rattle.std.specs.Prelude.{Bool, true, false, codes, if◌then◌else◌, List, [], ◌∷◌, ◌++◌}
use Rattle.timefd_lang_component.specs.Modern.{modern}
use Rattle.timefd_lang_component.specs.Tree.{Text, Tree, component, literal, compound, optional, first, Trees, no_trees, more_trees}
use Rattle.timefd_language.specs.Bytes.{right, backslash, is_special}
use Rattle.timefd_lift.specs.Written.{component_text}

-- a backslash before each `[`, `]` and backslash
abbrev pub escaped : Text → Text
escaped [] = []
escaped (b ∷ bytes) = if is_special b then backslash ∷ b ∷ escaped bytes else b ∷ escaped bytes

-- an optional description up to its nested one; without `format` a formatter writes it
abbrev pub optional_front : Bool → Text
optional_front true = codes "[optional"
optional_front false = codes "[optional format:false"

-- a nested description, after a space
abbrev pub nested : Text → Text
nested text = codes " [" ++ text ++ right ∷ []

abbrev mutual
  pub printed : Tree → Text
  printed (component c) = component_text (modern c)
  printed (literal bytes) = escaped bytes
  printed (compound ts) = printed_all ts
  printed (optional format t) = optional_front format ++ nested (printed t) ++ right ∷ []
  printed (first ts) = codes "[first" ++ nested_all ts ++ right ∷ []

  -- one after another
  pub printed_all : Trees → Text
  printed_all no_trees = []
  printed_all (more_trees t ts) = printed t ++ printed_all ts

  -- each nested by itself
  pub nested_all : Trees → Text
  nested_all no_trees = []
  nested_all (more_trees t ts) = nested (printed t) ++ nested_all ts

-- trees as a list
abbrev pub listed : Trees → List Tree
listed no_trees = []
listed (more_trees t ts) = t ∷ listed ts

-- the list that a text of the tree spells
abbrev pub unpacked : Tree → List Tree
unpacked (component c) = component c ∷ []
unpacked (literal bytes) = literal bytes ∷ []
unpacked (compound ts) = listed ts
unpacked (optional format t) = optional format t ∷ []
unpacked (first ts) = first ts ∷ []
