-- How the pieces that are shown relate to what a text spells.
use Rattle.std.specs.Prelude.{◌≡◌, List, [], ◌∷◌, ◌++◌, string_bytes, ⊤}
use Rattle.timefd_lang_component.specs.Reserved.{reserve}
use Rattle.timefd_lang_component.specs.Tree.{Text, Tree, Trees, component, literal, compound, optional, first}
use Rattle.timefd_language.specs.Grammar.{nesting_limit}
use Rattle.timefd_lang_node_list.specs.Nodes.{kept_bytes}
use Rattle.timefd_parse.specs.Language.{SpellsIn}
use Rattle.timefd_language.specs.declared.description_version.Language.{Language}
use Rattle.timefd_lint_explain.specs.Samples.{IsExample}
use Rattle.timefd_lint_explain.specs.declared.piece.Shown.{Shown}
use Rattle.timefd_lint_explain.specs.declared.piece.What.{What}
use Rattle.timefd_lint_explain.specs.declared.piece.What.TheVariants as what

-- What is reported about a tree.
abbrev pub IsWhat : What → Tree → Type 0
IsWhat (what.Literal text) tree = tree ≡ literal (string_bytes text)
IsWhat (what.Component c) tree = tree ≡ component c
IsWhat (what.Optional format) tree = (member : Tree) × (tree ≡ optional format member)
IsWhat what.First tree = (members : Trees) × (tree ≡ first members)
IsWhat what.Several tree = (members : Trees) × (tree ≡ compound members)

-- The example that is shown: the text of a literal, and what the formatter writes for a component at the
-- moment of the examples.
abbrev pub IsExampleOf : What → Text → Type 0
IsExampleOf (what.Literal text) example = example ≡ string_bytes text
IsExampleOf (what.Component c) example = IsExample c example
IsExampleOf (what.Optional format) example = example ≡ []
IsExampleOf what.First example = example ≡ []
IsExampleOf what.Several example = example ≡ []

-- The piece is shown as what its tree is, with the bytes that the tree reserves.
pub record IsShown (s : Shown) (tree : Tree) : Type 0 where
  pub what : IsWhat s.what tree
  pub bytes : s.bytes ≡ kept_bytes (reserve tree)

-- One piece for each tree, in order.
abbrev pub AreShown : List Shown → List Tree → Type 0
AreShown [] [] = ⊤
AreShown [] (t ∷ ts) = ⊥
AreShown (s ∷ ss) [] = ⊥
AreShown (s ∷ ss) (t ∷ ts) = IsShown s t × AreShown ss ts

-- The texts of the pieces, joined.
abbrev pub texts : List Shown → Text
texts [] = []
texts (s ∷ ss) = s.text.now ++ texts ss

-- Each piece spells its tree.
abbrev pub AreSpelled : Language → List Shown → List Tree → Type 0
AreSpelled language [] [] = ⊤
AreSpelled language [] (t ∷ ts) = ⊥
AreSpelled language (s ∷ ss) [] = ⊥
AreSpelled language (s ∷ ss) (t ∷ ts) =
    SpellsIn language nesting_limit s.text.now (t ∷ []) × AreSpelled language ss ts

-- The pieces make up the text, in order, and each is shown as the tree that it spells.
pub record Shows (language : Language) (text : Text) (list : List Tree) (shown : List Shown)
    : Type 0 where
  pub whole : texts shown ≡ text
  pub each : AreShown shown list
  pub spelled : AreSpelled language shown list

-- The text spells one tree.
abbrev pub SpellsOne : Language → Text → Type 0
SpellsOne language text = (tree : Tree) × SpellsIn language nesting_limit text (tree ∷ [])

-- The piece is this text, shown as the one tree that it spells.
abbrev pub ShowsOne : Text → Shown → Tree → Type 0
ShowsOne text s tree = (s.text.now ≡ text) × IsShown s tree
