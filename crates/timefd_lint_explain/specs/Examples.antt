-- The examples of all nodes.
use Rattle.std.specs.Prelude.{◌≡◌, Bool, true, false, codes, List, [], ◌∷◌, ◌++◌, string_bytes, ⊤}
use Rattle.timefd_lang_component.specs.Modern.{modern}
use Rattle.timefd_lang_component.specs.Tree.{Text}
use Rattle.timefd_lang_component.specs.declared.component.Component.{Component}
use Rattle.timefd_lint_explain.specs.Samples.{IsExample}
use Rattle.timefd_lang_component.specs.Bracket.Words as names
use Rattle.timefd_lang_component.specs.declared.bracket.defaults.Defaults.{Defaults}
use Rattle.timefd_lint_explain.specs.declared.node.ShownNode.{ShownNode}
use Rattle.timefd_lint_explain.specs.declared.node.NodeKind.{NodeKind}
use Rattle.timefd_lint_explain.specs.declared.node.NodeKind.TheVariants as kinds
use Rattle.timefd_lint_explain.specs.declared.piece.What.{What}
use Rattle.timefd_lint_explain.specs.declared.piece.What.TheVariants as what

abbrev pub kind_in : What → NodeKind
kind_in (what.Literal text) = kinds.Literal
kind_in (what.Component c) = kinds.Component
kind_in (what.Optional format) = kinds.Optional
kind_in what.First = kinds.First
kind_in what.Several = kinds.Several

-- The words begin with the component's name and all its modifiers.
abbrev pub Names : Component → Text → Type 0
Names c words = (rest : Text) × (words ≡ names.words Defaults.Written (modern c) ++ rest)

abbrev pub optional_words : Bool → Text
optional_words true = codes "optional, and formatted"
optional_words false = codes "optional, and not formatted"

abbrev pub AreWordsOf : What → Text → Type 0
AreWordsOf (what.Literal text) words = words ≡ codes "literal"
AreWordsOf (what.Component c) words = Names c words
AreWordsOf (what.Optional format) words = words ≡ optional_words format
AreWordsOf what.First words = words ≡ codes "first of these"
AreWordsOf what.Several words = words ≡ codes "these, one after another"

-- The example of a node of this kind with these words. For a component it is what the formatter writes, at
-- the moment of the examples, for the component that the words name.
abbrev pub IsExampleFor : NodeKind → Text → Text → Type 0
IsExampleFor kinds.Literal words example = ⊤
IsExampleFor kinds.Component words example = (c : Component) × Names c words × IsExample c example
IsExampleFor kinds.Optional words example = example ≡ []
IsExampleFor kinds.First words example = example ≡ []
IsExampleFor kinds.Several words example = example ≡ []
IsExampleFor kinds.Description words example = example ≡ []

abbrev pub HasExample : ShownNode → Type 0
HasExample n = IsExampleFor n.kind (string_bytes n.words) (string_bytes n.example)

-- Each node has its example.
abbrev pub Examples : List ShownNode → Type 0
Examples [] = ⊤
Examples (n ∷ ns) = HasExample n × Examples ns
