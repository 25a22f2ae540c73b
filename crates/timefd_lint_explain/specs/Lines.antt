-- The lines that show the nodes of a text.
use Rattle.std.specs.Prelude.{ℕ, zero, suc, Bool, true, false, ◌≡◌, ◌-◌, ◌^◌, List, [], ◌∷◌, ◌++◌, codes, decimal, string_bytes, Option, Some, None}
use denote.Ref.{Bor}
use Rattle.std.specs.Fmt.{format_spec, styled_decimal}
use Rattle.std.specs.Str.Pattern.{GetsRange}
use Rattle.timefd_lang_component.specs.Reserved.{reserve_all}
use Rattle.timefd_lang_component.specs.Tree.{Text, Tree, trees}
use Rattle.timefd_lint_drawing.specs.Shown.{safe}
use Rattle.timefd_language.specs.Grammar.{nesting_limit}
use Rattle.timefd_lang_node_list.specs.Nodes.{kept_bytes}
use Rattle.timefd_parse.specs.Language.{SpellsIn}
use Rattle.timefd_language.specs.declared.description_version.Language.{Language}
use Rattle.timefd_lint_explain.specs.Examples.{Examples}
use Rattle.timefd_lint_explain.specs.Parts.{AreParts, all_parts}
use Rattle.timefd_lint_explain.specs.Stands.{NodesStand}
use Rattle.timefd_lint_explain.specs.declared.node.ShownNode.{ShownNode}

-- A number, padded with spaces to at least five columns.
abbrev pub in_columns : ℕ → Text
in_columns n = styled_decimal (format_spec 32 0 0 5 (2 ^ 64 - 1)) n

-- Two spaces for each bracket around a node.
abbrev pub indent : ℕ → Text
indent zero = []
indent (suc n) = indent n ++ codes "  "

-- The text that a node came from, if there is any.
abbrev pub quoted : Text → Text
quoted [] = []
quoted (b ∷ bs) = codes "`" ++ (safe (b ∷ bs) ++ codes "`  ")

abbrev pub as_example : Text → Text
as_example [] = codes "\n"
as_example (b ∷ bs) = codes ", as `" ++ (safe (b ∷ bs) ++ codes "`\n")

-- These bytes of a text, or nothing if the text doesn't have them.
abbrev pub cut_or_nothing : Option (Bor Text) → Text
cut_or_nothing None = []
cut_or_nothing (Some part) = part.now

abbrev pub IsCut : Text → ℕ → ℕ → Text → Type 0
IsCut text from to part = (found : Option (Bor Text)) × GetsRange text from to found × (part ≡ cut_or_nothing found)

abbrev pub line : ShownNode → Text → Text
line n source = in_columns n.bytes ++ (codes "  " ++ (indent n.depth ++ (quoted source
    ++ (string_bytes n.words ++ as_example (string_bytes n.example)))))

-- The line of a node: the bytes that it reserves, its depth, what it came from, its words and its example.
abbrev pub IsLine : Text → ShownNode → Text → Type 0
IsLine text n shown = (source : Text) × IsCut text n.start n.end source × (shown ≡ line n source)

-- One line for each node, in order.
abbrev pub AreLines : Text → List ShownNode → Text → Type 0
AreLines text [] shown = shown ≡ []
AreLines text (n ∷ ns) shown =
    (first : Text) × (rest : Text) × IsLine text n first × AreLines text ns rest × (shown ≡ first ++ rest)

-- After the text and its position there is a line for each node, and a last one with the bytes that all of
-- them reserve.
abbrev pub IsTree : Text → ℕ → Text → List ShownNode → ℕ → Text → Type 0
IsTree file number text nodes bytes tree = (lines : Text) × AreLines text nodes lines
    × (tree ≡ safe file ++ (codes ":" ++ (decimal number ++ (codes ": " ++ (safe text ++ (codes "\n"
    ++ (lines ++ (in_columns bytes ++ codes "  in all\n"))))))))

-- These are the nodes of the text, with the ranges of its parts, and the bytes that it reserves.
pub record IsExplanation (language : Language) (text : Text) (nodes : List ShownNode) (bytes : ℕ) : Type 0 where
  pub sum : (list : List Tree) → SpellsIn language nesting_limit text list
      → bytes ≡ kept_bytes (reserve_all (trees list))
  pub parts : (list : List Tree) → SpellsIn language nesting_limit text list
      → AreParts (all_parts 0 (trees list)) nodes
  pub positions : (list : List Tree) → SpellsIn language nesting_limit text list
      → NodesStand language (trees list) text nodes
  pub examples : Examples nodes

-- The tree shows the text.
pub record IsExplained (language : Language) (file : Text) (number : ℕ) (text tree : Text) : Type 0 where
  pub nodes : List ShownNode
  pub bytes : ℕ
  pub explanation : IsExplanation language text nodes bytes
  pub drawn : IsTree file number text nodes bytes tree

-- The tree of a text is written if it is asked for, and else nothing is.
abbrev pub IsExplainedIf : Bool → Language → Text → ℕ → Text → Text → Type 0
IsExplainedIf true language file number text tree = IsExplained language file number text tree
IsExplainedIf false language file number text tree = tree ≡ []
