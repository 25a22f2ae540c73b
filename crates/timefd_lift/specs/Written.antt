-- The text of version 3 for a list of literals and components. A modifier is written if it isn't
-- version 3's default. The range of a year is always written if there is one, since version 2 has
-- another default.
use Rattle.std.specs.Prelude.{if◌then◌else◌, List, [], ◌∷◌, ◌++◌}
use Rattle.timefd_lang_component.specs.declared.component.Component.{Component}
use Rattle.timefd_lang_component.specs.Modern.{modern}
use Rattle.timefd_lang_component.specs.Tree.{Text, Tree, component, literal}
use Rattle.timefd_lang_component.specs.Bracket.Words.{form, count_digits, first_modifier, second_modifier}
use Rattle.timefd_lang_component.specs.declared.bracket.defaults.Defaults.{Defaults}
use Rattle.timefd_language.specs.Bytes.{left, right, backslash, is_special}

-- Components: version 3's defaults are omitted. Instead of a deprecated component, the one that it
-- stands for is written.

-- the form and two modifiers in brackets
abbrev pub in_brackets : Text → Text → Text → Text
in_brackets form one other = left ∷ form ++ one ++ other ++ right ∷ []

abbrev pub component_text : Component → Text
component_text c =
    in_brackets (form Defaults.Omitted c) (first_modifier Defaults.Omitted c (count_digits c))
    (second_modifier Defaults.Omitted c)

-- Lists.

-- A literal that is only `[`, `]` or a backslash is escaped. Version 2 has each of these in a literal
-- of its own.
abbrev pub escape_before : Text → Text
escape_before [] = []
escape_before (b ∷ []) = if is_special b then backslash ∷ [] else []
escape_before (b ∷ c ∷ bytes) = []

-- version 2 has no other trees
abbrev pub tree_text : Tree → Text
tree_text (component c) = component_text (modern c)
tree_text (literal bytes) = escape_before bytes ++ bytes
tree_text _ = []

abbrev pub written : List Tree → Text
written [] = []
written (t ∷ ts) = tree_text t ++ written ts
