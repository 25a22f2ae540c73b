-- The warnings of a text, by what it spells.
use Rattle.std.specs.Prelude.{◌≡◌, List}
use Rattle.timefd_parse.specs.Tree.{Text, Tree, trees}
use Rattle.timefd_lang_node_list.specs.Item.Meaning.{item_trees}
use Rattle.timefd_parse.specs.Description.{description_tree}
use Rattle.timefd_lang_node_list.specs.Leaves.{leaves, leaves_all, leaves_in}
use Rattle.timefd_parse.specs.Grammar.{nesting_limit}
use Rattle.timefd_parse.specs.LanguageType.{Language}
use Rattle.timefd_parse.specs.LanguageType.TheVariants.{Version, Strftime}
use Rattle.timefd_parse.specs.Language.{SpellsIn}
use Rattle.timefd_parse.specs.declared.parsing.BorrowedOutput.{BorrowedOutput}
use Rattle.timefd_parse.specs.declared.parsing.BorrowedOutput.TheVariants.{Items, Description}
use Rattle.timefd_lang_warnings.specs.declared.levels.Levels.{Levels}
use Rattle.timefd_lang_warnings.specs.declared.warned.LanguageStyle.{LanguageStyle}
use Rattle.timefd_lang_warnings.specs.Levels.{found}

-- how components are written in the language
abbrev pub style_of : Language → LanguageStyle
style_of (Version version) = LanguageStyle.Brackets
style_of Strftime = LanguageStyle.Percents

-- the levels of the warnings about the parts of what a text spells
abbrev pub found_in : Language → Levels → List Tree → Levels
found_in language levels list = found levels (style_of language) (leaves_in list)

-- The text spells a list in the language, and these are the levels of its warnings.
abbrev pub IsFoundIn : Language → Levels → Text → Levels → Type 0
IsFoundIn language levels text reported = (list : List Tree) × SpellsIn language nesting_limit text list
    × (reported ≡ found_in language levels list)

-- the parts of what was read
abbrev pub output_parts : BorrowedOutput → List Tree
output_parts (Items items) = leaves_all (trees (item_trees items.items))
output_parts (Description d) = leaves (description_tree d)
