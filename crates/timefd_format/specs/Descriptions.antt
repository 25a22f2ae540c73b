-- What the text of a description is read as.
use Rattle.std.specs.Prelude.{◌≡◌, List, map}
use Rattle.timefd_lang_component.specs.Tree.{Text, Tree}
use Rattle.timefd_parse.specs.Faults.{fault_of}
use Rattle.timefd_lang_node_list.specs.Item.Meaning.{item_tree}
use Rattle.timefd_parse.specs.Grammar.{nesting_limit}
use Rattle.timefd_parse.specs.LanguageType.{Language}
use Rattle.timefd_parse.specs.LanguageType.TheVariants.{Version, Strftime}
use Rattle.timefd_parse.specs.declared.parsing.BorrowedOutput.{BorrowedOutput}
use Rattle.timefd_parse.specs.declared.parsing.BorrowedOutput.TheVariants.{Items, Description}
use Rattle.timefd_parse.specs.Answers.{IsOutput}
use Rattle.timefd_parse.specs.Language.{SpellsIn, FaultIn}
use Rattle.timefd_format.specs.declared.description.DescriptionReading.{DescriptionReading}
use Rattle.timefd_format.specs.declared.description.DescriptionReading.TheVariants as read

abbrev pub IsSpelled : Language → Text → Type 0
IsSpelled language text = (list : List Tree) × SpellsIn language nesting_limit text list

-- items of strftime that are this list
abbrev pub AreItems : List Tree → BorrowedOutput → Type 0
AreItems list (Items items) = map item_tree items.items ≡ list
AreItems list (Description d) = ⊥

abbrev pub IsOutputIn : Language → List Tree → BorrowedOutput → Type 0
IsOutputIn (Version v) list output = IsOutput v list output
IsOutputIn Strftime list output = AreItems list output

-- The description is the one that the text spells.
abbrev pub IsDescribed : Language → Text → BorrowedOutput → Type 0
IsDescribed language text output = (list : List Tree)
    × SpellsIn language nesting_limit text list × IsOutputIn language list output

-- A text is refused only for the fault that the rules assign to it.
abbrev pub IsReading : Language → Text → DescriptionReading → Type 0
IsReading language text (read.Description output) = IsDescribed language text output
IsReading language text (read.Refused d) = FaultIn language nesting_limit text (fault_of d.fault)
