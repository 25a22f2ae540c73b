-- How the result of a conversion relates to the text that it was made from.
use Rattle.std.specs.Prelude.{◌≡◌, List}
use Rattle.timefd_lang_component.specs.Tree.{Text, Tree, joined, pack, trees}
use Rattle.timefd_lang_convert.specs.Laws.{SpellsFlat}
use Rattle.timefd_language.specs.declared.description_version.DescriptionVersion.TheVariants.{One, Three}
use Rattle.timefd_language.specs.Grammar.{Spells, nesting_limit}
use Rattle.timefd_language.specs.Strftime.{SpellsStrftime}
use Rattle.timefd_lift.specs.Answers.{IsRewritten}
use Rattle.timefd_lift.specs.Modernized.{IsWrittenOf}
use Rattle.timefd_lang_convert.specs.Printing.Printed.{printed, printed_all}

-- From strftime.

-- strftime spells the text with a list, and this is the list as it is printed
abbrev pub IsPrintedOf : Text → Text → Type 0
IsPrintedOf text answer = (list : List Tree) × SpellsStrftime text list
    × (answer ≡ printed_all (trees list))

-- Version 3 spells the result with the items that strftime spells the text with, once compounds are
-- taken apart and neighbouring literals are joined.
abbrev pub HasStrftimeItems : Text → Text → Type 0
HasStrftimeItems text answer = (list : List Tree) → SpellsStrftime text list
    → SpellsFlat nesting_limit answer list

-- From version 1 to version 3.

-- version 1 spells the text; it is rewritten to version 2, and this is that text written in version
-- 3
abbrev pub IsWrittenOver : Text → Text → Type 0
IsWrittenOver text answer = (between : Text) × IsRewritten text between × IsWrittenOf between answer

-- version 3 spells the result with the items that version 1 spells the text with, once neighbouring
-- literals are joined
abbrev pub HasItemsOver : Text → Text → Type 0
HasItemsOver text answer =
    (list : List Tree) → Spells One nesting_limit 0 text list
    → (other : List Tree) × Spells Three nesting_limit 0 answer other
    × (joined other ≡ joined list)

-- From version 3 to its normal form.

-- version 3 spells the text, and this is the normal form of what it spells
abbrev pub IsNormalOf : Text → Text → Type 0
IsNormalOf text answer = (list : List Tree) × Spells Three nesting_limit 0 text list
    × (answer ≡ printed (pack list))

-- version 3 spells the result with the tree that it spells the text with
abbrev pub KeepsTree : Text → Text → Type 0
KeepsTree text answer = (list : List Tree) → Spells Three nesting_limit 0 text list
    → Spells Three nesting_limit 0 answer list
