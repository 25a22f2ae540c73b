-- How the answer relates to the text of version 2 that it was made from.
use Rattle.std.specs.Prelude.{◌≡◌, List}
use Rattle.timefd_lang_component.specs.Tree.{Text, Tree}
use Rattle.timefd_language.specs.declared.description_version.DescriptionVersion.TheVariants.{Two, Three}
use Rattle.timefd_language.specs.Grammar.{Spells, nesting_limit}
use Rattle.timefd_lift.specs.Written.{written}

-- version 2 spells the text with a list, and this is what is written from the list
abbrev pub IsWrittenOf : Text → Text → Type 0
IsWrittenOf text answer = (list : List Tree) × Spells Two nesting_limit 0 text list
    × (answer ≡ written list)

-- version 3 spells the answer as version 2 spells the text
abbrev pub KeepsItemsOf : Text → Text → Type 0
KeepsItemsOf text answer = (list : List Tree) → Spells Two nesting_limit 0 text list
    → Spells Three nesting_limit 0 answer list

-- version 2 spells the answer as it spells the text
abbrev pub IsReadAlike : Text → Text → Type 0
IsReadAlike text answer = (list : List Tree) → Spells Two nesting_limit 0 text list
    → Spells Two nesting_limit 0 answer list
