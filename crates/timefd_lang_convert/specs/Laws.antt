-- Laws about converted texts.
use Rattle.std.specs.Prelude.{ℕ, ◌≡◌, List}
use Rattle.timefd_lang_component.specs.Tree.{Text, Tree, joined, trees}
use Rattle.timefd_lang_convert.specs.Flat.{flat_all}
use Rattle.timefd_language.specs.declared.description_version.DescriptionVersion.TheVariants.{Three}
use Rattle.timefd_language.specs.Grammar.{Spells}
use Rattle.timefd_language.specs.Strftime.{SpellsStrftime}
use Rattle.timefd_lang_convert.specs.Printing.Printed.{printed_all}

-- the text spells the trees in version 3, once compounds are taken apart and neighbouring literals
-- are joined
abbrev pub SpellsFlat : ℕ → Text → List Tree → Type 0
SpellsFlat limit text list = (other : List Tree) × Spells Three limit 0 text other
    × (joined other ≡ joined (flat_all (trees list)))

-- Version 3 reads the printed text of a strftime text with the same items.
abbrev pub Flattening : Type 0
Flattening = (limit : ℕ) (text : Text) (list : List Tree) → SpellsStrftime text list
    → SpellsFlat limit (printed_all (trees list)) list
