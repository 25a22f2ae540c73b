-- What holds for the normal form.
use Rattle.std.specs.Prelude.{ℕ, ◌≡◌, ◌↔◌, List, None}
use Rattle.timefd_lang_component.specs.Tree.{Text, Tree, pack}
use Rattle.timefd_language.specs.declared.description_version.DescriptionVersion.TheVariants.{Three}
use Rattle.timefd_language.specs.Grammar.{Spells}
use Rattle.timefd_lang_convert.specs.Printing.Printed.{printed, unpacked}
use Rattle.timefd_lang_convert.specs.Printing.Reasons.{reason, HasCounts}

-- the text spells the tree
abbrev pub SpellsTree : ℕ → Text → Tree → Type 0
SpellsTree limit text tree = (list : List Tree) × Spells Three limit 0 text list
    × (pack list ≡ tree)

-- If there is no reason against a tree, its printed text spells it.
abbrev pub Printing : Type 0
Printing = (limit : ℕ) (tree : Tree) → reason limit tree ≡ None → HasCounts tree
    → Spells Three limit 0 (printed tree) (unpacked tree) × (pack (unpacked tree) ≡ tree)

-- There is no reason against a tree that some text spells.
abbrev pub Spelled : Type 0
Spelled = (limit : ℕ) (text : Text) (tree : Tree) → SpellsTree limit text tree
    → (reason limit tree ≡ None) × HasCounts tree

-- The printed text of a tree that was read reads as the same tree.
abbrev pub ReadsBack : Type 0
ReadsBack = (limit : ℕ) (text : Text) (list : List Tree) → Spells Three limit 0 text list
    → Spells Three limit 0 (printed (pack list)) list

-- A printed text, read and printed a second time, stays the same.
abbrev pub PrintedOnce : Type 0
PrintedOnce = (limit : ℕ) (text : Text) (tree other : Tree) → SpellsTree limit text tree
    → SpellsTree limit (printed tree) other → printed other ≡ printed tree

-- Two texts have the same tree exactly if they print alike.
abbrev pub PrintAlike : Type 0
PrintAlike = (limit : ℕ) (s t : Text) (a b : Tree) → SpellsTree limit s a → SpellsTree limit t b
    → (a ≡ b) ↔ (printed a ≡ printed b)
