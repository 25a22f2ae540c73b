-- The items that pieces mean.
use Rattle.std.specs.Prelude.{◌≡◌, List, [], ◌∷◌, ◌++◌}
use Rattle.timefd_lang_component.specs.Tree.{Text, Tree, joined}
use Rattle.timefd_lang_dialect.specs.declared.dialect.Dialect.{Dialect}
use Rattle.timefd_lang_dialect.specs.Reading.{Piece, Means}
use Rattle.timefd_language.specs.declared.description_version.DescriptionVersion.TheVariants.{Three}
use Rattle.timefd_language.specs.Grammar.{Spells, nesting_limit}

-- the items that version 3 spells with the text of each piece, one piece after another
abbrev pub AreItemsOf : List Piece → List Tree → Type 0
AreItemsOf [] items = items ≡ []
AreItemsOf (p ∷ ps) items =
    (front : List Tree) × (back : List Tree) × Spells Three nesting_limit 0 p.text front
    × AreItemsOf ps back × (items ≡ front ++ back)

-- in version 3 the text spells just the items of the pieces, once neighbouring literals are joined
abbrev pub SpellsItemsOf : List Piece → Text → Type 0
SpellsItemsOf ps text =
    (items : List Tree) × (list : List Tree) × AreItemsOf ps items
    × Spells Three nesting_limit 0 text list × (joined list ≡ joined items)

-- in version 3 the text spells just the items of what the format means
abbrev pub IsSpelledBy : Dialect → Text → Text → Type 0
IsSpelledBy dialect format text =
    (ps : List Piece) × Means dialect format ps × SpellsItemsOf ps text
