-- How the answer relates to the text of version 1 that it was made from.
use Rattle.std.specs.Prelude.{◌≡◌, List, Result, Ok, Err, string_bytes}
use Rattle.std.specs.declared.string.String.{String}
use Rattle.std.specs.declared.alloc.Global.{Global}
use Rattle.timefd_lang_component.specs.Tree.{Text, Tree, joined}
use Rattle.timefd_language.specs.declared.description_version.DescriptionVersion.TheVariants.{One, Two}
use Rattle.timefd_lang_fault.specs.declared.borrowed_parse_error.ParseError.{ParseError}
use Rattle.timefd_lang_fault.specs.Reported.{MemoryAlone}
use Rattle.timefd_language.specs.Grammar.{Pieces, ArePieces, spelling, Spells, nesting_limit}
use Rattle.timefd_language.specs.Rewritten.{rewritten}

-- version 1 spells the text by these pieces
abbrev pub IsSpelledBy : Pieces → Text → Type 0
IsSpelledBy ps text = ArePieces One nesting_limit 0 ps × (text ≡ spelling ps)

-- version 1 spells the text, and this is what it is rewritten to
abbrev pub IsRewritten : Text → Text → Type 0
IsRewritten text answer = (ps : Pieces) × IsSpelledBy ps text × (answer ≡ rewritten ps)

-- version 2 spells the answer as version 1 spells the text, once neighbouring literals are joined
abbrev pub HasItemsOf : Text → Text → Type 0
HasItemsOf text answer =
    (list : List Tree) → Spells One nesting_limit 0 text list
    → (other : List Tree) × Spells Two nesting_limit 0 answer other × (joined other ≡ joined list)

-- the result is this text, or memory ran out
abbrev pub IsTextOrMemory : Text → Result (String Global) ParseError → Type 0
IsTextOrMemory text (Ok answer) = string_bytes answer ≡ text
IsTextOrMemory text (Err e) = MemoryAlone e
