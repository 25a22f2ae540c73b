-- The language with a number, and what a text is in it.
use Rattle.std.specs.Prelude.{ℕ, ◌==◌, if◌then◌else◌, Option, Some, None, List}
use Rattle.timefd_lang_component.specs.Tree.{Text, Tree}
use Rattle.timefd_parse.specs.Faults.{Fault}
use Rattle.timefd_language.specs.declared.description_version.DescriptionVersion.TheVariants.{One, Two, Three}
use Rattle.timefd_language.specs.declared.description_version.Language.{Language}
use Rattle.timefd_language.specs.declared.description_version.Language.TheVariants.{Version, Strftime}
use Rattle.timefd_language.specs.Grammar.{nesting_limit}
use Rattle.timefd_parse.specs.Language as spec

-- the language with a number, if there is one
abbrev pub language_of : ℕ → Option Language
language_of number =
    if number == 1 then Some (Version One)
    else if number == 2 then Some (Version Two)
    else if number == 3 then Some (Version Three)
    else if number == 4 then Some Strftime
    else None

-- The text spells the list in the language, with at most `limit` nested descriptions around one another.
abbrev pub SpellsWithin : Option Language → ℕ → Text → List Tree → Type 0
SpellsWithin (Some language) limit text list = spec.SpellsIn language limit text list
SpellsWithin None limit text list = ⊥

-- The rules of the language assign the fault to the text, with at most `limit` nested descriptions around
-- one another.
abbrev pub FaultWithin : Option Language → ℕ → Text → Fault → Type 0
FaultWithin (Some language) limit text f = spec.FaultIn language limit text f
FaultWithin None limit text f = ⊥

-- what the text spells, and which fault it has, with the greatest limit on nesting
abbrev pub SpellsIn : Option Language → Text → List Tree → Type 0
SpellsIn language text list = SpellsWithin language nesting_limit text list

abbrev pub FaultIn : Option Language → Text → Fault → Type 0
FaultIn language text f = FaultWithin language nesting_limit text f

-- how many items the list has, or in version 3 how many bytes it reserves
abbrev pub amount : Option Language → List Tree → ℕ
amount (Some language) list = spec.amount language list
amount None list = 0
