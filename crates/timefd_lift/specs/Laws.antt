-- Laws about the texts of version 3 that are written.
use Rattle.std.specs.Prelude.{ℕ, ◌≡◌, List, [], ◌∷◌}
use Rattle.timefd_lang_component.specs.declared.component.Component.{Component}
use Rattle.timefd_lang_component.specs.Modern.{modern}
use Rattle.timefd_lang_component.specs.Tree.{Text, Tree, component}
use Rattle.timefd_language.specs.declared.description_version.DescriptionVersion.TheVariants.{Two, Three}
use Rattle.timefd_language.specs.Grammar.{Spells}
use Rattle.timefd_lift.specs.Plain.{IsCounted}
use Rattle.timefd_lift.specs.Written.{component_text, written}

-- Version 3 reads the text of a component as that component, or for a deprecated one as the
-- component that it stands for.
abbrev pub ComponentsRead : Type 0
ComponentsRead = (limit : ℕ) (c : Component) → IsCounted c
    → Spells Three limit 0 (component_text (modern c)) (component (modern c) ∷ [])

-- What version 2 spells, version 3 spells once it is rewritten.
abbrev pub Writing : Type 0
Writing = (limit : ℕ) (text : Text) (list : List Tree) → Spells Two limit 0 text list
    → Spells Three limit 0 (written list) list

-- Version 2 also spells it with the same items.
abbrev pub ReadAlike : Type 0
ReadAlike = (limit : ℕ) (text : Text) (list : List Tree) → Spells Two limit 0 text list
    → Spells Two limit 0 (written list) list

-- Rewriting a second time changes nothing: version 2 reads what was written, and what is written
-- from those items is the same text.
abbrev pub WrittenOnce : Type 0
WrittenOnce = (limit : ℕ) (text : Text) (list other : List Tree) → Spells Two limit 0 text list
    → Spells Two limit 0 (written list) other
    → written other ≡ written list
