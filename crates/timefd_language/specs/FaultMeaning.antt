-- How the faults of the code relate to those of the rules.
use Rattle.std.specs.Prelude.{ℕ, ◌≡◌, length}
use Rattle.timefd_lang_component.specs.Tree.{Text}
use Rattle.timefd_lang_fault.specs.ReadErrors.{IsFault}
use Rattle.timefd_lang_fault.specs.declared.read_error.Fault as code_fault
use Rattle.timefd_language.specs.Broken.{Broken, IsBroken, broken_text, broken_fault}
use Rattle.timefd_language.specs.declared.description_version.DescriptionVersion.{DescriptionVersion}

-- the text begins with a construct that no piece begins with, and the code's fault is that of the construct
abbrev pub IsFaultAt : DescriptionVersion → ℕ → ℕ → Text → code_fault.Fault → Type 0
IsFaultAt v limit n text f =
    (b : Broken) × IsBroken v limit n b × (text ≡ broken_text b)
    × IsFault (length text) f (broken_fault b)
