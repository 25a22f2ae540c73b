-- What holds for the definitions.
use Rattle.std.specs.Prelude.{◌≡◌, ◌↔◌, true}
use Rattle.timefd_lang_fault.specs.declared.invalid_format_description.InvalidFormatDescription.{InvalidFormatDescription}
use Rattle.timefd_lang_fault.specs.Faults.{fault_of}
use Rattle.timefd_lang_fault.specs.Equality.{same_fault}

-- `==` compares the variants and the fields of faults.
abbrev pub FaultEquality : Type 0
FaultEquality = (a b : InvalidFormatDescription)
    → (same_fault a b ≡ true) ↔ (fault_of a ≡ fault_of b)
