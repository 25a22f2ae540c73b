-- Equality of faults.
use Rattle.std.specs.Prelude.{Bool}
use Rattle.timefd_lang_fault.specs.declared.invalid_format_description.InvalidFormatDescription.{InvalidFormatDescription}
use Rattle.timefd_lang_fault.specs.contracts.invalid_format_description.InvalidFormatDescriptionPartialEq.TheImpl as fault_eq

-- `==` of faults
abbrev pub same_fault : InvalidFormatDescription → InvalidFormatDescription → Bool
same_fault = (fault_eq.ghosts).eq
