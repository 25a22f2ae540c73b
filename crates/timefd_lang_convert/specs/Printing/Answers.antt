-- What the call answers for a description.
use Rattle.std.specs.Prelude.{◌≡◌, Option, Some, None, ⊤}
use Rattle.timefd_lang_convert.specs.declared.printing.error.PrintError.{PrintError}
use Rattle.timefd_lang_convert.specs.declared.printing.error.PrintError.TheVariants as errors
use Rattle.timefd_lang_convert.specs.declared.printing.error.Unspelled.{Unspelled}

-- the error is the reason, or out of memory if there is none
abbrev pub IsReason : Option Unspelled → PrintError → Type 0
IsReason reason (errors.Unspelled other) = reason ≡ Some other
IsReason reason (errors.Memory e) = reason ≡ None

abbrev pub IsMemory : PrintError → Type 0
IsMemory (errors.Unspelled reason) = ⊥
IsMemory (errors.Memory e) = ⊤
