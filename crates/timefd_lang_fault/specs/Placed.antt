-- Where the fault of an error is.
use Rattle.std.specs.Prelude.{⊤}
use Rattle.std.specs.Str.{IsCharBoundary}
use Rattle.timefd_lang_fault.specs.Faults.{Text, Fault, fault_of}
use Rattle.timefd_lang_fault.specs.declared.borrowed_parse_error.ParseError.{ParseError}
use Rattle.timefd_lang_fault.specs.declared.borrowed_parse_error.ParseError.TheVariants.{Invalid, Memory}

-- The fault is in the text or at its end, between two characters.
abbrev pub IsPlaced : Text → Fault → Type 0
IsPlaced text f = IsCharBoundary text f.index

-- a fault at such a position, or out of memory
abbrev pub HasPlacedFault : Text → ParseError → Type 0
HasPlacedFault text (Invalid f) = IsPlaced text (fault_of f)
HasPlacedFault text (Memory e) = ⊤
