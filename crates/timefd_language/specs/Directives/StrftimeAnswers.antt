-- How the answer of the public call for strftime relates to the text.
use Rattle.std.specs.Prelude.{⊤}
use Rattle.timefd_lang_fault.specs.Faults.{fault_of}
use Rattle.timefd_lang_component.specs.Tree.{Text}
use Rattle.timefd_lang_fault.specs.declared.borrowed_parse_error.ParseError.{ParseError}
use Rattle.timefd_lang_fault.specs.declared.borrowed_parse_error.ParseError.TheVariants.{Invalid, Memory}
use Rattle.timefd_language.specs.Strftime.{StrftimeFaultOf}

-- a fault that the rules assign to the text, or out of memory
abbrev pub IsStrftimeFault : Text → ParseError → Type 0
IsStrftimeFault text (Invalid f) = StrftimeFaultOf text (fault_of f)
IsStrftimeFault text (Memory e) = ⊤
