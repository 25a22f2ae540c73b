-- What an error of the public calls says.
use Rattle.std.specs.Prelude.{◌≡◌, IsTrue, ⊤}
use Rattle.timefd_lang_fault.specs.Faults.{Fault, fault_of, quotes}
use Rattle.timefd_lang_fault.specs.declared.borrowed_parse_error.ParseError.{ParseError}
use Rattle.timefd_lang_fault.specs.declared.borrowed_parse_error.ParseError.TheVariants.{Invalid, Memory}

-- out of memory
abbrev pub MemoryAlone : ParseError → Type 0
MemoryAlone (Invalid f) = ⊥
MemoryAlone (Memory e) = ⊤

-- this fault or, only if it quotes the text, out of memory
abbrev pub IsFaultOrMemory : Fault → ParseError → Type 0
IsFaultOrMemory f (Invalid g) = fault_of g ≡ f
IsFaultOrMemory f (Memory e) = IsTrue (quotes f.kind)
