-- The owned error for a borrowed one.
use Rattle.std.proofs.Common.{◌∙◌, IsTrue, sym, subst}
use Rattle.timefd_lang_fault.specs.Faults.{Fault, fault_of, quotes}
use Rattle.timefd_lang_fault.specs.declared.invalid_format_description.InvalidFormatDescription.{InvalidFormatDescription}
use Rattle.timefd_lang_fault.specs.declared.borrowed_parse_error.ParseError.{ParseError}
use Rattle.timefd_lang_fault.specs.declared.borrowed_parse_error.ParseError.TheVariants as reported
use Rattle.timefd_lang_fault.specs.Reported.{IsFaultOrMemory, MemoryAlone}
use Rattle.timefd_lang_fault.specs.declared.borrowed_parse_error.BorrowedParseError.{BorrowedParseError}
use Rattle.timefd_lang_fault.specs.declared.borrowed_parse_error.BorrowedParseError.TheVariants.{Invalid, Memory}
use Rattle.timefd_lang_fault.specs.BorrowedFaults.{IsBorrowed, IsBorrowedOf, IsMemory, IsOwned}

pub owned_memory : (e : BorrowedParseError) (r : ParseError) → IsMemory e → IsOwned e r
    → MemoryAlone r
owned_memory (Invalid f) r is owned = absurd is
owned_memory (Memory m) r is owned = owned

pub owned_fault : (f : Fault) (e : BorrowedParseError) (r : ParseError) → IsBorrowed f e
    → IsOwned e r → IsFaultOrMemory f r
owned_fault f (Invalid g) (reported.Invalid x) is owned = owned ∙ is
owned_fault f (Invalid g) (reported.Memory n) is owned = subst (λ (h : Fault). IsTrue (quotes h.kind)) is owned
owned_fault f (Memory m) r is owned = absurd is

pub owned_of : (P : Fault → Type 0) (e : BorrowedParseError) (x : InvalidFormatDescription)
    → IsBorrowedOf P e → IsOwned e (reported.Invalid x) → P (fault_of x)
owned_of P (Invalid f) x is owned = subst P (sym owned) is
owned_of P (Memory m) x is owned = absurd owned
