-- The borrowed error for a reader's error, if its fault is one that rules assign to the text.
use Rattle.std.proofs.Common.{◌≡◌, ◌∙◌, ℕ, sym, subst}
use Rattle.timefd_lang_fault.specs.Faults.{Fault}
use Rattle.timefd_lang_fault.specs.declared.read_error.Fault as code_fault
use Rattle.timefd_lang_fault.specs.declared.read_error.ReadError.{ReadError}
use Rattle.timefd_lang_fault.specs.declared.read_error.ReadError.TheVariants as errors
use Rattle.timefd_lang_fault.specs.ReadErrors.{IsFault, MemoryOr}
use Rattle.timefd_lang_fault.specs.ReadErrors.{IsInvalid}
use Rattle.timefd_lang_fault.specs.declared.borrowed_parse_error.BorrowedParseError.{BorrowedParseError}
use Rattle.timefd_lang_fault.specs.declared.borrowed_parse_error.BorrowedParseError.TheVariants.{Invalid, Memory}
use Rattle.timefd_lang_fault.specs.BorrowedFaults.{IsBorrowed, IsBorrowedOf, IsMemory, IsRefusal, Borrows}

-- the fault of the code is one of these, in a text with this many bytes
pub record Assigned (Rules : Fault → Type 0) (len : ℕ) (f : code_fault.Fault) : Type 0 where
  pub g : Fault
  pub assigned : Rules g
  pub is : IsFault len f g

module _ (Rules : Fault → Type 0) (len : ℕ) where
  pub borrowed_of : (e : ReadError) (r : BorrowedParseError) → MemoryOr (Assigned Rules len) e
      → Borrows len e r → IsBorrowedOf Rules r
  borrowed_of e (Memory m) w borrowed = tt
  borrowed_of errors.Memory (Invalid x) w borrowed = absurd borrowed
  borrowed_of (errors.Invalid f) (Invalid x) w borrowed = subst Rules (sym (borrowed w.g w.is)) w.assigned

  -- if the rules assign none, memory ran out
  pub borrowed_none : ((g : Fault) → Rules g → ⊥) → (e : ReadError) (r : BorrowedParseError)
      → MemoryOr (Assigned Rules len) e → Borrows len e r → IsMemory r
  borrowed_none none e (Memory m) w borrowed = tt
  borrowed_none none errors.Memory (Invalid x) w borrowed = borrowed
  borrowed_none none (errors.Invalid f) (Invalid x) w borrowed = none w.g w.assigned

  -- if memory did not run out, a fault is borrowed, and if the rules assign one, it is that one
  pub borrowed_refusal : (e : ReadError) (r : BorrowedParseError) → MemoryOr (Assigned Rules len) e
      → IsInvalid e → Borrows len e r → IsRefusal r
  borrowed_refusal e (Invalid x) w is borrowed = tt
  borrowed_refusal errors.Memory (Memory m) w is borrowed = absurd is
  borrowed_refusal (errors.Invalid f) (Memory m) w is borrowed = borrowed w.g w.is

  pub borrowed_one : (f : Fault) → ((g : Fault) → Rules g → g ≡ f) → (e : ReadError)
      (r : BorrowedParseError) → MemoryOr (Assigned Rules len) e → IsInvalid e → Borrows len e r
      → IsBorrowed f r
  borrowed_one f one errors.Memory r w is borrowed = absurd is
  borrowed_one f one (errors.Invalid x) (Invalid y) w is borrowed = borrowed w.g w.is ∙ one w.g w.assigned
  borrowed_one f one (errors.Invalid x) (Memory m) w is borrowed = borrowed w.g w.is
