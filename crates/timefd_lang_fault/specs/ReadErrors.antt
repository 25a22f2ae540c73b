-- What an error of a reader says.
use Rattle.std.specs.Prelude.{ℕ, ◌≡◌, ◌+◌, ⊤}
use Rattle.timefd_lang_fault.specs.Faults.{Fault}
use Rattle.timefd_lang_fault.specs.RuleKinds.{rule_kind}
use Rattle.timefd_lang_fault.specs.declared.read_error.Fault as code_fault
use Rattle.timefd_lang_fault.specs.declared.read_error.ReadError as code_error
use Rattle.timefd_lang_fault.specs.declared.read_error.ReadError.TheVariants as errors

-- the fault of a text with this many bytes
pub record IsFault (total : ℕ) (f : code_fault.Fault) (g : Fault) : Type 0 where
  pub kind : g.kind ≡ rule_kind f.rule
  pub position : g.index + f.remaining ≡ total

-- out of memory, or a fault for which this holds
abbrev pub MemoryOr : (code_fault.Fault → Type 0) → code_error.ReadError → Type 0
MemoryOr P (errors.Invalid f) = P f
MemoryOr P errors.Memory = ⊤

-- a fault of the text, and not that memory ran out
abbrev pub IsInvalid : code_error.ReadError → Type 0
IsInvalid (errors.Invalid f) = ⊤
IsInvalid errors.Memory = ⊥
