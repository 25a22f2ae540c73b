-- Faults that borrow what they quote, and what an error with such a fault says.
use Rattle.std.specs.Prelude.{ℕ, ◌≡◌, ◌+◌, ◌≤◌, length, min, ⊤}
use Rattle.timefd_lang_fault.specs.Faults.{Kind, Fault, fault, unclosed_bracket, invalid_name, invalid_modifier, missing_name, missing_modifier, expected, not_supported, duplicate_modifier, invalid_combination}
use Rattle.timefd_lang_fault.specs.declared.read_error.Fault as code_fault
use Rattle.timefd_lang_fault.specs.declared.read_error.ReadError.{ReadError}
use Rattle.timefd_lang_fault.specs.declared.read_error.ReadError.TheVariants as errors
use Rattle.timefd_lang_fault.specs.declared.borrowed_parse_error.ParseError.{ParseError}
use Rattle.timefd_lang_fault.specs.RuleKinds.{rule_kind}
use Rattle.timefd_lang_fault.specs.Slots.{wanted_by}
use Rattle.timefd_lang_fault.specs.ReadErrors.{IsFault}
use Rattle.timefd_lang_fault.specs.Reported.{IsFaultOrMemory, MemoryAlone}
use Rattle.timefd_lang_fault.specs.declared.borrowed_fault.BorrowedFault.{BorrowedFault}
use Rattle.timefd_lang_fault.specs.declared.borrowed_parse_error.BorrowedParseError.{BorrowedParseError}
use Rattle.timefd_lang_fault.specs.declared.borrowed_parse_error.BorrowedParseError.TheVariants.{Invalid, Memory}

-- the fault that is borrowed
abbrev pub to_borrowed_fault : BorrowedFault → Fault
to_borrowed_fault f = fault (rule_kind f.rule) f.start

-- If a kind quotes two words, they are short, as in each fault of a text. So the length of its
-- sentence is a `usize`.
abbrev pub HasShortWords : Kind → Type 0
HasShortWords unclosed_bracket = ⊤
HasShortWords (invalid_name name) = ⊤
HasShortWords (invalid_modifier value) = ⊤
HasShortWords missing_name = ⊤
HasShortWords (missing_modifier key) = ⊤
HasShortWords (expected what) = ⊤
HasShortWords (not_supported what context) = length what + length context ≤ 100
HasShortWords (duplicate_modifier key) = ⊤
HasShortWords (invalid_combination key context) = length key + length context ≤ 100

-- out of memory
abbrev pub IsMemory : BorrowedParseError → Type 0
IsMemory (Invalid f) = ⊥
IsMemory (Memory e) = ⊤

-- a fault, and not that memory ran out
abbrev pub IsRefusal : BorrowedParseError → Type 0
IsRefusal (Invalid f) = ⊤
IsRefusal (Memory e) = ⊥

-- a fault with short words, or out of memory
abbrev pub HasShortFault : BorrowedParseError → Type 0
HasShortFault (Invalid f) = HasShortWords (rule_kind f.rule)
HasShortFault (Memory e) = ⊤

-- this fault
abbrev pub IsBorrowed : Fault → BorrowedParseError → Type 0
IsBorrowed f (Invalid g) = to_borrowed_fault g ≡ f
IsBorrowed f (Memory e) = ⊥

-- out of memory, or a fault for which this holds
abbrev pub IsBorrowedOf : (Fault → Type 0) → BorrowedParseError → Type 0
IsBorrowedOf P (Invalid f) = P (to_borrowed_fault f)
IsBorrowedOf P (Memory e) = ⊤

-- the borrowed error for a reader's error in a text with this many bytes: the fault, or that memory
-- ran out
abbrev pub Borrows : ℕ → ReadError → BorrowedParseError → Type 0
Borrows len errors.Memory borrowed = IsMemory borrowed
Borrows len (errors.Invalid f) borrowed = (g : Fault) → IsFault len f g → IsBorrowed g borrowed

-- the borrowed fault for one of a reader, in a text with this many bytes: it ends no later than the
-- text
pub record IsBorrowedFault (len : ℕ) (f : code_fault.Fault) (g : BorrowedFault) : Type 0 where
  pub kind : rule_kind g.rule ≡ rule_kind f.rule
  pub wanted : wanted_by g.rule ≡ wanted_by f.rule
  pub start : g.start + f.remaining ≡ len
  pub end : g.end ≡ g.start + min f.len f.remaining

-- the fault of the borrowed error, if there is one, is the reader's
abbrev pub BorrowsSpan : ℕ → ReadError → BorrowedParseError → Type 0
BorrowsSpan len errors.Memory borrowed = IsMemory borrowed
BorrowsSpan len (errors.Invalid f) (Invalid g) = IsBorrowedFault len f g
BorrowsSpan len (errors.Invalid f) (Memory e) = ⊥

-- the owned error for a borrowed one: its fault or, if memory runs out, that
abbrev pub IsOwned : BorrowedParseError → ParseError → Type 0
IsOwned (Invalid f) reported = IsFaultOrMemory (to_borrowed_fault f) reported
IsOwned (Memory e) reported = MemoryAlone reported
