-- The answers for a text that is to be read by the text of a description.
use Rattle.std.specs.Prelude.{◌≡◌, List, Result, Ok, Err, ⊤}
use Rattle.timefd_lang_fault.specs.declared.borrowed_parse_error.BorrowedParseError.{BorrowedParseError}
use Rattle.timefd_lang_fault.specs.declared.borrowed_parse_error.BorrowedParseError.TheVariants as parses
use Rattle.timefd_lang_fault.specs.BorrowedFaults.{to_borrowed_fault}
use Rattle.timefd_parse.specs.Tree.{Text, Tree, compound, trees}
use Rattle.timefd_lang_fault.specs.Faults.{Fault}
use Rattle.timefd_date_moment.specs.declared.moment.Moment.{Moment}
use Rattle.timefd_date_moment.specs.declared.fields.fault.ReadError.{ReadError}
use Rattle.timefd_date_moment.specs.declared.fields.fields.Fields.{Fields}
use Rattle.timefd_date_moment.specs.Fields.Reads.{fields_of}
use Rattle.timefd_date_moment.specs.Reading.Values.{IsMomentOf}
use Rattle.timefd_description.specs.declared.read_error.ReadTextError.{ReadTextError}
use Rattle.timefd_description.specs.declared.read_error.ReadTextError.TheVariants as fails

-- the fields that the whole text shows by a description of these items, or the first fault
abbrev pub fields_in : List Tree → Text → Result Fields ReadError
fields_in list text = fields_of (compound (trees list)) text

-- the fields or the fault, as the caller gets them
abbrev pub read_answer : Result Fields ReadError → Result Fields ReadTextError
read_answer (Ok f) = Ok f
read_answer (Err u) = Err (fails.Unread u)

abbrev pub of_parse_error : BorrowedParseError → ReadTextError
of_parse_error (parses.Invalid f) = fails.Fault f
of_parse_error (parses.Memory e) = fails.Memory e

-- The answer is these fields, or the first part that doesn't read, or that memory ran out.
abbrev pub AreFieldsAs : Result Fields ReadError → Result Fields ReadTextError → Type 0
AreFieldsAs (Ok f) (Ok g) = g ≡ f
AreFieldsAs (Ok f) (Err (fails.Fault b)) = ⊥
AreFieldsAs (Ok f) (Err (fails.Unread u)) = ⊥
AreFieldsAs (Ok f) (Err (fails.Value v)) = ⊥
AreFieldsAs (Ok f) (Err (fails.Memory e)) = ⊤
AreFieldsAs (Err w) (Ok g) = ⊥
AreFieldsAs (Err w) (Err (fails.Fault b)) = ⊥
AreFieldsAs (Err w) (Err (fails.Unread u)) = u ≡ w
AreFieldsAs (Err w) (Err (fails.Value v)) = ⊥
AreFieldsAs (Err w) (Err (fails.Memory e)) = ⊤

-- The answer is the moment that has these fields, or why none has, or the first part that doesn't
-- read, or that memory ran out.
abbrev pub IsReadAs : Result Fields ReadError → Result Moment ReadTextError → Type 0
IsReadAs (Ok f) (Ok m) = IsMomentOf f (Ok m)
IsReadAs (Ok f) (Err (fails.Fault b)) = ⊥
IsReadAs (Ok f) (Err (fails.Unread u)) = ⊥
IsReadAs (Ok f) (Err (fails.Value v)) = IsMomentOf f (Err v)
IsReadAs (Ok f) (Err (fails.Memory e)) = ⊤
IsReadAs (Err w) (Ok m) = ⊥
IsReadAs (Err w) (Err (fails.Fault b)) = ⊥
IsReadAs (Err w) (Err (fails.Unread u)) = u ≡ w
IsReadAs (Err w) (Err (fails.Value v)) = ⊥
IsReadAs (Err w) (Err (fails.Memory e)) = ⊤

-- The error is this fault.
abbrev pub IsFaulty : Fault → ReadTextError → Type 0
IsFaulty f (fails.Fault g) = to_borrowed_fault g ≡ f
IsFaulty f (fails.Unread u) = ⊥
IsFaulty f (fails.Value v) = ⊥
IsFaulty f (fails.Memory e) = ⊥

-- The error is that memory ran out.
abbrev pub IsMemory : ReadTextError → Type 0
IsMemory (fails.Fault g) = ⊥
IsMemory (fails.Unread u) = ⊥
IsMemory (fails.Value v) = ⊥
IsMemory (fails.Memory e) = ⊤

-- If the error is a fault, this holds for it.
abbrev pub HasFaultOf : (Fault → Type 0) → ReadTextError → Type 0
HasFaultOf P (fails.Fault g) = P (to_borrowed_fault g)
HasFaultOf P (fails.Unread u) = ⊤
HasFaultOf P (fails.Value v) = ⊤
HasFaultOf P (fails.Memory e) = ⊤

-- The answer is this fault.
abbrev pub IsRefusedFor : {A : Type 0} → Fault → Result A ReadTextError → Type 0
IsRefusedFor f (Ok a) = ⊥
IsRefusedFor f (Err e) = IsFaulty f e
