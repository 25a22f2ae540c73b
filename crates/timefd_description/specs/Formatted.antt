-- The answers for a text that is to write a moment.
use Rattle.std.specs.Prelude.{ℕ, ◌≡◌, Result, Ok, Err, ⊤}
use Rattle.std.specs.declared.alloc.Global.{Global}
use Rattle.std.specs.declared.vec.Vec.{Vec}
use Rattle.timefd_lang_fault.specs.BorrowedFaults.{to_borrowed_fault}
use Rattle.timefd_parse.specs.Tree.{Text}
use Rattle.timefd_lang_fault.specs.Faults.{Fault}
use Rattle.timefd_date_format.specs.declared.text.TextError.{TextError}
use Rattle.timefd_date_format.specs.declared.text.TextError.TheVariants as texts
use Rattle.timefd_date_format.specs.declared.field.Unshown.{Unshown}
use Rattle.timefd_description.specs.declared.format_error.FormatTextError.{FormatTextError}
use Rattle.timefd_description.specs.declared.format_error.FormatTextError.TheVariants as fails

abbrev pub of_text_error : TextError → FormatTextError
of_text_error (texts.Unshown u) = fails.Unshown u
of_text_error (texts.Memory e) = fails.Memory e

-- The answer is the text that is to be written, or the first component that shows nothing, or that
-- memory ran out.
abbrev pub IsShownAs : Result Text Unshown → Result (Vec ℕ Global) FormatTextError → Type 0
IsShownAs (Ok text) (Ok answer) = answer.items ≡ text
IsShownAs (Ok text) (Err (fails.Fault f)) = ⊥
IsShownAs (Ok text) (Err (fails.Unshown u)) = ⊥
IsShownAs (Ok text) (Err (fails.Memory e)) = ⊤
IsShownAs (Err v) (Ok answer) = ⊥
IsShownAs (Err v) (Err (fails.Fault f)) = ⊥
IsShownAs (Err v) (Err (fails.Unshown u)) = u ≡ v
IsShownAs (Err v) (Err (fails.Memory e)) = ⊤

-- The error is this fault.
abbrev pub IsFaulty : Fault → FormatTextError → Type 0
IsFaulty f (fails.Fault g) = to_borrowed_fault g ≡ f
IsFaulty f (fails.Unshown u) = ⊥
IsFaulty f (fails.Memory e) = ⊥

-- The error is that memory ran out.
abbrev pub IsMemory : FormatTextError → Type 0
IsMemory (fails.Fault g) = ⊥
IsMemory (fails.Unshown u) = ⊥
IsMemory (fails.Memory e) = ⊤

-- The answer is this fault.
abbrev pub IsRefusedFor : Fault → Result (Vec ℕ Global) FormatTextError → Type 0
IsRefusedFor f (Ok answer) = ⊥
IsRefusedFor f (Err e) = IsFaulty f e
