-- From what the formatter returns to what is reported.
use Rattle.std.proofs.Common.{ℕ, ◌≡◌, ◌∙◌, Option, None, Result, Ok, Err, IfOk, subst}
use Rattle.std.proofs.lemmas.Result.{IfOk-weaker}
use Rattle.std.specs.declared.alloc.AllocError.{AllocError}
use Rattle.std.specs.declared.alloc.Global.{Global}
use Rattle.std.specs.declared.string.String.{String}
use Rattle.std.specs.declared.vec.Vec.{Vec}
use Rattle.timefd_parse.specs.BorrowedFault.{BorrowedFault}
use Rattle.timefd_parse.specs.Tree.{Text}
use Rattle.timefd_date_format.specs.declared.field.Unshown.{Unshown}
use Rattle.timefd_description.specs.Formatted.{IsShownAs}
use Rattle.timefd_description.specs.declared.format_error.FormatTextError.TheVariants as fails
use Rattle.timefd_web.specs.Reports.{IsTextOf, IsWritten}

pub shown_text : (x : Result Text Unshown) (bytes : Vec ℕ Global) (borrowed : Text)
    (r : Result (Option (String Global)) AllocError) → IsShownAs x (Ok bytes)
    → borrowed ≡ bytes.items → IfOk r (IsTextOf borrowed) → IfOk r (IsWritten x)
shown_text (Ok text) bytes borrowed r is same shown =
    IfOk-weaker r _ _ (λ w h. subst (λ t. IsTextOf t w) (same ∙ is) h) shown
shown_text (Err u) bytes borrowed r is same shown = absurd is

pub shows_nothing : (x : Result Text Unshown) (u : Unshown) → IsShownAs x (Err (fails.Unshown u))
    → IsWritten x None
shows_nothing (Ok text) u is = absurd is
shows_nothing (Err v) u is = tt

pub not_faulty : (x : Result Text Unshown) (f : BorrowedFault)
    → IsShownAs x (Err (fails.Fault f)) → ⊥
not_faulty (Ok text) f is = is
not_faulty (Err v) f is = is
