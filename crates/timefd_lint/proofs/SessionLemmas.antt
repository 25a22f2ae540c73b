-- Sessions with an editor that have no settings.
use Rattle.std.proofs.Common.{◌≡◌, Bool, Option, Some, Result, Ok, Err, String, IfErr, sym, subst, string_bytes}
use Rattle.std.specs.Prelude.{OnErr}
use Rattle.std.specs.declared.alloc.Global.{Global}
use Rattle.std.specs.declared.io.ErrorKind.{ErrorKind}
use Rattle.timefd_parse.specs.Tree.{Text}
use Rattle.timefd_lint_lsp.specs.declared.server.Server.{Server}
use Rattle.timefd_lint_lsp.specs.declared.session.SessionEnd.{SessionEnd}
use Rattle.timefd_lint_lsp.specs.Sessions.{at}
use Rattle.timefd_lint.specs.declared.config.ConfigFailure.{ConfigFailure}
use Rattle.timefd_lint.specs.declared.config.ConfigFailure.TheVariants.{Memory, Wrong}
use Rattle.timefd_lint.specs.Roots.{IsMet, IsNew, IsRootPath, IsRootUnset, IsSessionUnset}
use Rattle.timefd_lint.specs.Unusable.{IsUnset}

-- The file of settings that is sought from a path can't be had.
pub root_unset : (holds : Text → Text → Type 0) (fails : Text → ErrorKind → Type 0) (folders : Text → Bool → Type 0)
    (here name : Text) (root found : Option (String Global)) (path : String Global) (failure : ConfigFailure)
    → IsRootPath root found → found ≡ Some path → name ≡ string_bytes path
    → IsUnset holds fails folders here name failure → IsRootUnset holds fails folders here root failure
root_unset holds fails folders here name root found path Memory at_path is same unset = tt
root_unset holds fails folders here name root found path (Wrong sentence) at_path is same unset = (
  Some path,
  subst (λ (p : Option (String Global)). IsRootPath root p) is at_path,
  subst (λ (n : Text). IsUnset holds fails folders here n (Wrong sentence)) same unset,
)

-- Nothing is read or written after the editor is greeted.
pub session_unset : (holds : Text → Text → Type 0) (fails : Text → ErrorKind → Type 0) (folders : Text → Bool → Type 0)
    (here : Text) (start known : Server) (left written left' written' left_then written_then : Option Text)
    (answer : Result SessionEnd ConfigFailure) → IsNew start → IsMet start left written (at left' written' known)
    → IfErr answer (IsRootUnset holds fails folders here known.root)
    → OnErr answer ((left_then ≡ left') × (written_then ≡ written'))
    → IfErr answer (IsSessionUnset holds fails folders here left written left_then written_then)
session_unset holds fails folders here start known left written left' written' left_then written_then (Ok end) new met
    unset still = tt
session_unset holds fails folders here start known left written left' written' left_then written_then (Err failure) new
    met unset still = (
      start,
      new,
      (
        known,
        subst (λ (l : Option Text). IsMet start left written (at l written_then known)) (sym still.0)
            (subst (λ (w : Option Text). IsMet start left written (at left' w known)) (sym still.1) met),
        unset,
      ),
    )
