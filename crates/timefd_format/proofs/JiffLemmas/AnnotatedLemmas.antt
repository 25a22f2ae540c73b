-- From jiff's pieces to the moment and its zone.
use Rattle.std.proofs.Common.{◌≡◌, ◌∙◌, Result, Ok, Err, refl, sym, ap, subst}
use Rattle.jiff_core.specs.declared.error.Error.{Error}
use Rattle.jiff_fmt.specs.declared.temporal.pieces.Pieces.{Pieces}
use Rattle.jiff_fmt.specs.Temporal.{PiecesParts, pieces_view, pieces_result_view}
use Rattle.timefd_format.specs.declared.from_jiff.annotated.Annotated.{Annotated}
use Rattle.timefd_format.specs.FromJiff.Annotated.{AreAnnotated, IsReadAnnotated}

pub read_ok : (r : Result Pieces Error) (x : Result PiecesParts Error) (p : Pieces) (a : Annotated)
    → pieces_result_view r ≡ x → r ≡ Ok p → AreAnnotated (pieces_view p) a → IsReadAnnotated x (Ok a)
read_ok r x p a view is h = subst (λ y. IsReadAnnotated y (Ok a)) (ap pieces_result_view (sym is) ∙ view) h

pub read_err : (r : Result Pieces Error) (x : Result PiecesParts Error) (e : Error)
    → pieces_result_view r ≡ x → r ≡ Err e → IsReadAnnotated x (Err e)
read_err r x e view is = subst (λ y. IsReadAnnotated y (Err e)) (ap pieces_result_view (sym is) ∙ view) refl

pub ruleset reads = (read_ok, read_err)
