-- From jiff's parts to the moment.
use Rattle.std.proofs.Common.{◌≡◌, ◌∙◌, Option, Some, None, option_map, Result, Ok, Err, refl, sym, ap, subst}
use Rattle.jiff_core.specs.declared.error.Error.{Error}
use Rattle.jiff_core.specs.declared.offset.Offset.{Offset}
use Rattle.jiff_fmt.specs.declared.temporal.pieces.Pieces.{Pieces}
use Rattle.jiff_fmt.specs.declared.temporal.pieces.PiecesOffset.{PiecesOffset}
use Rattle.jiff_fmt.specs.Temporal.{PiecesParts, pieces_view, pieces_result_view, seconds_view, offset_seconds, offset_piece_view, piece_seconds}
use Rattle.timefd_date_moment.specs.declared.moment.Moment.{Moment}
use Rattle.timefd_date_moment.specs.declared.offset.UtcOffset.{UtcOffset}
use Rattle.timefd_format.specs.FromJiff.Read.{AreRead, IsOffsetRead, IsRead}

pub maps : (o : Option PiecesOffset) → offset_seconds o ≡ option_map piece_seconds (option_map offset_piece_view o)
maps None = refl
maps (Some o) = refl

pub offset_read : (o : Option PiecesOffset) (r : Option Offset) (out : Option UtcOffset)
    → seconds_view r ≡ offset_seconds o → IsOffsetRead (seconds_view r) out
    → IsOffsetRead (option_map piece_seconds (option_map offset_piece_view o)) out
offset_read o r out e h = subst (λ x. IsOffsetRead x out) (e ∙ maps o) h

pub read_ok : (r : Result Pieces Error) (x : Result PiecesParts Error) (p : Pieces) (m : Moment)
    → pieces_result_view r ≡ x → r ≡ Ok p → AreRead (pieces_view p) m → IsRead x (Ok m)
read_ok r x p m view is h = subst (λ y. IsRead y (Ok m)) (ap pieces_result_view (sym is) ∙ view) h

pub read_err : (r : Result Pieces Error) (x : Result PiecesParts Error) (e : Error)
    → pieces_result_view r ≡ x → r ≡ Err e → IsRead x (Err e)
read_err r x e view is = subst (λ y. IsRead y (Err e)) (ap pieces_result_view (sym is) ∙ view) refl

pub ruleset reads = (offset_read, read_ok, read_err)
