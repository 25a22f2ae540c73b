use Rattle.std.proofs.Common.{◌∷◌, ◌++◌, [], arith, refl, subst, sym}
use Rattle.std.proofs.lemmas.Result.{err_from_is_err_and}
use Rattle.timefd_language.specs.Directives.PieceMeaning.{piece_tree}
use Rattle.timefd_language.proofs.DirectiveLemmas.DirectiveLemmas.{IsNext, all_read, continues_more, fault_after}
use Rattle.timefd_c_nodes.proofs.ReadingLemmas.PieceLemmas.{piece_counted, pieces_more}
use Rattle.timefd_c_nodes.specs.declared.reading.progress.ReadProgress.{ReadProgress}
use Rattle.timefd_c_nodes.proofs.ReadingLemmas.CountedLemmas.{FitsIf, fits_more, none_past}
use Rattle.timefd_c_nodes.proofs.reading.strftime.write_pieces.Goals as goal

pub returns-in_err-piece-clause-pieces : goal.returns-in_err-piece-clause-pieces
returns-in_err-piece-clause-pieces g c =
    let p = err_from_is_err_and c.from_residual.result c.from_residual.ensures.1 in
    rw (p.1, p.2)
    (fault_after _ c.pieces.rest.now _ _ c.pieces.invariant.3 c.in_err-piece.ensures)

pub returns-in_default-clause-pieces : goal.returns-in_default-clause-pieces
returns-in_default-clause-pieces g c = (
  c.pieces.invariant.2,
  all_read _ _ _ c.pieces.invariant.3
      (subst (IsNext c.pieces.rest.now) c.in_default.is c.in_ok-piece.ensures),
  c.pieces.invariant.4,
)

pub one_more-progress-requires : goal.one_more-progress-requires
one_more-progress-requires g c =
    piece_counted _ c.pieces.invariant.2 c.in-Some.piece _ _ _ _ _ _ _ _
    c.pieces.invariant.4 c.in-Some-write_piece.ensures.some

pub pieces-preserved : goal.pieces-preserved
pieces-preserved g c =
    let next = subst (IsNext c.pieces.rest.now) c.in-Some.is c.in_ok-piece.ensures in (
      next.left.utf8,
      omega (arith, next.left.shorter, c.pieces.invariant.1),
      c.pieces.invariant.2 ++ piece_tree c.in-Some.piece ∷ [],
      continues_more _ _ _ _ _ c.pieces.invariant.3 next.leads,
      pieces_more _ c.pieces.invariant.2 c.in-Some.piece _ _ _ _ _ _ _ _ _
          c.pieces.invariant.4 c.in-Some-write_piece.ensures.some c.one_more-progress.ensures,
      subst (λ (p : ReadProgress). FitsIf _ p.end c.args.text.now c.in-Some.after.now)
          (sym c.one_more-progress.ensures)
          (fits_more _ _ c.pieces.rest.now c.in-Some.after.now c.in-Some.piece c.pieces.progress.end
          c.in-Some-write_piece.written _ _ _ _ next c.in-Some-write_piece.ensures.some c.pieces.invariant.5),
    )

pub returns-in_default-write_piece-clause-counted : goal.returns-in_default-write_piece-clause-counted
returns-in_default-write_piece-clause-counted g c = λ counted.
    let next = subst (IsNext c.pieces.rest.now) c.in-Some.is c.in_ok-piece.ensures in
    none_past _ c.args.text.now c.pieces.rest.now c.in-Some.after.now c.in-Some.piece c.pieces.progress.end
    (omega (arith, c.type_inv.text)) counted next c.pieces.invariant.5 (c.in_default-write_piece.ensures.none refl)
