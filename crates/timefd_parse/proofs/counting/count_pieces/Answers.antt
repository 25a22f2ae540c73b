use Rattle.std.proofs.Common.{◌∷◌, ◌++◌, [], false, arith, length-append, subst}
use Rattle.std.proofs.lemmas.Result.{err_from_is_err_and}
use Rattle.timefd_items.specs.Builder.{built}
use Rattle.timefd_parse.specs.Read.{IsFaultIn, IsNext, PiecesToEnd}
use Rattle.timefd_parse.proofs.ReadLemmas.{continues_more, items_end, items_fault, memory_or, end_outside}
use Rattle.timefd_parse.proofs.NestedSpanLemmas.{continues_spans}
use Rattle.timefd_parse.proofs.counting.count_pieces.Goals as goal

pub returns-in_err-after-clause-count : goal.returns-in_err-after-clause-count
returns-in_err-after-clause-count c =
    let p = err_from_is_err_and c.from_residual.result c.from_residual.ensures.1 in
    rw (p.1, p.2) (memory_or _ (IsFaultIn c.args.version c.args.limit 0 c.args.text.now)
    (λ f is. items_fault _ _ _ _ c.pieces.rest.now _ f c.pieces.invariant.3 is)
    c.in_err-after.field-0.0 c.in_err-after.ensures.next)

pub returns-in_default-clause-count : goal.returns-in_default-clause-count
returns-in_default-clause-count c =
    let end = subst (IsNext c.args.version false c.args.limit 0 c.pieces.rest.now
    (built c.pieces.builder) (built c.next_piece.new.builder)) c.in_default.is c.in_ok-after.ensures.next in (
      c.pieces.invariant.2,
      subst (PiecesToEnd c.args.version c.args.limit 0 c.args.text.now c.pieces.invariant.2)
          (end_outside _ end.0) (items_end _ _ _ _ _ _ c.pieces.invariant.3 end.0),
      c.pieces.invariant.4,
    )

pub pieces-preserved : goal.pieces-preserved
pieces-preserved c =
    let next = subst (IsNext c.args.version false c.args.limit 0 c.pieces.rest.now
    (built c.pieces.builder) (built c.next_piece.new.builder)) c.in-Some.is
    c.in_ok-after.ensures.next in (
      next.1.utf8,
      omega (arith, next.1.shorter, c.pieces.invariant.1),
      c.pieces.invariant.2 ++ next.0 ∷ [],
      continues_more _ _ _ _ _ _ _ _ c.pieces.invariant.3 next.1.leads,
      omega (arith, c.pieces.invariant.4, length-append c.pieces.invariant.2 (next.0 ∷ [])),
    )

pub returns-in_err-after-clause-span : goal.returns-in_err-after-clause-span
returns-in_err-after-clause-span c =
    let p = err_from_is_err_and c.from_residual.result c.from_residual.ensures.1 in
    rw (p.1, p.2) (continues_spans _ _ _ _ c.pieces.rest.now _ c.in_err-after.field-0.0
    c.pieces.invariant.3 c.in_err-after.ensures.span)
