use Rattle.std.proofs.Common.{◌∷◌, ◌++◌, [], length, true, ap, arith, subst}
use Rattle.std.proofs.lemmas.Result.{err_from_is_err_and}
use Rattle.timefd_lang_component.specs.Reserved.{reserve_all}
use Rattle.timefd_lang_component.specs.Tree.{trees}
use Rattle.timefd_items.specs.Builder.{built}
use Rattle.timefd_language.specs.declared.description_version.DescriptionVersion.TheVariants.{Three}
use Rattle.timefd_parse.specs.Read.{IsFaultIn, IsNext, PiecesToEnd}
use Rattle.timefd_parse.proofs.CountingLemmas.{continues_within, counted_more, fewer_more}
use Rattle.timefd_parse.proofs.ReadLemmas.{continues_more, items_end, items_fault, memory_or, end_outside}
use Rattle.timefd_parse.proofs.NestedSpanLemmas.{continues_spans}
use Rattle.timefd_parse.proofs.counting.bytes_beside.Goals as goal

pub returns-in_err-piece-clause-bytes : goal.returns-in_err-piece-clause-bytes
returns-in_err-piece-clause-bytes c =
    let p = err_from_is_err_and c.from_residual.result c.from_residual.ensures.1 in
    rw (p.1, p.2) (memory_or _ (IsFaultIn Three c.args.limit 0 c.args.text.now)
    (λ f is. items_fault _ _ _ _ c.pieces.rest.now _ f c.pieces.invariant.3 is)
    c.in_err-piece.field-0.0 c.in_err-piece.ensures.next)

pub returns-in_default-clause-bytes : goal.returns-in_default-clause-bytes
returns-in_default-clause-bytes c =
    let end = subst (IsNext Three true c.args.limit 0 c.pieces.rest.now (built c.pieces.builder)
    (built c.next_piece.new.builder)) c.in_default.is c.in_ok-piece.ensures.next in (
      c.pieces.invariant.2,
      subst (PiecesToEnd Three c.args.limit 0 c.args.text.now c.pieces.invariant.2)
          (end_outside _ end.0) (items_end _ _ _ _ _ _ c.pieces.invariant.3 end.0),
      omega (arith, c.pieces.invariant.4, ap (λ ts. reserve_all (trees ts)) end.1),
      omega (arith, c.pieces.invariant.5, ap length end.1),
    )

pub overflow_add-bytes : goal.overflow_add-bytes
overflow_add-bytes c =
    let next = subst (IsNext Three true c.args.limit 0 c.pieces.rest.now (built c.pieces.builder)
    (built c.next_piece.new.builder)) c.in-Some.is c.in_ok-piece.ensures.next in
    let more = counted_more c.pieces.bytes (built c.pieces.builder) (built c.next_piece.new.builder)
    c.pieces.invariant.2 c.in-Some.piece next.0 next.2 c.pieces.invariant.4 in
    let within = continues_within c.args.limit c.args.text.now (c.pieces.invariant.2 ++ next.0 ∷ [])
    c.in-Some.after.now
    (continues_more _ _ _ _ _ _ _ _ c.pieces.invariant.3 next.1.leads) in
    omega (arith, more, within, c.own_bytes-bytes.ensures)

pub pieces-preserved : goal.pieces-preserved
pieces-preserved c =
    let next = subst (IsNext Three true c.args.limit 0 c.pieces.rest.now (built c.pieces.builder)
    (built c.next_piece.new.builder)) c.in-Some.is c.in_ok-piece.ensures.next in
    let more = counted_more c.pieces.bytes (built c.pieces.builder) (built c.next_piece.new.builder)
    c.pieces.invariant.2 c.in-Some.piece next.0 next.2 c.pieces.invariant.4 in (
      next.1.utf8,
      omega (arith, next.1.shorter, c.pieces.invariant.1),
      c.pieces.invariant.2 ++ next.0 ∷ [],
      continues_more _ _ _ _ _ _ _ _ c.pieces.invariant.3 next.1.leads,
      omega (arith, more, c.own_bytes-bytes.ensures),
      fewer_more (built c.pieces.builder) (built c.next_piece.new.builder) c.pieces.invariant.2
          c.in-Some.piece next.0 next.2 c.pieces.invariant.5,
    )

pub returns-in_err-piece-clause-span : goal.returns-in_err-piece-clause-span
returns-in_err-piece-clause-span c =
    let p = err_from_is_err_and c.from_residual.result c.from_residual.ensures.1 in
    rw (p.1, p.2) (continues_spans _ _ _ _ c.pieces.rest.now _ c.in_err-piece.field-0.0
    c.pieces.invariant.3 c.in_err-piece.ensures.span)
