use Rattle.std.proofs.Common.{◌∷◌, ◌++◌, [], List, true, arith, subst}
use Rattle.std.proofs.lemmas.Result.{err_from_is_err_and}
use Rattle.timefd_lang_component.specs.Tree.{Tree}
use Rattle.timefd_items.specs.Builder.{built}
use Rattle.timefd_language.specs.declared.description_version.DescriptionVersion.TheVariants.{Three}
use Rattle.timefd_parse.specs.Pieces.{IsPiece}
use Rattle.timefd_parse.specs.Read.{IsFaultIn, IsNext, PiecesToEnd}
use Rattle.timefd_parse.proofs.CountingLemmas.{continues_within}
use Rattle.timefd_parse.proofs.ReadLemmas.{continues_more, items_end, items_fault, memory_or, end_outside}
use Rattle.timefd_c_nodes.proofs.ReadingLemmas.ProgressLemmas.{counted_below, written_more}
use Rattle.timefd_c_nodes.proofs.ReadingLemmas.WholeLemmas.{built_small}
use Rattle.timefd_c_nodes.proofs.reading.version_three.write_pieces.Goals as goal

pub returns-in_err-piece-clause-pieces : goal.returns-in_err-piece-clause-pieces
returns-in_err-piece-clause-pieces c =
    let p = err_from_is_err_and c.from_residual.result c.from_residual.ensures.1 in
    rw (p.1, p.2) (memory_or _ (IsFaultIn Three c.args.limit 0 c.args.text.now)
    (λ f is. items_fault _ _ _ _ c.pieces.rest.now _ f c.pieces.invariant.4 is)
    c.in_err-piece.field-0.0 c.in_err-piece.ensures.next)

pub returns-in_default-clause-pieces : goal.returns-in_default-clause-pieces
returns-in_default-clause-pieces c =
    let end = subst (IsNext Three true c.args.limit 0 c.pieces.rest.now
    (built c.pieces.builder) (built c.next_piece.new.builder)) c.in_default.is
    c.in_ok-piece.ensures.next in (
      c.pieces.invariant.3,
      subst (PiecesToEnd Three c.args.limit 0 c.args.text.now c.pieces.invariant.3)
          (end_outside _ end.0) (items_end _ _ _ _ _ _ c.pieces.invariant.4 end.0),
      c.pieces.invariant.5,
    )

pub write_piece-requires : goal.write_piece-requires
write_piece-requires c =
    let next = subst (IsNext Three true c.args.limit 0 c.pieces.rest.now
    (built c.pieces.builder) (built c.next_piece.new.builder)) c.in-Some.is
    c.in_ok-piece.ensures.next in
    let piece = subst (λ (old : List Tree). IsPiece true true old (built c.next_piece.new.builder)
    c.in-Some.piece next.0) c.pieces.invariant.2 next.2 in
    built_small c.pieces.invariant.3 _ c.in-Some.piece next.0 _ piece
    (continues_within c.args.limit c.args.text.now _ _
    (continues_more _ _ _ _ _ _ _ _ c.pieces.invariant.4 next.1.leads)) (omega (arith, c.type_inv.text))

pub one_more-progress-requires : goal.one_more-progress-requires
one_more-progress-requires c =
    let next = subst (IsNext Three true c.args.limit 0 c.pieces.rest.now
    (built c.pieces.builder) (built c.next_piece.new.builder)) c.in-Some.is
    c.in_ok-piece.ensures.next in
    let piece = subst (λ (old : List Tree). IsPiece true true old (built c.next_piece.new.builder)
    c.in-Some.piece next.0) c.pieces.invariant.2 next.2 in
    counted_below c.pieces.invariant.3 next.0 _ _ _ _ _ _ _ _ c.pieces.invariant.5
    (c.in-Some-write_piece.ensures.some next.0 piece)

pub pieces-preserved : goal.pieces-preserved
pieces-preserved c =
    let next = subst (IsNext Three true c.args.limit 0 c.pieces.rest.now
    (built c.pieces.builder) (built c.next_piece.new.builder)) c.in-Some.is
    c.in_ok-piece.ensures.next in
    let piece = subst (λ (old : List Tree). IsPiece true true old (built c.next_piece.new.builder)
    c.in-Some.piece next.0) c.pieces.invariant.2 next.2 in (
      next.1.utf8,
      omega (arith, next.1.shorter, c.pieces.invariant.1),
      c.in-Some-write_piece.ensures.none_left next.0 piece,
      c.pieces.invariant.3 ++ next.0 ∷ [],
      continues_more _ _ _ _ _ _ _ _ c.pieces.invariant.4 next.1.leads,
      written_more c.pieces.invariant.3 next.0 _ _ _ _ _ _ _ _ _ c.pieces.invariant.5
          (c.in-Some-write_piece.ensures.some next.0 piece) c.one_more-progress.ensures,
    )
