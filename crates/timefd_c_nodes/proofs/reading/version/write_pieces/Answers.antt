use Rattle.std.proofs.Common.{◌∷◌, ◌++◌, [], false, arith, refl, subst, sym}
use Rattle.std.proofs.lemmas.Result.{err_from_is_err_and}
use Rattle.timefd_language.specs.Bytes.{is_version_three}
use Rattle.timefd_items.specs.Builder.{built}
use Rattle.timefd_parse.specs.Read.{IsFaultIn, IsNext, PiecesToEnd}
use Rattle.timefd_parse.proofs.BuildingLemmas.{is_leaf}
use Rattle.timefd_parse.proofs.ReadLemmas.{continues_more, items_end, items_fault, memory_or, end_outside}
use Rattle.timefd_c_nodes.specs.declared.reading.progress.ReadProgress.{ReadProgress}
use Rattle.timefd_c_nodes.proofs.ReadingLemmas.CountedLemmas.{Fits, leaf_counted, leaf_fits}
use Rattle.timefd_c_nodes.proofs.ReadingLemmas.ProgressLemmas.{counted_below, leaf_tree, written_more}
use Rattle.timefd_c_nodes.proofs.reading.version.write_pieces.Goals as goal

pub returns-in_err-piece-clause-pieces : goal.returns-in_err-piece-clause-pieces
returns-in_err-piece-clause-pieces c =
    let p = err_from_is_err_and c.from_residual.result c.from_residual.ensures.1 in
    rw (p.1, p.2) (memory_or _ (IsFaultIn c.args.version c.args.limit 0 c.args.text.now)
    (λ f is. items_fault _ _ _ _ c.pieces.rest.now _ f c.pieces.invariant.3 is)
    c.in_err-piece.field-0.0 c.in_err-piece.ensures.next)

pub returns-in_default-clause-pieces : goal.returns-in_default-clause-pieces
returns-in_default-clause-pieces c =
    let end = subst (IsNext c.args.version false c.args.limit 0 c.pieces.rest.now
    (built c.pieces.builder) (built c.next_piece.new.builder)) c.in_default.is
    c.in_ok-piece.ensures.next in (
      c.pieces.invariant.2,
      subst (PiecesToEnd c.args.version c.args.limit 0 c.args.text.now c.pieces.invariant.2)
          (end_outside _ end.0) (items_end _ _ _ _ _ _ c.pieces.invariant.3 end.0),
      c.pieces.invariant.4,
    )

pub write_leaf-requires : goal.write_leaf-requires
write_leaf-requires c =
    let next = subst (IsNext c.args.version false c.args.limit 0 c.pieces.rest.now
    (built c.pieces.builder) (built c.next_piece.new.builder)) c.in-Some.is
    c.in_ok-piece.ensures.next in
    is_leaf (is_version_three c.args.version) false (built c.pieces.builder)
    (built c.next_piece.new.builder) c.in-Some.piece next.0 c.requires next.2

pub one_more-progress-requires : goal.one_more-progress-requires
one_more-progress-requires c =
    let next = subst (IsNext c.args.version false c.args.limit 0 c.pieces.rest.now
    (built c.pieces.builder) (built c.next_piece.new.builder)) c.in-Some.is
    c.in_ok-piece.ensures.next in
    let leaf = is_leaf (is_version_three c.args.version) false (built c.pieces.builder)
    (built c.next_piece.new.builder) c.in-Some.piece next.0 c.requires next.2 in
    counted_below c.pieces.invariant.2 next.0 _ _ _ _ _ _ _ _ c.pieces.invariant.4
    (c.in-Some-write_leaf.ensures.some next.0 (leaf_tree _ _ _ _ _ _ leaf next.2))

pub pieces-preserved : goal.pieces-preserved
pieces-preserved c =
    let next = subst (IsNext c.args.version false c.args.limit 0 c.pieces.rest.now
    (built c.pieces.builder) (built c.next_piece.new.builder)) c.in-Some.is
    c.in_ok-piece.ensures.next in
    let leaf = is_leaf (is_version_three c.args.version) false (built c.pieces.builder)
    (built c.next_piece.new.builder) c.in-Some.piece next.0 c.requires next.2 in (
      next.1.utf8,
      omega (arith, next.1.shorter, c.pieces.invariant.1),
      c.pieces.invariant.2 ++ next.0 ∷ [],
      continues_more _ _ _ _ _ _ _ _ c.pieces.invariant.3 next.1.leads,
      written_more c.pieces.invariant.2 next.0 _ _ _ _ _ _ _ _ _ c.pieces.invariant.4
          (c.in-Some-write_leaf.ensures.some next.0 (leaf_tree _ _ _ _ _ _ leaf next.2))
          c.one_more-progress.ensures,
      subst (λ (p : ReadProgress). Fits p.end c.args.text.now c.in-Some.after.now)
          (sym c.one_more-progress.ensures)
          (leaf_fits c.args.version c.args.limit _ c.pieces.rest.now c.in-Some.after.now c.in-Some.piece next.0
          c.pieces.progress.end _ _ _ _ _ next.1.leads next.1.shorter (leaf_tree _ _ _ _ _ _ leaf next.2)
          (c.in-Some-write_leaf.ensures.some next.0 (leaf_tree _ _ _ _ _ _ leaf next.2)) c.pieces.invariant.5),
    )

pub returns-in_default-write_leaf-clause-counted : goal.returns-in_default-write_leaf-clause-counted
returns-in_default-write_leaf-clause-counted c =
    let next = subst (IsNext c.args.version false c.args.limit 0 c.pieces.rest.now
    (built c.pieces.builder) (built c.next_piece.new.builder)) c.in-Some.is
    c.in_ok-piece.ensures.next in
    let leaf = is_leaf (is_version_three c.args.version) false (built c.pieces.builder)
    (built c.next_piece.new.builder) c.in-Some.piece next.0 c.requires next.2 in
    leaf_counted c.args.version c.args.limit c.args.text.now c.pieces.rest.now c.in-Some.after.now
    c.in-Some.piece next.0 c.pieces.progress.end (omega (arith, c.type_inv.text)) next.1.leads next.1.shorter
    (leaf_tree _ _ _ _ _ _ leaf next.2) c.pieces.invariant.5
    (c.in_default-write_leaf.ensures.none next.0 (leaf_tree _ _ _ _ _ _ leaf next.2) refl)
