use Rattle.std.proofs.Common.{◌∷◌, ◌++◌, ◌∙◌, [], false, ap, arith, subst}
use Rattle.std.proofs.lemmas.Result.{err_from_is_err_and}
use Rattle.timefd_items.specs.Builder.{built}
use Rattle.timefd_language.specs.Bytes.{is_version_three}
use Rattle.timefd_parse.proofs.BuildingLemmas.{is_leaf}
use Rattle.timefd_parse.proofs.ReadLemmas.{continues_more, end_outside, items_end, items_fault, memory_or}
use Rattle.timefd_parse.specs.Read.{IsFaultIn, IsNext, PiecesToEnd}
use Rattle.timefd_description.proofs.ModernLemmas.{leaf_modern, leaf_tree}
use Rattle.timefd_description.proofs.version.pieces.Goals as goal
use Rattle.timefd_description.specs.Modern.{modern_tree}

pub returns-in_err-piece-clause-pieces : goal.returns-in_err-piece-clause-pieces
returns-in_err-piece-clause-pieces c =
    let p = err_from_is_err_and c.from_residual.result c.from_residual.ensures.1 in
    rw (p.1, p.2) (memory_or _ (IsFaultIn c.args.version c.args.limit 0 c.args.text.now)
    (λ f is. items_fault _ _ _ _ c.pieces.rest.now _ f c.pieces.invariant.3 is)
    c.in_err-piece.field-0.0 c.in_err-piece.ensures.next)

pub returns-in_default-clause-pieces : goal.returns-in_default-clause-pieces
returns-in_default-clause-pieces c =
    let end = subst (IsNext c.args.version false c.args.limit 0 c.pieces.rest.now
    (built c.pieces.nested) (built c.next_piece.new.builder)) c.in_default.is
    c.in_ok-piece.ensures.next in (
      c.pieces.invariant.2,
      subst (PiecesToEnd c.args.version c.args.limit 0 c.args.text.now c.pieces.invariant.2)
          (end_outside _ end.0) (items_end _ _ _ _ _ _ c.pieces.invariant.3 end.0),
      c.pieces.invariant.4,
    )

pub pieces-preserved : goal.pieces-preserved
pieces-preserved c =
    let next = subst (IsNext c.args.version false c.args.limit 0 c.pieces.rest.now
    (built c.pieces.nested) (built c.next_piece.new.builder)) c.in-Some.is
    c.in_ok-piece.ensures.next in
    let leaf = is_leaf (is_version_three c.args.version) false (built c.pieces.nested)
    (built c.next_piece.new.builder) c.in-Some.piece next.0 c.requires.older next.2 in (
      next.1.utf8,
      omega (arith, next.1.shorter, c.pieces.invariant.1),
      c.pieces.invariant.2 ++ next.0 ∷ [],
      continues_more _ _ _ _ _ _ _ _ c.pieces.invariant.3 next.1.leads,
      c.in_ok-add_leaf.ensures next.0 (leaf_tree _ _ _ _ _ _ leaf next.2) ∙
          ap (λ ts. ts ++ modern_tree next.0 ∷ []) c.pieces.invariant.4 ∙
          ap (λ t. c.pieces.invariant.2 ++ t ∷ []) (leaf_modern _ _ _ _ _ _ leaf next.2),
    )
