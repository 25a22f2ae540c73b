use Rattle.std.proofs.Common.{◌∷◌, ◌++◌, ◌∙◌, [], ap, arith, subst, sym}
use Rattle.std.proofs.lemmas.List.{map-append}
use Rattle.std.proofs.lemmas.Result.{err_from_is_err_and}
use Rattle.timefd_language.proofs.ModernPieces.{strftime_modernity_law}
use Rattle.timefd_language.proofs.DirectiveLemmas.DirectiveLemmas.{IsNext, all_read, continues_more, fault_after}
use Rattle.timefd_language.specs.Directives.PieceMeaning.{piece_tree}
use Rattle.timefd_description.proofs.ModernLemmas.{list_modern}
use Rattle.timefd_description.proofs.strftime.directives.Goals as goal
use Rattle.timefd_description.specs.Modern.{modern_tree}

pub returns-in_err-piece-clause-pieces : goal.returns-in_err-piece-clause-pieces
returns-in_err-piece-clause-pieces c =
    let p = err_from_is_err_and c.from_residual.result c.from_residual.ensures.1 in
    rw (p.1, p.2)
    (fault_after _ c.pieces.rest.now _ _ c.pieces.invariant.3 c.in_err-piece.ensures)

pub returns-in_default-clause-pieces : goal.returns-in_default-clause-pieces
returns-in_default-clause-pieces c =
    let spells = all_read _ _ _ c.pieces.invariant.3
    (subst (IsNext c.pieces.rest.now) c.in_default.is c.in_ok-piece.ensures) in (
      c.pieces.invariant.2,
      spells,
      c.pieces.invariant.4 ∙ list_modern c.pieces.invariant.2
          (strftime_modernity_law c.args.text.now c.pieces.invariant.2 spells),
    )

pub pieces-preserved : goal.pieces-preserved
pieces-preserved c =
    let next = subst (IsNext c.pieces.rest.now) c.in-Some.is c.in_ok-piece.ensures in (
      next.left.utf8,
      omega (arith, next.left.shorter, c.pieces.invariant.1),
      c.pieces.invariant.2 ++ piece_tree c.in-Some.piece ∷ [],
      continues_more _ _ _ _ _ c.pieces.invariant.3 next.leads,
      c.in_ok-add_piece.ensures ∙
          ap (λ ts. ts ++ modern_tree (piece_tree c.in-Some.piece) ∷ []) c.pieces.invariant.4 ∙
          sym (map-append modern_tree c.pieces.invariant.2 (piece_tree c.in-Some.piece ∷ [])),
    )
