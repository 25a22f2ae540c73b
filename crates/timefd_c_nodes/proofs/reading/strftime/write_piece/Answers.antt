use Rattle.timefd_language.specs.declared.strftime.piece.StrftimePiece.TheVariants.{Component}
use Rattle.timefd_c_nodes.proofs.ReadingLemmas.PieceLemmas.{leaf_some}
use Rattle.timefd_c_nodes.proofs.reading.strftime.write_piece.Goals as goal

pub returns-in-Component-clause-some : goal.returns-in-Component-clause-some
returns-in-Component-clause-some g c =
    rw c.in-Component.is
    (leaf_some _ (Component c.in-Component.component) _ _ _ _ _ c.write_component.result tt
    (c.write_component.ensures.some c.args.literals.now))
