use Rattle.std.proofs.Common.{◌∙◌, ◌-◌, length, refl, sym, ap, subst, arith}
use Rattle.timefd_c_nodes.specs.Formatting.Parts.{part_role, role}
use Rattle.timefd_lang_component.specs.Tree.{trees}
use Rattle.timefd_date_format.specs.Written.{written_all}
use Rattle.timefd_c_nodes.specs.Formatting.Nodes.{node_trees}
use Rattle.timefd_c_nodes.specs.Formatting.Cursors.{TriesToWrite}
use Rattle.timefd_date_format.specs.declared.cursor.WriteCursor.TheVariants as cursor
use Rattle.timefd_c_nodes.proofs.FormattingLemmas.WalkLemmas.{all_written, meaningless, not_written, one_walked, too_few}
use Rattle.timefd_c_nodes.proofs.formatting.write.write_nodes.Goals as goal

pub nodes-preserved : goal.nodes-preserved
nodes-preserved c =
    one_walked c.args.moment c.args.literals.now c.args.nodes.now _ (role c.in_ok-part.part) c.nodes.left
    c.nodes.need c.nodes.skip (c.nodes.left - 1) c.in_ok-need.need c.skipped-skip.result c.args.buffer.now
    c.nodes.buffer c.put_part.new.buffer (cursor.At c.nodes.at) (cursor.At c.in_ok-at.at)
    c.nodes.invariant refl (omega (arith, c.nodes-test.true))
    (sym c.part_of.ensures ∙ ap part_role c.in_ok-part.was) c.in_ok-need.ensures.0 c.in_ok-need.ensures.1
    c.skipped-skip.ensures c.in_ok-at.ensures

pub returns-clause-writes : goal.returns-clause-writes
returns-clause-writes c = λ _.
    all_written c.args.moment c.args.literals.now c.args.nodes.now c.nodes.left c.nodes.need c.nodes.skip
    c.args.buffer.now c.nodes.buffer (cursor.At c.nodes.at) c.nodes.invariant (omega (arith, c.nodes-test.false))

pub returns-in_err-part-clause-writes : goal.returns-in_err-part-clause-writes
returns-in_err-part-clause-writes c = λ sound. absurd
    (meaningless c.args.moment c.args.literals.now c.args.nodes.now _ c.nodes.left c.nodes.need c.nodes.skip
    (c.nodes.left - 1) c.args.buffer.now c.nodes.buffer (cursor.At c.nodes.at) c.nodes.invariant refl
    (omega (arith, c.nodes-test.true)) (sym c.part_of.ensures ∙ ap part_role c.in_err-part.was) sound)

pub returns-in_err-need-clause-writes : goal.returns-in_err-need-clause-writes
returns-in_err-need-clause-writes c = λ sound. absurd
    (too_few c.args.moment c.args.literals.now c.args.nodes.now _ (role c.in_ok-part.part) c.nodes.left c.nodes.need
    c.nodes.skip (c.nodes.left - 1) c.args.buffer.now c.nodes.buffer (cursor.At c.nodes.at) c.nodes.invariant refl
    (omega (arith, c.nodes-test.true)) (sym c.part_of.ensures ∙ ap part_role c.in_ok-part.was) c.in_err-need.ensures
    sound)

pub returns-in_err-at-clause-writes : goal.returns-in_err-at-clause-writes
returns-in_err-at-clause-writes c = λ sound.
    subst
    (TriesToWrite (written_all c.args.moment (trees (node_trees c.args.literals.now c.args.nodes.now)))
    c.args.buffer.now (length c.args.buffer.now) c.put_part.new.buffer)
    (sym c.from_residual-in_err-at.ensures)
    (not_written c.args.moment c.args.literals.now c.args.nodes.now _ (role c.in_ok-part.part) c.nodes.left
    c.nodes.need c.nodes.skip (c.nodes.left - 1) c.args.buffer.now c.nodes.buffer c.nodes.at c.nodes.invariant refl
    (omega (arith, c.nodes-test.true)) (sym c.part_of.ensures ∙ ap part_role c.in_ok-part.was) c.in_err-at.ensures
    sound)
