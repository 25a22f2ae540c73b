use Rattle.std.proofs.Common.{arith, refl}
use Rattle.timefd_format.proofs.FieldLemmas.{slice_to_end}
use Rattle.timefd_format.proofs.PlainCellLemmas.{cell_is, cell_plain, next_ahead, plain_ahead}
use Rattle.timefd_format.proofs.fast.plain_cell.plain_cell.Goals as goal

pub fields-preserved : goal.fields-preserved
fields-preserved c =
    next_ahead c.args.row.now c.without_newline-content.result.now c.fields.text.now _ c.args.count c.fields.left _
    c.in_ok-at.at c.requires c.without_newline-content.ensures c.fields.invariant (omega (arith, c.fields-test.true))
    c.in_ok-at.ensures (slice_to_end c.fields.text.now _)

pub field_len-len-requires : goal.field_len-len-requires
field_len-len-requires c =
    plain_ahead c.args.row.now c.without_newline-content.result.now c.fields.text.now c.args.count c.fields.left
    c.requires c.without_newline-content.ensures c.fields.invariant

pub returns-clause-cell : goal.returns-clause-cell
returns-clause-cell c =
    cell_is c.args.row.now c.without_newline-content.result.now c.fields.text.now _ _ _ c.args.count c.fields.left _
    c.field_len-len.result c.without_newline-content.ensures c.fields.invariant (omega (arith, c.fields-test.false))
    c.field_len-len.ensures refl refl refl (slice_to_end c.args.row.now _)

pub returns-clause-plain : goal.returns-clause-plain
returns-clause-plain c =
    cell_plain c.fields.text.now _ c.field_len-len.result
    (plain_ahead c.args.row.now c.without_newline-content.result.now c.fields.text.now c.args.count c.fields.left
    c.requires c.without_newline-content.ensures c.fields.invariant)
    refl
