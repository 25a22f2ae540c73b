use Rattle.std.proofs.Common.{refl}
use Rattle.timefd_format.proofs.FieldLemmas.{cell_found, slice_to_end}
use Rattle.timefd_format.proofs.fields.cell_after.Goals as goal

pub returns-then-left-eq0-clause-some : goal.returns-then-left-eq0-clause-some
returns-then-left-eq0-clause-some c =
    cell_found c.args.row.now c.without_newline-content.result.now _ c.split_field-split.result.field.now _
    c.args.count c.fields.left c.in-Some.text c.fields.more c.split_field-split.result
    c.without_newline-content.ensures c.in-Some.is c.if-left-eq0.true c.fields.invariant
    c.split_field-split.ensures refl refl (slice_to_end c.args.row.now _)
