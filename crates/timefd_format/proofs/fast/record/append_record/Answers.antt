use Rattle.std.proofs.Common.{◌∙◌, sym}
use Rattle.timefd_format.proofs.RecordBatchLemmas.{record_appended}
use Rattle.timefd_format.proofs.fast.record.append_record.Goals as goal

pub returns : goal.returns
returns c =
    record_appended c.args.source.now c.args.description.now c.args.count c.args.row.now c.args.room.now
    c.append_cell.new.room c.args.at c.in_ok-cell.cell c.in_ok-moment.moment c.append_cell.result
    c.in_ok-cell.ensures.cell c.in_ok-cell.ensures.plain (sym c.is_empty.ensures ∙ c.if-is_empty.false)
    c.in_ok-moment.ensures c.append_cell.ensures
