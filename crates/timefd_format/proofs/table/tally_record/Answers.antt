use Rattle.std.proofs.Common.{◌∙◌}
use Rattle.timefd_format.proofs.TableLemmas.{has_some, of_cell_ok}
use Rattle.timefd_format.proofs.TableReportLemmas.{field_reported_ok, no_field_reported}
use Rattle.timefd_format.proofs.table.tally_record.Goals as goal

pub returns-in_ok-text_in-in-Some-clause-one : goal.returns-in_ok-text_in-in-Some-clause-one
returns-in_ok-text_in-in-Some-clause-one g c =
    of_cell_ok c.args.otherwise c.args.source.now c.args.description.now c.args.count c.args.row.now
    c.as_slice.result.now c.in-Some.cell (g.W.Sink.contents c.args.output.now)
    (g.W.Sink.contents c.tally_one.new.output) c.tally_one.result c.requires.closed
    (has_some c.args.row.now c.without_newline.result.now c.is_empty.result c.is_empty.ensures
    c.if-is_empty.false c.without_newline.ensures)
    c.in-Some.ensures.some (c.as_slice.ensures.value ∙ c.in_ok-text_in-in-Some.ensures)
    c.tally_one.ensures.one

pub returns-in_ok-text_in-in-Some-clause-reports : goal.returns-in_ok-text_in-in-Some-clause-reports
returns-in_ok-text_in-in-Some-clause-reports g c =
    field_reported_ok c.args.source.now c.args.description.now c.args.count c.args.line c.args.row.now
    c.as_slice.result.now c.in-Some.cell (g.E.Sink.contents c.args.errors.now)
    (g.E.Sink.contents c.tally_one.new.errors) (g.E.Sink.has_failed c.args.errors.now)
    (g.E.Sink.has_failed c.tally_one.new.errors) c.tally_one.result c.requires.closed
    (has_some c.args.row.now c.without_newline.result.now c.is_empty.result c.is_empty.ensures
    c.if-is_empty.false c.without_newline.ensures)
    c.in-Some.ensures.some (c.as_slice.ensures.value ∙ c.in_ok-text_in-in-Some.ensures)
    c.tally_one.ensures.reports

pub returns-in_ok-replace_record-in-None-clause-reports : goal.returns-in_ok-replace_record-in-None-clause-reports
returns-in_ok-replace_record-in-None-clause-reports g c =
    no_field_reported c.args.source.now c.args.description.now c.args.count c.args.line c.args.row.now
    c.as_bytes.result.now (g.E.Sink.contents c.args.errors.now) (g.E.Sink.contents c.report.new.errors)
    (g.E.Sink.has_failed c.args.errors.now) (g.E.Sink.has_failed c.report.new.errors) c.requires.closed
    (has_some c.args.row.now c.without_newline.result.now c.is_empty.result c.is_empty.ensures
    c.if-is_empty.false c.without_newline.ensures)
    (c.cell_after.ensures.none c.in-None.is) (c.as_bytes.ensures.value ∙ c.in_ok-message-in-None.ensures)
    c.in_ok-report-in-None.ensures.gets
