use Rattle.timefd_language.specs.declared.description_version.Language.TheVariants.{Strftime}
use Rattle.timefd_c_nodes.proofs.ReadingLemmas.CountedLemmas.{refuses}
use Rattle.timefd_c_nodes.proofs.ReadingLemmas.PieceLemmas.{pieces_report}
use Rattle.timefd_c_nodes.proofs.ReadingLemmas.ReportLemmas.{not_read, read_as}
use Rattle.timefd_c_nodes.proofs.reading.strftime.read_strftime.Goals as goal

pub returns-in-Ok-clause-reads : goal.returns-in-Ok-clause-reads
returns-in-Ok-clause-reads g c =
    let m = c.in-Ok.ensures.pieces in
    read_as Strftime 0 c.args.text.now m.0 _ c.report_of.result m.1
    (pieces_report _ m.0 c.in-Ok.all _ _ _ _ c.has_room.result c.report_of.result m.2
    c.has_room.ensures c.report_of.ensures)

pub returns-in-Err-clause-reads : goal.returns-in-Err-clause-reads
returns-in-Err-clause-reads g c =
    not_read Strftime 0 c.args.text.now _ c.strftime_error.result c.strftime_error.ensures.fault
    c.strftime_error.ensures.spelled c.strftime_error.ensures.refused c.in-Err.ensures.some

pub returns-in-Err-clause-counted : goal.returns-in-Err-clause-counted
returns-in-Err-clause-counted g c = λ counted.
    refuses c.args.text.now c.in-Err.error c.strftime_error.result c.in-Err.ensures.pieces
    (c.in-Err.ensures.counted counted) c.strftime_error.ensures.refused
