use Rattle.timefd_language.specs.declared.description_version.Language.TheVariants.{Version}
use Rattle.timefd_parse.proofs.ParseLemmas.{items_spelled}
use Rattle.timefd_c_nodes.proofs.ReadingLemmas.CountedLemmas.{refuses_version}
use Rattle.timefd_c_nodes.proofs.ReadingLemmas.ReportLemmas.{accepted, items_report, lax_report, not_read}
use Rattle.timefd_c_nodes.proofs.reading.version.read_version.Goals as goal

pub returns-in-Ok-clause-reads : goal.returns-in-Ok-clause-reads
returns-in-Ok-clause-reads c =
    let m = c.in-Ok.ensures.pieces in
    accepted (Version c.args.version) c.args.limit c.args.text.now m.0 _ _ _ _ c.report_of.result
    (items_spelled _ _ _ _ _ m.1)
    (lax_report c.args.version m.0 _ _ _ _ _ c.requires
    (items_report m.0 c.in-Ok.all _ _ _ _ c.has_room.result c.report_of.result m.2
    c.has_room.ensures c.report_of.ensures))

pub returns-in-Err-clause-reads : goal.returns-in-Err-clause-reads
returns-in-Err-clause-reads c =
    not_read (Version c.args.version) c.args.limit c.args.text.now _ c.error_of.result
    c.error_of.ensures.fault c.error_of.ensures.spelled c.error_of.ensures.refused
    c.in-Err.ensures.some

pub returns-in-Err-clause-memory : goal.returns-in-Err-clause-memory
returns-in-Err-clause-memory c =
    refuses_version c.args.version c.args.limit c.args.text.now c.in-Err.error c.error_of.result
    c.in-Err.ensures.pieces c.in-Err.ensures.counted c.error_of.ensures.refused
