use Rattle.timefd_lang_dialect.proofs.ToReadLemmas.{reading_converted, unread_reported}
use Rattle.timefd_lang_dialect.proofs.to_read.to_version_three_for_reading.Goals as goal

pub returns-clause-reads : goal.returns-clause-reads
returns-clause-reads c =
    reading_converted c.args.dialect c.args.format.now c.text_to_read.result
    c.text_to_read.ensures.converted c.text_to_read.ensures.fault

pub returns-clause-refused : goal.returns-clause-refused
returns-clause-refused c =
    unread_reported c.args.dialect c.args.format.now c.text_to_read.result
    c.text_to_read.ensures.converted c.text_to_read.ensures.fault
