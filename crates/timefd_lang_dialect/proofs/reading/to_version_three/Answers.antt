use Rattle.timefd_lang_dialect.proofs.AnswerLemmas.{meant_converted, refused_reported}
use Rattle.timefd_lang_dialect.proofs.reading.to_version_three.Goals as goal

pub returns-clause-means : goal.returns-clause-means
returns-clause-means c =
    meant_converted c.args.dialect c.args.format.now c.text_of_format.result
    c.text_of_format.ensures.converted c.text_of_format.ensures.fault

pub returns-clause-refused : goal.returns-clause-refused
returns-clause-refused c =
    refused_reported c.args.dialect c.args.format.now c.text_of_format.result
    c.text_of_format.ensures.converted c.text_of_format.ensures.fault
