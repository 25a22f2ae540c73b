use Rattle.timefd_lang_dialect.proofs.RowLemmas.{found_bytes, found_stands}
use Rattle.timefd_lang_dialect.proofs.longest.longest.Goals as goal

pub returns-clause-bytes : goal.returns-clause-bytes
returns-clause-bytes c =
    found_bytes c.args.dialect c.first_of_both.result c.args.text.now c.first_of_both.ensures

pub returns-clause-stands : goal.returns-clause-stands
returns-clause-stands c =
    found_stands c.args.dialect c.first_of_both.result c.args.text.now c.first_of_both.ensures
