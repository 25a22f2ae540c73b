use Rattle.timefd_format.proofs.PlainLemmas.{whole_row}
use Rattle.timefd_format.proofs.fast.plain.plain_field.Goals as goal

pub returns-in-None : goal.returns-in-None
returns-in-None c = whole_row c.args.row.now c.in-None.ensures
