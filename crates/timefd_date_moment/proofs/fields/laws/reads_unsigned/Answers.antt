use Rattle.timefd_date_moment.proofs.FieldsLemmas.EndedLemmas.{reads_unsigned}
use Rattle.timefd_date_moment.proofs.fields.laws.reads_unsigned.Goals as goal

pub returns : goal.returns
returns c = reads_unsigned
