use Rattle.timefd_date_moment.proofs.FieldsLemmas.EndedLemmas.{reads_signed}
use Rattle.timefd_date_moment.proofs.fields.laws.reads_signed.Goals as goal

pub returns : goal.returns
returns c = reads_signed
