use Rattle.timefd_date_moment.proofs.FieldsLemmas.EndedLemmas.{reads_ended}
use Rattle.timefd_date_moment.proofs.fields.laws.reads_ended.Goals as goal

pub returns : goal.returns
returns c = reads_ended
