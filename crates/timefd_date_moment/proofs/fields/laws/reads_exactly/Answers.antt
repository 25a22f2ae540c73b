use Rattle.timefd_date_moment.proofs.FieldsLemmas.RelationLemmas as lemmas
use Rattle.timefd_date_moment.proofs.fields.laws.reads_exactly.Goals as goal

pub returns : goal.returns
returns c = lemmas.reads_exactly
