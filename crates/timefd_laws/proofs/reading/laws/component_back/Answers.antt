use Rattle.timefd_laws.proofs.ReadingLemmas.TableLemmas as lemmas
use Rattle.timefd_laws.proofs.reading.laws.component_back.Goals as goal

pub returns : goal.returns
returns c = lemmas.component_back
