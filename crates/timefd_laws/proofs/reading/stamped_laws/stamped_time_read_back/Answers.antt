use Rattle.timefd_laws.proofs.ReadingLemmas.StampedBackLemmas as lemmas
use Rattle.timefd_laws.proofs.reading.stamped_laws.stamped_time_read_back.Goals as goal

pub returns : goal.returns
returns c = lemmas.stamped_time_read_back
