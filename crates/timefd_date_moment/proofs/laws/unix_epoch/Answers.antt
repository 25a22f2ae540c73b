use Rattle.timefd_date_moment.proofs.DayLemmas as lemmas
use Rattle.timefd_date_moment.proofs.laws.unix_epoch.Goals as goal

-- a lemma says it for any date, time and offset
pub returns : goal.returns
returns c = λ d t o. lemmas.unix_epoch d t o
