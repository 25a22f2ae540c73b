use Rattle.std.proofs.Common.{refl}
use Rattle.timefd_language.proofs.DistinctLemmas.{distinct_keys, distinct_values}
use Rattle.timefd_language.proofs.laws.distinct_words.Goals as goal

pub returns : goal.returns
returns c = record { name = refl; keys = distinct_keys; values = distinct_values }
