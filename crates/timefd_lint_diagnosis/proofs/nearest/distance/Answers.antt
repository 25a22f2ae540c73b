use Rattle.timefd_lint_diagnosis.proofs.NearestLemmas.{distance_of}
use Rattle.timefd_lint_diagnosis.proofs.nearest.distance.Goals as goal

pub returns : goal.returns
returns c =
    distance_of c.args.word.now c.args.other.now c.damerau_levenshtein.result
    c.damerau_levenshtein.ensures.same c.damerau_levenshtein.ensures.first_empty
    c.damerau_levenshtein.ensures.second_empty c.damerau_levenshtein.ensures.value
