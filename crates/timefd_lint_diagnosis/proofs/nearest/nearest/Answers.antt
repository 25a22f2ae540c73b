use Rattle.timefd_lint_diagnosis.specs.Words.{texts}
use Rattle.timefd_lint_diagnosis.proofs.NearestLemmas.{found_nearest}
use Rattle.timefd_lint_diagnosis.proofs.nearest.nearest.Goals as goal

pub returns : goal.returns
returns c =
    found_nearest (texts c.args.words.now) c.args.word.now c.in_ok-best.best.edits
    c.in_ok-best.best.found c.in_ok-best.ensures
