use Rattle.std.proofs.Common.{arith}
use Rattle.timefd_lint_diagnosis.proofs.NearestLemmas.{next_so_far, all_so_far}
use Rattle.timefd_lint_diagnosis.proofs.nearest.best_of_all.Goals as goal

pub loop-candidate-preserved : goal.loop-candidate-preserved
loop-candidate-preserved c =
    next_so_far c.args.words.now c.args.word.now c.loop-candidate.candidate-index _
    c.loop-candidate.best c.in_ok-best.best (omega (arith, c.loop-candidate-test.true))
    c.loop-candidate.invariant c.in_ok-best.ensures

pub returns : goal.returns
returns c =
    all_so_far c.args.words.now c.args.word.now c.loop-candidate.candidate-index
    c.loop-candidate.best.edits c.loop-candidate.best.found c.loop-candidate-test.false
    c.loop-candidate.invariant
