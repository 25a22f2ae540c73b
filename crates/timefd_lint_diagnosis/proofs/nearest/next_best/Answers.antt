use Rattle.std.proofs.Common.{arith, inr, refl}
use Rattle.timefd_lint_diagnosis.proofs.LackingLemmas.{lacking_far}
use Rattle.timefd_lint_diagnosis.proofs.NearestLemmas.{too_far}
use Rattle.timefd_lint_diagnosis.proofs.nearest.next_best.Goals as goal

pub returns-then-abs_diff-best : goal.returns-then-abs_diff-best
returns-then-abs_diff-best c =
    inr (
      refl,
      too_far c.args.word.now c.args.candidate.now c.args.best.edits c.args.count
          c.char_count.result c.abs_diff.result c.requires c.char_count.ensures c.abs_diff.ensures
          c.if-abs_diff-best.true,
    )

pub returns-then-lacking-best : goal.returns-then-lacking-best
returns-then-lacking-best c =
    inr (
      refl,
      lacking_far c.args.word.now c.args.candidate.now c.args.best.edits
          (omega (arith, c.lacking.ensures, c.if-lacking-best.true)),
    )
