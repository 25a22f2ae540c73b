use Rattle.std.proofs.Common.{chars, length}
use Rattle.timefd_lint_diagnosis.proofs.few.+few_edits.Given as goal

abbrev pub decreases-few_edits : goal.decreases-few_edits
decreases-few_edits l = length (chars l.word.now)
