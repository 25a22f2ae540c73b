use Rattle.std.proofs.Common.{◌≡◌, length}
use Rattle.timefd_lint_diagnosis.specs.Words.{texts}
use Rattle.timefd_lint_sources.specs.CodeNames as spec
use Rattle.timefd_lint_sources.proofs.codes.is_code.Given as goal

-- The answer for the rest is the answer for everything.
abbrev pub invariant-codes : goal.invariant-codes
invariant-codes l = spec.is_among (texts l.left) l.word ≡ spec.is_among (texts l.codes) l.word

abbrev pub decreases-codes : goal.decreases-codes
decreases-codes l = length l.left
