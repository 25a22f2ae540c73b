use Rattle.std.proofs.Common.{length}
use Rattle.timefd_lint_diagnosis.specs.Words.{texts}
use Rattle.timefd_lint_sources.proofs.NoCodeLemmas.{IsUpTo}
use Rattle.timefd_lint_sources.proofs.no_code.push_unknown.Given as goal

-- The remarks on the rest are those that are missing.
abbrev pub invariant-comments : goal.invariant-comments
invariant-comments l =
    IsUpTo l.source (texts l.codes) l.allowances l.left l.fn.remarks.items l.remarks.items

abbrev pub decreases-comments : goal.decreases-comments
decreases-comments l = length l.left
