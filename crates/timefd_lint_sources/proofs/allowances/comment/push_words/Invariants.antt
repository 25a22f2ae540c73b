use Rattle.std.proofs.Common.{◌≡◌, ◌++◌, length}
use Rattle.timefd_lint_sources.specs.Allowances.Comments as spec
use Rattle.timefd_lint_sources.proofs.allowances.comment.push_words.Given as goal

-- The words so far, followed by those of the rest, are all words.
abbrev pub invariant-bytes : goal.invariant-bytes
invariant-bytes l =
    l.found.items ++ spec.words l.reach l.end l.before l.left
    ≡ l.fn.found.items ++ spec.words l.reach l.end spec.blank l.fn.text

abbrev pub decreases-bytes : goal.decreases-bytes
decreases-bytes l = length l.left
