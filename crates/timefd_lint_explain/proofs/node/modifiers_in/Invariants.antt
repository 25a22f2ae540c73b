use Rattle.std.proofs.Common.{length}
use denote.Text.{Utf8}
use denote.Shadow.{shadow}
use Rattle.timefd_lint_explain.proofs.node.modifiers_in.Given as goal

abbrev pub invariant-modifiers : goal.invariant-modifiers
invariant-modifiers l = shadow (Utf8 l.rest)

abbrev pub decreases-modifiers : goal.decreases-modifiers
decreases-modifiers l = length l.rest
