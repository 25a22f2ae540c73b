use Rattle.std.specs.Prelude.{string_bytes}
use Rattle.timefd_lint_rewrite.specs.Chains.{LeadsTo}
use Rattle.timefd_lint_rewrite.proofs.fixing.fixed.Given as goal

-- Each step wrote one cure.
abbrev pub invariant-steps : goal.invariant-steps
invariant-steps l = LeadsTo l.language l.fixes l._step l.fn.text (string_bytes l.now)
