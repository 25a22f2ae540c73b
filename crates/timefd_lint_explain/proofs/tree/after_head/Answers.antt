use Rattle.std.proofs.Common.{arith, rules}
use Rattle.timefd_lint_explain.proofs.HeadLemmas.{modified_end, modified_more}
use Rattle.timefd_lint_explain.proofs.tree.after_head.Goals as goal

pub modifiers-preserved : goal.modifiers-preserved
modifiers-preserved c = (
  search rules,
  omega (arith, c.modifiers.invariant.1, c.in-Some-first_modifier.ensures.shorter),
  λ h after is ends whole.
      modified_more after c.modifiers.rest.now c.in-Some-first_modifier.after.now
      c.in-Some-first_modifier.field-0-0 ends (c.modifiers.invariant.2 h after is ends whole)
      c.in-Some-first_modifier.ensures.found
      (λ m b it stops e. (c.in-Some-first_modifier.ensures.modifiers m b it stops e).2),
)

pub returns-clause-after : goal.returns-clause-after
returns-clause-after c = λ h after is ends whole.
    modified_end after c.modifiers.rest.now ends (c.modifiers.invariant.2 h after is ends whole)
    (λ m b it stops e. c.in_default-first_modifier.ensures.modifiers m b it stops e)
