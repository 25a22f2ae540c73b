use Rattle.std.proofs.Common.{rules}
use Rattle.timefd_lint_sources.proofs.ItemLemmas.{after_one, closed_here, end_after}
use Rattle.timefd_lint_sources.proofs.item.after_bracket.Goals as goal

pub nested-preserved : goal.nested-preserved
nested-preserved c = record {
  text = (search rules);
  found = λ rest end.
      c.nested.invariant.found rest
      (after_one c.args.version c.nested.left.now c.in-Some.field-0-0.now c.in-Some.after.now rest
      c.in-Some.ensures.found end);
  all = λ rest end.
      end_after c.args.version c.nested.left.now rest c.first_nested.result
      (c.in-Some.field-0-0, c.in-Some.after) c.first_nested.ensures.nested c.in-Some.is
      c.in-Some.ensures.found (c.nested.invariant.all rest end);
}

pub returns-clause-all : goal.returns-clause-all
returns-clause-all c = λ rest end.
    c.after_closing.ensures.all rest
    (closed_here c.args.version c.nested.left.now rest c.in_default.ensures.nested
    (c.nested.invariant.all rest end))
