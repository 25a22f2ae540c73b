use Rattle.std.proofs.Common.{◌≡◌, ◌++◌, flat_map, drop}
use Rattle.timefd_lint_drawing.specs.Drawing.{drawn_further}
use Rattle.timefd_lint_drawing.proofs.draw.push_further.Given as goal

abbrev pub invariant-loop-diagnostic : goal.invariant-loop-diagnostic
invariant-loop-diagnostic l =
    l.message.items ++ flat_map (drawn_further l.style l.origin l.text)
    (drop l.diagnostic-index l.further)
    ≡ l.fn.message.items ++ flat_map (drawn_further l.style l.origin l.text) l.further
