use Rattle.std.proofs.Common.{◌≡◌, ◌++◌, flat_map, drop, string_bytes}
use Rattle.timefd_lint_drawing.proofs.lines.push_all.Given as goal

abbrev pub invariant-loop-part : goal.invariant-loop-part
invariant-loop-part l = string_bytes l.out ++ flat_map (λ part. part.now)
    (drop l.part-index l.parts) ≡ string_bytes l.fn.out ++ flat_map (λ part. part.now) l.parts
