use Rattle.std.proofs.Common.{◌≡◌, ◌++◌, drop, flat_map}
use Rattle.timefd_lint_scan.specs.Keys.Spelled.{spelled}
use Rattle.timefd_lint_scan.proofs.keys.spelled.push_all.Given as goal

abbrev pub invariant-loop-byte : goal.invariant-loop-byte
invariant-loop-byte l = l.string.items ++ flat_map (spelled l.style) (drop l.byte-index l.text)
    ≡ l.fn.string.items ++ flat_map (spelled l.style) l.text
