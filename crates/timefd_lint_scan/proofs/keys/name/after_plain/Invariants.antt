use Rattle.std.proofs.Common.{◌≡◌, ◌≤◌, length}
use Rattle.timefd_lint_scan.specs.Keys.Names.{after_plain}
use Rattle.timefd_lint_scan.proofs.keys.name.after_plain.Given as goal

abbrev pub invariant-bytes : goal.invariant-bytes
invariant-bytes l = record {
  rest : after_plain l.rest ≡ after_plain l.fn.text;
  within : length l.rest ≤ length l.fn.text;
}

abbrev pub decreases-bytes : goal.decreases-bytes
decreases-bytes l = length l.rest
