use Rattle.std.proofs.Common.{◌≡◌, length}
use Rattle.timefd_lint_scan.specs.Aliases as spec
use Rattle.timefd_lint_scan.proofs.module_import.self_in_list.Given as goal

-- The answer for the rest is the answer for everything.
abbrev pub invariant-tokens : goal.invariant-tokens
invariant-tokens l = record {
  rest : spec.self_in_list l.source l.original l.rest ≡ spec.self_in_list l.source l.original l.pieces;
  known : spec.IsUntil l.source l.rest l.known;
}

abbrev pub decreases-tokens : goal.decreases-tokens
decreases-tokens l = length l.rest
