use Rattle.std.proofs.Common.{◌≤◌, length}
use Rattle.timefd_lint_scan.proofs.GatheredLemmas.{AreNoted}
use Rattle.timefd_lint_scan.proofs.gathered.comments_of.Given as goal

abbrev pub invariant-tokens : goal.invariant-tokens
invariant-tokens l = record {
  are : AreNoted l.fn.source l.comments.items l.rest;
  within : length l.rest ≤ length l.fn.source;
}

abbrev pub decreases-tokens : goal.decreases-tokens
decreases-tokens l = length l.rest
