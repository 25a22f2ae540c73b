use Rattle.std.proofs.Common.{◌≤◌, ◌-◌, length}
use Rattle.timefd_lint_scan.proofs.FoundLemmas.{AreUpTo}
use Rattle.timefd_lint_scan.specs.Keys.Comments.{IsLineAt}
use Rattle.timefd_lint_scan.specs.Keys.Found.{StandsIn}
use Rattle.timefd_lint_scan.proofs.KeysLemmas.FoundLemmas.{AreAt}
use Rattle.timefd_lint_scan.proofs.keys.found.values_by.Given as goal

abbrev pub invariant-steps : goal.invariant-steps
invariant-steps l = record {
  found : AreUpTo (StandsIn l.fn.format l.fn.source) l.descriptions.items l.end;
  stops : AreAt l.fn.format l.fn.source l.fn.keys l.spot l.end l.descriptions.items l.unread.items;
  line : IsLineAt l.fn.format l.fn.source l.spot.at l.line;
  within : l.spot.at ≤ length l.fn.source;
}

abbrev pub decreases-steps : goal.decreases-steps
decreases-steps l = length l.fn.source - l.spot.at
