use Rattle.std.proofs.Common.{◌≡◌, ℕ, List, map, drop}
use Rattle.timefd_language.specs.Combinations.{refusals}
use Rattle.timefd_language.specs.Head.{Placed}
use Rattle.timefd_language.specs.Lookup.{refusal_for}
use Rattle.timefd_parse.specs.Judged.{ShowsPositions}
use Rattle.timefd_language.specs.Verdict.{combined}
use Rattle.timefd_parse.proofs.head.verdict.combination_fault.Given as goal

-- the refusals that were looked at refuse nothing
abbrev pub invariant-refusals : goal.invariant-refusals
invariant-refusals l =
    (total : ℕ) (ps : List Placed) → ShowsPositions total l.positions ps
    → combined (refusals l.fn.component) ps ≡ combined
    (map refusal_for (drop l.refusal-index l.refusal-items)) ps
