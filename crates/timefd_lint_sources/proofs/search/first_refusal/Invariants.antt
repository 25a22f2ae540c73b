use Rattle.std.proofs.Common.{length}
use denote.Text.{Utf8}
use denote.Shadow.{shadow}
use Rattle.timefd_lint_sources.proofs.SearchLemmas.{HasPassed}
use Rattle.timefd_lint_sources.proofs.search.first_refusal.Given as goal

-- the parts in front of the rest are passed over
abbrev pub invariant-parts : goal.invariant-parts
invariant-parts l = shadow (Utf8 l.rest) × HasPassed l.parts l.dialect l.text l.rest

abbrev pub decreases-parts : goal.decreases-parts
decreases-parts l = length l.rest
