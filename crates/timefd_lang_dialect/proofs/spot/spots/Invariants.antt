use Rattle.std.proofs.Common.{length}
use denote.Text.{Utf8}
use denote.Shadow.{shadow}
use Rattle.timefd_lang_dialect.proofs.SpotLemmas.{HasSpots}
use Rattle.timefd_lang_dialect.proofs.spot.spots.Given as goal

-- the directives in front of the rest were found
abbrev pub invariant-parts : goal.invariant-parts
invariant-parts l = shadow (Utf8 l.rest) × HasSpots l.dialect l.format l.rest l.spots.items

abbrev pub decreases-parts : goal.decreases-parts
decreases-parts l = length l.rest
