use Rattle.std.proofs.Common.{length, string_bytes}
use denote.Text.{Utf8}
use denote.Shadow.{shadow}
use Rattle.timefd_lang_dialect.proofs.FormatLemmas.{HasAsked}
use Rattle.timefd_lang_dialect.proofs.reversed.format_of.Given as goal

-- the parts in front of the rest are those of the format
abbrev pub invariant-parts : goal.invariant-parts
invariant-parts l =
    shadow (Utf8 l.rest) × HasAsked l.dialect l.description l.rest (string_bytes l.format)

abbrev pub decreases-parts : goal.decreases-parts
decreases-parts l = length l.rest
