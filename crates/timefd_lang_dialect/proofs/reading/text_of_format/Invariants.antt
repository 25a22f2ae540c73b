use Rattle.std.proofs.Common.{length, string_bytes}
use denote.Text.{Utf8}
use denote.Shadow.{shadow}
use Rattle.timefd_lang_dialect.proofs.ReadingLemmas.{HasRead}
use Rattle.timefd_lang_dialect.proofs.reading.text_of_format.Given as goal

-- the pieces in front of the rest were read
abbrev pub invariant-pieces : goal.invariant-pieces
invariant-pieces l =
    shadow (Utf8 l.rest)
    × HasRead l.dialect l.format l.rest (string_bytes l.text) l.limits

abbrev pub decreases-pieces : goal.decreases-pieces
decreases-pieces l = length l.rest
