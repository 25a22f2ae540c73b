use Rattle.std.proofs.Common.{length, string_bytes}
use denote.Text.{Utf8}
use denote.Shadow.{shadow}
use Rattle.timefd_lang_dialect.proofs.AskedLemmas.{HasRun}
use Rattle.timefd_lang_dialect.proofs.reversed.push_run.Given as goal

-- the bytes of the literal in front of the rest are appended
abbrev pub invariant-characters : goal.invariant-characters
invariant-characters l =
    shadow (Utf8 l.rest)
    × HasRun l.text (string_bytes l.fn.literal) (string_bytes l.literal) l.rest

abbrev pub decreases-characters : goal.decreases-characters
decreases-characters l = length l.rest
