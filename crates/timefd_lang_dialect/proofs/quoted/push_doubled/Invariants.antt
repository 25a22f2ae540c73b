use Rattle.std.proofs.Common.{◌≡◌, ◌++◌, length, string_bytes}
use denote.Text.{Utf8}
use denote.Shadow.{shadow}
use Rattle.timefd_lang_dialect.specs.Asked.{doubled}
use Rattle.timefd_lang_dialect.proofs.quoted.push_doubled.Given as goal

-- what is written so far, and then what is written for the rest, is what is written for the literal
abbrev pub invariant-characters : goal.invariant-characters
invariant-characters l =
    shadow (Utf8 l.rest)
    × (string_bytes l.format ++ doubled l.mark l.rest ≡ string_bytes l.fn.format ++ doubled l.mark l.literal)

abbrev pub decreases-characters : goal.decreases-characters
decreases-characters l = length l.rest
