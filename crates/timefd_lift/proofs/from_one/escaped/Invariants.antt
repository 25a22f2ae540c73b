use Rattle.std.proofs.Common.{◌≡◌, ◌≤◌, ◌++◌, length, string_bytes}
use denote.Text.{Utf8}
use denote.Shadow.{shadow}
use Rattle.timefd_lift.specs.Bytewise.{outside, EndsOrIsEscaped}
use Rattle.timefd_lift.proofs.from_one.escaped.Given as goal

-- what is written so far, followed by what will be written for the rest, is what is written for the
-- text
abbrev pub invariant-loop-escape : goal.invariant-loop-escape
invariant-loop-escape l =
    shadow (Utf8 l.rest)
    × (string_bytes l.answer ++ outside l.rest ≡ outside l.text)
    × EndsOrIsEscaped l.rest
    × (length l.rest ≤ length l.text)

abbrev pub decreases-loop-escape : goal.decreases-loop-escape
decreases-loop-escape l = length l.rest
