use Rattle.std.proofs.Common.{◌≡◌, ◌++◌, length}
use Rattle.std.specs.Prelude.{string_bytes}
use Rattle.std.specs.Str.{encode_utf8_all}
use Rattle.timefd_lint_drawing.specs.People.{all_seen_of}
use Rattle.timefd_lint_drawing.proofs.people.push_seen.Given as goal

-- The characters that are left add the rest.
abbrev pub invariant-chars : goal.invariant-chars
invariant-chars l =
    string_bytes l.shown ++ encode_utf8_all (all_seen_of l.is_colored l.rest)
    ≡ string_bytes l.fn.shown ++ encode_utf8_all (all_seen_of l.is_colored l.fn.text)

abbrev pub decreases-chars : goal.decreases-chars
decreases-chars l = length l.rest
