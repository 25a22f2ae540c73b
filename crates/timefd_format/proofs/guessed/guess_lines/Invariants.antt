use Rattle.std.proofs.Common.{◌≡◌, ◌++◌, length, string_bytes}
use Rattle.timefd_format.specs.Guessed.{guess_lines}
use Rattle.timefd_format.proofs.guessed.guess_lines.Given as goal

-- the lines of what is left come after
abbrev pub invariant-guesses : goal.invariant-guesses
invariant-guesses l = string_bytes l.lines ++ guess_lines l.rest ≡ guess_lines l.fn.found

abbrev pub decreases-guesses : goal.decreases-guesses
decreases-guesses l = length l.rest
