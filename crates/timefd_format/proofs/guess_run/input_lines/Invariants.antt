use Rattle.timefd_bin_streams.specs.Words.{bytes_of}
use Rattle.timefd_format.proofs.GuessRunLemmas.{ReadsOn}
use Rattle.timefd_format.proofs.guess_run.input_lines.Given as goal

-- The lines that were taken from the input are kept.
abbrev pub invariant-lines : goal.invariant-lines
invariant-lines g l =
    ReadsOn (g.I.BufferedSource.remaining l.fn.input) (g.I.BufferedSource.remaining l.input) (bytes_of l.texts.items)

abbrev pub decreases-lines : goal.decreases-lines
decreases-lines g l = g.I.BufferedSource.calls_left l.input
