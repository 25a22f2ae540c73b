use Rattle.std.proofs.Common.{◌≡◌, false, length}
use Rattle.timefd_lint_diagnosis.specs.Words.{texts}
use Rattle.timefd_format.proofs.LineReportLemmas.{CompletesWords}
use Rattle.timefd_format.proofs.RunLemmas.{Completes}
use Rattle.timefd_format.proofs.words.write_words.Given as goal

-- The words that were taken are written and reported. No read failed.
abbrev pub invariant-words : goal.invariant-words
invariant-words g l = record {
  written : Completes l.otherwise l.source l.description (texts l.fn.words) (texts l.rest)
      (g.W.Sink.contents l.fn.output) (g.W.Sink.contents l.output) l.tally;
  read : l.tally.has_failed ≡ false;
  reported : CompletesWords l.source l.description (texts l.fn.words) (texts l.rest) (g.E.Sink.contents l.fn.errors)
      (g.E.Sink.contents l.errors) (g.E.Sink.has_failed l.fn.errors) (g.E.Sink.has_failed l.errors);
}

abbrev pub decreases-words : goal.decreases-words
decreases-words g l = length l.rest
