use Rattle.std.proofs.Common.{rules}
use Rattle.timefd_lint_diagnosis.specs.Words.{texts}
use Rattle.timefd_format.proofs.LineReportLemmas.{word_more}
use Rattle.timefd_format.proofs.RunLemmas.{both_read, goes_on, split_texts}
use Rattle.timefd_format.proofs.words.write_words.Goals as goal

pub words-preserved : goal.words-preserved
words-preserved g c = record {
  written =
      goes_on c.args.otherwise c.args.source.now c.args.description.now (texts c.args.words.now)
      (texts c.words.rest.now) _ c.as_bytes.result.now (g.W.Sink.contents c.args.output.now)
      (g.W.Sink.contents c.words.output) (g.W.Sink.contents c.tally_one.new.output) c.words.tally
      c.in_ok-one.one c.and-tally.result c.in_ok-one.ensures.one.0
      (split_texts c.words.rest.now _ _ c.as_bytes.result.now (search rules) c.in-len1-up.len_at_least
      c.as_bytes.ensures.value)
      c.words.invariant.written c.in_ok-one.ensures.one.1 c.in_ok-one.ensures.one.2 c.and-tally.ensures;
  read =
      both_read c.words.tally c.in_ok-one.one c.and-tally.result c.and-tally.ensures c.words.invariant.read
      c.in_ok-one.ensures.read;
  reported =
      word_more c.args.source.now c.args.description.now (texts c.args.words.now) (texts c.words.rest.now) _
      c.as_bytes.result.now (g.E.Sink.contents c.args.errors.now) (g.E.Sink.contents c.words.errors)
      (g.E.Sink.contents c.tally_one.new.errors) (g.E.Sink.has_failed c.args.errors.now)
      (g.E.Sink.has_failed c.words.errors) (g.E.Sink.has_failed c.tally_one.new.errors)
      (split_texts c.words.rest.now _ _ c.as_bytes.result.now (search rules) c.in-len1-up.len_at_least
      c.as_bytes.ensures.value)
      c.words.invariant.reported c.in_ok-one.ensures.reports;
}
