use Rattle.std.proofs.Common.{refl, arith}
use Rattle.std.specs.declared.io.ErrorKind.TheVariants.{Other}
use Rattle.timefd_lint.proofs.ReportedLemmas.{ends_here, goes_on, fails_here, fails_last}
use Rattle.timefd_lint.proofs.lines.lint_lines.Goals as goal

pub returns-in-None-clause-reported : goal.returns-in-None-clause-reported
returns-in-None-clause-reported g c =
    ends_here c.lines.is_first c.args.options.language c.args.options.comment c.args.options.reporting
    c.args.name c.lines.line
    (g.R.BufferedSource.remaining c.args.reader.now)
    (g.R.BufferedSource.remaining c.lines.reader) (g.R.BufferedSource.remaining c.lint_next.new.reader)
    (g.W.Sink.contents c.args.writer.now)
    (g.W.Sink.contents c.lines.writer) (g.W.Sink.contents c.lint_next.new.writer)
    (g.R.BufferedSource.has_failed c.lint_next.new.reader) c.lines.tally
    c.in_ok-lint_next.field-0 c.in-None.is c.lines.invariant.0 c.in_ok-lint_next.ensures.next

pub returns-then-tally-clause-reported : goal.returns-then-tally-clause-reported
returns-then-tally-clause-reported g c =
    fails_here c.lines.is_first c.args.options.language c.args.options.comment c.args.options.reporting
    c.args.name c.lines.line
    (g.R.BufferedSource.remaining c.args.reader.now)
    (g.R.BufferedSource.remaining c.lines.reader) (g.R.BufferedSource.remaining c.lint_next.new.reader)
    (g.W.Sink.contents c.args.writer.now)
    (g.W.Sink.contents c.lines.writer) (g.W.Sink.contents c.lint_next.new.writer)
    (g.R.BufferedSource.has_failed c.lint_next.new.reader) c.lines.tally
    c.of.result c.and-tally.result c.in_ok-lint_next.field-0 c.in-Some.end c.in-Some.is
    c.lines.invariant.0
    c.in_ok-lint_next.ensures.next c.of.ensures c.and-tally.ensures c.if-tally.true

pub lines-preserved : goal.lines-preserved
lines-preserved g c = (
  goes_on c.lines.is_first c.args.options.language c.args.options.comment c.args.options.reporting
      c.args.name c.lines.line
      (g.R.BufferedSource.remaining c.args.reader.now)
      (g.R.BufferedSource.remaining c.lines.reader) (g.R.BufferedSource.remaining c.lint_next.new.reader)
      (g.W.Sink.contents c.args.writer.now)
      (g.W.Sink.contents c.lines.writer) (g.W.Sink.contents c.lint_next.new.writer)
      (g.R.BufferedSource.has_failed c.lint_next.new.reader) c.lines.tally
      c.of.result c.and-tally.result c.in_ok-lint_next.field-0 c.in-Some.end c.in-Some.is
      c.lines.invariant.0
      c.in_ok-lint_next.ensures.next c.of.ensures c.and-tally.ensures c.if-tally.false,
  λ broken. c.in_ok-lint_next.ensures.stays (c.lines.invariant.1 broken),
)

pub returns-clause-reported : goal.returns-clause-reported
returns-clause-reported g c =
    fails_last c.lines.is_first c.args.options.language c.args.options.comment c.args.options.reporting
    c.args.name c.lines.line
    (g.R.BufferedSource.remaining c.args.reader.now)
    (g.R.BufferedSource.remaining c.lines.reader) (g.R.BufferedSource.remaining c.lines.reader)
    (g.W.Sink.contents c.args.writer.now)
    (g.W.Sink.contents c.lines.writer) (g.W.Sink.contents c.failed.new.writer)
    (g.R.BufferedSource.has_failed c.lines.reader) c.lines.tally
    c.of-2.result c.and.result c.in_ok-end.end c.in_ok-end.ensures.end c.lines.invariant.0
    (omega (arith, c.lines-test.false))
    (_, (Other, refl), c.in_ok-end.ensures.noted)
    c.of-2.ensures c.and.ensures
