use Rattle.std.proofs.lemmas.Result.{err_from_is_err_and}
use Rattle.timefd_bin_streams.specs.Words.{bytes_of}
use Rattle.timefd_format.proofs.GuessRunLemmas.{all_read, line_refused, one_more}
use Rattle.timefd_format.proofs.guess_run.input_lines.Goals as goal

pub returns-in-End-clause-lines : goal.returns-in-End-clause-lines
returns-in-End-clause-lines g c =
    all_read (g.I.BufferedSource.remaining c.args.input.now) (g.I.BufferedSource.remaining c.lines.input)
    (g.I.BufferedSource.remaining c.next_line.new.input) (bytes_of c.lines.texts.items) c.next_line.new.bytes.items
    c.in_ok-next_line.field-0 c.lines.invariant c.in_ok-next_line.ensures.read c.in-End.is

pub returns-in_err-push_line-in-Line-clause-end : goal.returns-in_err-push_line-in-Line-clause-end
returns-in_err-push_line-in-Line-clause-end g c =
    let p = err_from_is_err_and c.from_residual-in_err-push_line-in-Line.result
    c.from_residual-in_err-push_line-in-Line.ensures.1 in
    rw (p.1, p.2) (line_refused (g.I.BufferedSource.remaining c.args.input.now) (g.I.BufferedSource.remaining c.lines.input)
    (g.I.BufferedSource.remaining c.next_line.new.input) (bytes_of c.lines.texts.items) c.next_line.new.bytes.items
    c.deref.result.now c.in_err-push_line-in-Line.field-0.0 c.in_ok-next_line.field-0 c.lines.invariant
    c.in_ok-next_line.ensures.read c.in-Line.is c.deref.ensures.value c.in_err-push_line-in-Line.ensures.end)

pub lines-preserved : goal.lines-preserved
lines-preserved g c =
    one_more (g.I.BufferedSource.remaining c.args.input.now) (g.I.BufferedSource.remaining c.lines.input)
    (g.I.BufferedSource.remaining c.next_line.new.input) (bytes_of c.lines.texts.items)
    (bytes_of c.push_line.new.texts.items) c.next_line.new.bytes.items c.deref.result.now
    c.in_ok-next_line.field-0 c.lines.invariant c.in_ok-next_line.ensures.read c.in-Line.is
    c.deref.ensures.value c.in_ok-push_line-in-Line.ensures.pushed
