use Rattle.std.proofs.Common.{rules, ◌&&◌, ◌<◌, length, ap, subst, ◌∙◌}
use Rattle.std.specs.Prelude.{IsTrue}
use Rattle.timefd_lint_rewrite.specs.Lines.{without_newline}
use Rattle.timefd_lint.specs.Marks.{Notes, has_mark}
use Rattle.timefd_lint.proofs.ReportedLemmas.{next_reported, read_fails}
use Rattle.timefd_lint.proofs.lines.lint_next.Goals as goal

pub returns-in_ok-lint_line-in-Ok-clause-next : goal.returns-in_ok-lint_line-in-Ok-clause-next
returns-in_ok-lint_line-in-Ok-clause-next g c =
    let some : 0 < length c.read_until.new.bytes.items = search rules in
    next_reported c.args.is_first _ _ _ _ _ _ _ _ _ _ c.clear.new.self.items c.read_until.new.bytes.items _ _
    c.in_ok-lint_line-in-Ok.ensures.end
    (c.without_newline-line.ensures ∙ ap without_newline c.deref-in-Ok.ensures.value)
    c.in-Ok.ensures.bytes c.clear.ensures.items c.in-Ok.ensures.rest some
    (subst (λ t. Notes (c.args.is_first && has_mark t) c.args.options.reporting.style c.args.origin
    (g.W.Sink.contents c.args.writer.now)
    (g.W.Sink.contents c.note_mark.new.writer)) c.deref.ensures.value
    c.in_ok-note_mark-in-Ok.ensures.noted)
    c.in_ok-lint_line-in-Ok.ensures.said

pub returns-in_ok-read_error-in-Err-Failed-clause-next : goal.returns-in_ok-read_error-in-Err-Failed-clause-next
returns-in_ok-read_error-in-Err-Failed-clause-next g c =
    let broken : IsTrue (g.R.BufferedSource.has_failed c.read_until.new.self) = search rules in
    read_fails c.args.is_first c.args.options.language c.args.options.comment c.args.options.reporting
    c.args.origin
    (g.R.BufferedSource.remaining c.args.reader.now) (g.R.BufferedSource.remaining c.read_until.new.self)
    (g.W.Sink.contents c.args.writer.now) (g.W.Sink.contents c.read_error.new.writer)
    (g.R.BufferedSource.has_failed c.read_until.new.self)
    c.in_ok-read_error-in-Err-Failed.field-0 c.in_ok-read_error-in-Err-Failed.ensures.end
    broken
    c.in_ok-read_error-in-Err-Failed.ensures.said
