use Rattle.std.proofs.Common.{rules, refl, sym, subst, ◌∙◌}
use Rattle.std.specs.Prelude.{IsTrue}
use Rattle.timefd_lint.specs.Marks.{Notes, has_mark}
use Rattle.timefd_lint.specs.Reported.{position}
use Rattle.timefd_lint.proofs.ReportedLemmas.{none_of_all, notes_and_says, text_of_all}
use Rattle.timefd_lint.proofs.lines.lint_whole.Goals as goal

pub returns-in-Ok-clause-reported : goal.returns-in-Ok-clause-reported
returns-in-Ok-clause-reported g c =
    let before = g.W.Sink.contents c.args.writer.now in
    let between = g.W.Sink.contents c.note_mark.new.writer in
    let after = g.W.Sink.contents c.lint_text.new.writer in
    let text = c.deref-in-Ok.result.now in
    let origin = position c.args.name 1 in
    text_of_all c.args.options.language c.args.options.comment c.args.options.reporting origin
    c.args.name.now
    (g.R.BufferedSource.remaining c.args.reader.now) (g.R.BufferedSource.remaining c.read_to_end.new.self)
    c.new-bytes.result.items c.read_to_end.new.bytes.items text before after (g.R.BufferedSource.has_failed c.read_to_end.new.self) c.in_ok-end-in-Ok.end
    c.of.result c.in-Ok.ensures.bytes c.in-Ok.ensures.at_end c.new-bytes.ensures.items
    c.deref-in-Ok.ensures.value c.in_ok-end-in-Ok.ensures.end
    (notes_and_says (has_mark text) c.args.options.language c.args.options.reporting origin text
    c.in_ok-end-in-Ok.end before between after
    (subst (λ t. Notes (has_mark t) c.args.options.reporting.style origin before between)
    (c.deref.ensures.value ∙ sym c.deref-in-Ok.ensures.value) c.in_ok-note_mark-in-Ok.ensures.noted)
    c.in_ok-end-in-Ok.ensures.said)
    c.of.ensures (refl, refl)

pub returns-clause-reported : goal.returns-clause-reported
returns-clause-reported g c =
    let broken : IsTrue (g.R.BufferedSource.has_failed c.read_to_end.new.self) = search rules in
    none_of_all c.args.options.language c.args.options.comment c.args.options.reporting c.args.name
    (g.R.BufferedSource.remaining c.args.reader.now) (g.R.BufferedSource.remaining c.read_to_end.new.self)
    (g.W.Sink.contents c.args.writer.now) (g.W.Sink.contents c.read_error.new.writer)
    (g.R.BufferedSource.has_failed c.read_to_end.new.self)
    c.in_ok-end-in-Err-Failed.end c.of-in-Err-Failed.result c.in_ok-end-in-Err-Failed.ensures.end
    broken c.in_ok-end-in-Err-Failed.ensures.said c.of-in-Err-Failed.ensures
