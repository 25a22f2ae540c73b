use Rattle.std.proofs.Common.{rules, subst, sym}
use Rattle.timefd_lint.specs.Files.{IsOpenedBy}
use Rattle.timefd_lint.proofs.FilesLemmas.{IsRunTo, no_name, one_name, split_names}
use Rattle.timefd_lint.proofs.run.lint_files.Goals as goal

pub names-init : goal.names-init
names-init g c =
    subst (IsRunTo (IsOpenedBy (g.S.FileOpener.opens c.args.source.now) g.S.Opened.BufferedSource.has_failed) (g.S.FileOpener.fails c.args.source.now)
    c.args.options c.args.options.files.now c.args.options.files.now
    (g.I.BufferedSource.remaining c.args.input.now) (g.I.BufferedSource.remaining c.args.input.now)
    (g.I.BufferedSource.has_failed c.args.input.now)
    (g.W.Sink.contents c.args.writer.now) (g.W.Sink.contents c.args.writer.now))
    (sym c.new-tally.ensures)
    (no_name (IsOpenedBy (g.S.FileOpener.opens c.args.source.now) g.S.Opened.BufferedSource.has_failed) (g.S.FileOpener.fails c.args.source.now)
    c.args.options c.args.options.files.now (g.I.BufferedSource.remaining c.args.input.now)
    (g.W.Sink.contents c.args.writer.now) (g.I.BufferedSource.has_failed c.args.input.now))

pub names-preserved : goal.names-preserved
names-preserved g c =
    one_name (IsOpenedBy (g.S.FileOpener.opens c.args.source.now) g.S.Opened.BufferedSource.has_failed) (g.S.FileOpener.fails c.args.source.now)
    c.args.options c.args.options.files.now c.names.rest.now _ _
    (g.I.BufferedSource.remaining c.args.input.now) (g.I.BufferedSource.remaining c.names.input)
    (g.I.BufferedSource.remaining c.lint_named.new.input)
    (g.I.BufferedSource.has_failed c.names.input) (g.I.BufferedSource.has_failed c.lint_named.new.input) (g.W.Sink.contents c.args.writer.now)
    (g.W.Sink.contents c.names.writer) (g.W.Sink.contents c.lint_named.new.writer)
    c.names.tally c.in_ok-lint_named.field-0 c.and-tally.result
    (split_names c.names.rest.now _ _ (search rules) c.in-len1-up.len_at_least)
    c.and-tally.ensures c.in_ok-lint_named.ensures.stays c.names.invariant c.in_ok-lint_named.ensures.reported
    c.in_ok-lint_named.ensures.named
