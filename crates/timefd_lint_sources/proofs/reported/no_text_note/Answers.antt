use Rattle.std.proofs.Common.{ap, ◌∙◌}
use Rattle.timefd_lint_sources.specs.Whole.{no_text_note}
use Rattle.timefd_lint_sources.proofs.reported.no_text_note.Goals as goal

pub returns : goal.returns
returns c =
    c.in_ok-message.ensures.exact ∙
    ap (λ n. no_text_note c.args.style (record { file = c.args.source.file; line = n }))
    c.counted-counter.ensures.line
