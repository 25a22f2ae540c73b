use Rattle.std.proofs.Common.{◌∙◌}
use Rattle.timefd_lint_sources.proofs.NoCodeLemmas.{noted}
use Rattle.timefd_lint_sources.proofs.no_code.code_note.Goals as goal

pub returns : goal.returns
returns c =
    noted c.args.style c.args.source c.args.word c.deref.result.now c.message_at.result
    (c.deref.ensures ∙ c.in_ok-sentence.ensures) c.message_at.ensures
