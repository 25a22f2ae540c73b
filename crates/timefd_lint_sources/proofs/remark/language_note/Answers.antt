use Rattle.timefd_lint_sources.proofs.NoCodeLemmas.{language_noted}
use Rattle.timefd_lint_sources.proofs.remark.language_note.Goals as goal

pub returns : goal.returns
returns c =
    language_noted c.args.style c.args.source c.args.at c.word_at-word.result c.message_at.result c.word_at-word.ensures
    c.message_at.ensures
