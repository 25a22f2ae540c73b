use Rattle.timefd_lint_drawing.proofs.PeopleLemmas.{lossy_seen}
use Rattle.timefd_lint_drawing.proofs.people.shown_text.Goals as goal

pub returns-clause-seen : goal.returns-clause-seen
returns-clause-seen c =
    lossy_seen c.args.is_colored c.args.bytes.now c.in_ok-text.text c.in_ok-text.ensures.lossy
