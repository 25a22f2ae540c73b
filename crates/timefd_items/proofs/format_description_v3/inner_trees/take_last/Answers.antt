use Rattle.timefd_items.proofs.InnerLemmas.{last_taken, last_left}
use Rattle.timefd_items.proofs.format_description_v3.inner_trees.take_last.Goals as goal

pub returns-clause-taken : goal.returns-clause-taken
returns-clause-taken c = last_taken _ _ _ c.take_last.ensures.items

pub returns-clause-left : goal.returns-clause-left
returns-clause-left c = last_left _ _ _ c.take_last.ensures.items
