use Rattle.timefd_items.proofs.InnerLemmas.{none_by_length}
use Rattle.timefd_items.proofs.format_description_v3.opaque.are_none.Goals as goal

pub returns : goal.returns
returns c = none_by_length _ _ c.is_empty.ensures
