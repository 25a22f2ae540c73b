use Rattle.timefd_lang_node_list.proofs.ItemLemmas.EqualityLemmas.{tree_equality_law}
use Rattle.timefd_lang_node_list.proofs.item.laws.tree_equality.Goals as goal

pub returns : goal.returns
returns c = tree_equality_law
