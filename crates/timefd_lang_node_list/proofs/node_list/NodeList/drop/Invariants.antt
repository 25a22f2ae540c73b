use Rattle.std.proofs.Common.{length}
use Rattle.std.specs.Bool.{IsFalse}
use Rattle.std.specs.List.{list_any}
use Rattle.timefd_lang_node_list.specs.Owners.{owns_text}
use Rattle.timefd_lang_node_list.proofs.node_list.NodeList.drop.Given as goal

-- the nodes that are left
abbrev pub decreases-borrowed : goal.decreases-borrowed
decreases-borrowed l = length l.nodes.items

-- none of them owns its text
abbrev pub invariant-borrowed : goal.invariant-borrowed
invariant-borrowed l = IsFalse (list_any owns_text l.nodes.items)
