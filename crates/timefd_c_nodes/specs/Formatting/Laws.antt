-- The nodes that are written for trees are a description.
use Rattle.std.specs.Prelude.{◌≡◌, List, None}
use Rattle.timefd_lang_component.specs.Modern.{AreModern}
use Rattle.timefd_lang_component.specs.Tree.{Tree, trees}
use Rattle.timefd_lang_node_list.specs.Views.{walked_all}
use Rattle.timefd_c_nodes.specs.Encoding.{literals_of, nodes_from}
use Rattle.timefd_c_nodes.specs.Formatting.Nodes.{node_fault}

-- Each of the nodes that `timefd_c_nodes` writes for trees is part of a description.
abbrev pub WrittenAreSound : Type 0
WrittenAreSound = (ts : List Tree) → AreModern (trees ts)
    → node_fault (literals_of (walked_all (trees ts))) (nodes_from 0 0 (walked_all (trees ts)))
    ≡ None
