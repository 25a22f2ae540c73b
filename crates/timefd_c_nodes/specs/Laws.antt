-- What holds for nodes.
use Rattle.std.specs.Prelude.{◌≡◌, List, Some}
use Rattle.timefd_lang_component.specs.Modern.{AreModern}
use Rattle.timefd_lang_component.specs.Tree.{Tree, trees}
use Rattle.timefd_lang_node_list.specs.Views.{walked_all}
use Rattle.timefd_c_nodes.specs.Decoding.{read_nodes}
use Rattle.timefd_c_nodes.specs.Encoding.{nodes_from, literals_of}

-- The nodes of trees read as these trees, if all components are modern.
abbrev pub ReadBack : Type 0
ReadBack = (ts : List Tree) → AreModern (trees ts)
    → read_nodes (literals_of (walked_all (trees ts))) (nodes_from 0 0 (walked_all (trees ts)))
    ≡ Some ts
