use Rattle.std.proofs.Common.{[]}
use Rattle.timefd_lang_node_list.proofs.NodeLemmas.{fit_take}
use Rattle.timefd_lang_node_list.proofs.ViewLemmas.{one}
use Rattle.timefd_lang_node_list.proofs.view.split_one.Goals as goal

pub returns-clause-fit : goal.returns-clause-fit
returns-clause-fit c = fit_take [] c.args.nodes.now _ c.requires.fit

pub returns-clause-members : goal.returns-clause-members
returns-clause-members c = (one c.args.nodes.now _ c.requires.fit c.requires.one c.requires.there
    c.index-nodes-count.is).members

pub returns-clause-tree : goal.returns-clause-tree
returns-clause-tree c = (one c.args.nodes.now _ c.requires.fit c.requires.one c.requires.there
    c.index-nodes-count.is).tree

pub returns-clause-bytes : goal.returns-clause-bytes
returns-clause-bytes c = (one c.args.nodes.now _ c.requires.fit c.requires.one c.requires.there
    c.index-nodes-count.is).bytes
