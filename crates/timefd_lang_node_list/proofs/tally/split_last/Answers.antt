use Rattle.std.proofs.Common.{◌-◌, [], length, refl, arith}
use Rattle.timefd_lang_node_list.proofs.NodeLemmas.{fit_take, last_members}
use Rattle.timefd_lang_node_list.proofs.tally.split_last.Goals as goal

pub returns-clause-fit : goal.returns-clause-fit
returns-clause-fit c = fit_take [] c.args.nodes.now _ c.requires.fit

pub returns-clause-members : goal.returns-clause-members
returns-clause-members c =
    last_members c.args.nodes.now c.index-nodes-count.result (length c.args.nodes.now - 1)
    (length c.args.nodes.now - 1) c.requires.fit refl (omega (arith, c.requires.there))
    c.index-nodes-count.is
