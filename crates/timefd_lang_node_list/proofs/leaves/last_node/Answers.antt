use Rattle.std.proofs.Common.{◌∙◌, ◌-◌, [], suc, length, map, refl, sym, ap, arith}
use Rattle.std.proofs.lemmas.List.{take_all}
use Rattle.timefd_lang_node_list.specs.Nodes.{grown_by, part}
use Rattle.timefd_lang_node_list.proofs.NodeLemmas.{fit_take, last_members, grown_at}
use Rattle.timefd_lang_node_list.proofs.leaves.last_node.Goals as goal

pub returns-clause-fit : goal.returns-clause-fit
returns-clause-fit c = fit_take [] c.args.nodes.now _ c.requires.fit

pub returns-clause-members : goal.returns-clause-members
returns-clause-members c =
    last_members c.args.nodes.now c.index-nodes-count.result (length c.args.nodes.now - 1)
    (length c.args.nodes.now - 1) c.requires.fit refl (omega (arith, c.requires.there))
    c.index-nodes-count.is

pub returns-clause-trees : goal.returns-clause-trees
returns-clause-trees c =
    let i = length c.args.nodes.now - 1 in
    sym (ap (λ ys. grown_by [] (map part ys)) (take_all (suc i) c.args.nodes.now (omega (arith, c.requires.there))))
    ∙ grown_at [] c.args.nodes.now i c.index-nodes-count.result (omega (arith, c.requires.there))
    c.index-nodes-count.is
