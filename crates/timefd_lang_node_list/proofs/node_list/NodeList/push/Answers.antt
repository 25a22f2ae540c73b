use Rattle.std.proofs.Common.{◌∙◌, [], map, sym, ap, subst}
use Rattle.timefd_lang_node_list.specs.Nodes.{Fit, grown_by, part}
use Rattle.timefd_lang_node_list.specs.Owners.{IsFlag}
use Rattle.timefd_lang_node_list.proofs.NodeLemmas.{fit_node_more, grown_one_more}
use Rattle.timefd_lang_node_list.proofs.OwnerLemmas.{flag_more}
use Rattle.timefd_lang_node_list.proofs.node_list.NodeList.push.Goals as goal

pub invariant_of-self : goal.invariant_of-self
invariant_of-self c = record {
  fit = subst (λ xs. Fit [] (map part xs)) (sym c.push_reserved.ensures.items)
      (fit_node_more c.args.self.now.nodes.items c.args.node c.args.self.now.fit c.requires.fits);
  flag = subst (λ xs. IsFlag c.args.self.now.owns xs) (sym c.push_reserved.ensures.items)
      (flag_more c.args.self.now.owns c.args.self.now.nodes.items c.args.node
      c.args.self.now.flag c.requires.flag);
}

pub returns-clause-trees : goal.returns-clause-trees
returns-clause-trees c =
    ap (λ xs. grown_by [] (map part xs)) c.push_reserved.ensures.items ∙
    grown_one_more c.args.self.now.nodes.items c.args.node
