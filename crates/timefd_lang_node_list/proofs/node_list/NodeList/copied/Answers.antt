use Rattle.std.proofs.Common.{◌∙◌, ap, arith, map}
use Rattle.std.proofs.lemmas.List.{take_all}
use Rattle.timefd_lang_node_list.specs.Owners.{owns_text}
use Rattle.timefd_lang_node_list.proofs.OwnerLemmas.{flag_copied}
use Rattle.timefd_lang_node_list.proofs.node_list.NodeList.copied.Goals as goal

pub invariant_of-result-clause-flag : goal.invariant_of-result-clause-flag
invariant_of-result-clause-flag c = flag_copied c.args.self.now.owns c.args.self.now.nodes.items
    c.nodes.copies.items
    (c.nodes.invariant.owners ∙ ap (λ ns. map owns_text ns) (take_all c.nodes.at c.args.self.now.nodes.items
    (omega (arith, c.nodes-test.false, c.len.ensures, c.len-at-end.ensures, c.args.self.now.nodes.ok.0))))
    c.args.self.now.flag
