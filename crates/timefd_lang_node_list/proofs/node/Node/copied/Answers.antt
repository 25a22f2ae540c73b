use Rattle.std.proofs.Common.{◌≡◌, IfOk, subst}
use Rattle.timefd_lang_node_list.specs.Owners.{owns_text}
use Rattle.timefd_lang_node_list.proofs.OwnerLemmas.{owner_unless_borrowed}
use Rattle.timefd_lang_node_list.proofs.node.Node.copied.Goals as goal

pub returns-in_default : goal.returns-in_default
returns-in_default c = record {
  part = c.owned.ensures.part;
  owner = subst (λ own. IfOk c.owned.result (λ copy. owns_text copy ≡ own))
      (owner_unless_borrowed c.args.self.now c.in_default.not-Literal) c.owned.ensures.owner;
}
