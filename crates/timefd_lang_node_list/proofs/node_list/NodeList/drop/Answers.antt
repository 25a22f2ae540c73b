use Rattle.std.proofs.Common.{◌∙◌, ◌++◌, ap, subst}
use Rattle.std.specs.Bool.{IsFalse}
use Rattle.std.specs.List.{list_any}
use Rattle.std.specs.Option.{option_to_list}
use Rattle.timefd_lang_node_list.specs.Owners.{owns_text}
use Rattle.timefd_lang_node_list.proofs.OwnerLemmas.{borrowed_last}
use Rattle.timefd_lang_node_list.proofs.node_list.NodeList.drop.Goals as goal

pub forget_borrowed-requires : goal.forget_borrowed-requires
forget_borrowed-requires c =
    borrowed_last c.pop.new.self.items c.in-Some.node
    (subst (λ ns. IsFalse (list_any owns_text ns)) (c.pop.ensures.items
    ∙ ap (λ o. c.pop.new.self.items ++ option_to_list o) c.in-Some.is) c.borrowed.invariant)
