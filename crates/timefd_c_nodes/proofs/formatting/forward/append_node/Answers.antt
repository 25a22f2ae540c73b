use Rattle.std.proofs.Common.{◌+◌, ◌∙◌, Some, length, take, drop, nat_lt, sym, ap}
use Rattle.timefd_c_nodes.specs.Decoding.{component_of, format_of}
use Rattle.timefd_c_nodes.specs.Formatting.Parts.{kind_of, part_role, role}
use Rattle.timefd_c_nodes.proofs.FormattingLemmas.ForwardLemmas.{component_is}
use Rattle.timefd_c_nodes.proofs.formatting.forward.append_node.Goals as goal

pub append_component_of-requires-clause-component : goal.append_component_of-requires-clause-component
append_component_of-requires-clause-component c =
    let n = c.args.node.now in
    let l = c.args.literals.now in
    component_is (kind_of n.what) (nat_lt (length l) (n.start + n.count)) (take n.count (drop n.start l)) (component_of n)
    n.count (format_of n) c.in-Component.component
    (sym c.part_of.ensures ∙ ap part_role c.in_ok-component.was ∙ ap (λ p. Some (role p)) c.in-Component.is)
