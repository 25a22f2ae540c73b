use Rattle.std.proofs.Common.{◌≡◌, ◌∙◌, Some, sym, ap}
use Rattle.timefd_lang_component.specs.Tree.{literal}
use Rattle.timefd_lang_node_list.specs.declared.leaves.Leaf.{Leaf}
use Rattle.timefd_lang_node_list.specs.declared.leaves.Leaf.TheVariants as leaf
use Rattle.timefd_c_nodes.specs.Formatting.Parts.{role}
use Rattle.timefd_c_nodes.proofs.FormattingLemmas.FlatLemmas.{takes_text, text_leaf}
use Rattle.timefd_c_nodes.proofs.formatting.flat.take_node.Goals as goal

pub returns-in_ok-text-in-Literal : goal.returns-in_ok-text-in-Literal
returns-in_ok-text-in-Literal c =
    let found : Leaf = leaf.Literal c.in_ok-text-in-Literal.text in
    takes_text c.args.literals.now c.args.node.now c.args.parts c.args.leaves.now.items _ found c.add_leaf.result
    (text_leaf c.args.literals.now c.args.node.now c.in-Literal.bytes.now found
    (sym (ap (λ p. Some (role p)) c.in-Literal.is) ∙ c.in_ok-bytes.ensures)
    c.in_ok-text-in-Literal.ensures.utf8
    (ap literal (sym c.in_ok-text-in-Literal.ensures.same)))
    c.add_leaf.ensures.one c.add_leaf.ensures.added
