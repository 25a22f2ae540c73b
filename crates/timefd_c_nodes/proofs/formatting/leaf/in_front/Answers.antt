use Rattle.std.proofs.Common.{◌≡◌, ◌∙◌, ◌+◌, ◌-◌, ◌≤◌, length, ap, subst, arith}
use Rattle.timefd_lang_node_list.specs.Nodes.{arity, before}
use Rattle.timefd_c_nodes.specs.Formatting.Parts.{role}
use Rattle.timefd_c_nodes.specs.Formatting.Nodes.{node_trees}
use Rattle.timefd_c_nodes.proofs.FormattingLemmas.CutLemmas.{few, skipped_fits, skipped_one}
use Rattle.timefd_c_nodes.proofs.formatting.leaf.in_front.Goals as goal

pub overflow_add-left : goal.overflow_add-left
overflow_add-left c =
    let rest = node_trees c.args.literals.now c.last_node.result.0.now in
    let there = subst (λ ts. c.nodes.left ≤ length ts) c.last_node.ensures.trees c.nodes.invariant.1 in
    omega (
      arith,
      c.last_node.ensures.small,
      c.members.ensures,
      few c.args.literals.now c.last_node.result.0.now c.last_node.ensures.sound,
      skipped_fits rest (role c.last_node.result.1) c.nodes.left (omega (arith, c.nodes-test.true))
          c.last_node.ensures.members there,
    )

pub nodes-preserved : goal.nodes-preserved
nodes-preserved c =
    let rest = node_trees c.args.literals.now c.last_node.result.0.now in
    let r = role c.last_node.result.1 in
    let one : 1 ≤ c.nodes.left = omega (arith, c.nodes-test.true) in
    let there = subst (λ ts. c.nodes.left ≤ length ts) c.last_node.ensures.trees c.nodes.invariant.1 in
    let next : c.nodes.left - 1 + arity r ≡ c.nodes.left - 1 + c.members.result = omega (arith, c.members.ensures) in (
      c.last_node.ensures.sound,
      omega (arith, next, skipped_fits rest r c.nodes.left one c.last_node.ensures.members there),
      omega (arith, c.last_node.ensures.shorter, c.nodes.invariant.2),
      c.nodes.invariant.3 ∙ ap (before c.nodes.left) c.last_node.ensures.trees
          ∙ skipped_one rest r c.nodes.left one c.last_node.ensures.members there ∙ ap (λ k. before k rest) next,
    )
