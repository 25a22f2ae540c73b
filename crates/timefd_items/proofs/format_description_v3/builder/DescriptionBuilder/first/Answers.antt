use Rattle.std.proofs.Common.{ℕ, ◌≡◌, ◌∙◌, ◌++◌, ◌∷◌, [], ap, arith, rules}
use Rattle.timefd_items.specs.Builder.{built}
use Rattle.timefd_lang_node_list.specs.Nodes.{before, ending}
use Rattle.timefd_lang_node_list.specs.NodeTrees.{list_trees}
use Rattle.timefd_lang_component.specs.Tree.{Tree, first, trees}
use Rattle.timefd_items.proofs.BuilderLemmas.{few_nodes, largest-made, length-made, first-ending}
use Rattle.timefd_items.proofs.format_description_v3.builder.DescriptionBuilder.first.Goals as goal

pub overflow_add-self : goal.overflow_add-self
overflow_add-self c =
    omega (arith, c.args.self.now.counted, c.requires, few_nodes c.args.self.now.list)

pub invariant_of-self-2 : goal.invariant_of-self-2
invariant_of-self-2 c =
    let k : ℕ = c.args.count in
    let t : Tree = first (trees (ending k (built c.args.self.now))) in
    let is : list_trees c.first.new.self ≡ before k (built c.args.self.now) ++ t ∷ [] =
    c.first.ensures.trees ∙ ap (λ ts. before k ts ++ first (trees (ending k ts)) ∷ [])
    c.reserve.ensures.kept in
    record {
      counted = omega (
        arith,
        c.args.self.now.counted,
        c.requires,
        c.first.ensures.node.nodes,
        c.reserve.ensures.nodes,
        length-made k (built c.args.self.now) (list_trees c.first.new.self) t is,
      );
      each_fits = largest-made k (built c.args.self.now) (list_trees c.first.new.self) t _ is
          c.args.self.now.each_fits
          (first-ending k (built c.args.self.now) _ c.args.self.now.each_fits);
      summed = λ k. absurd (search (rules, k));
    }
