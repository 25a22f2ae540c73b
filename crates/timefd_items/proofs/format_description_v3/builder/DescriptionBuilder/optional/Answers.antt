use Rattle.std.proofs.Common.{◌≡◌, ◌∙◌, ◌++◌, ◌∷◌, [], ap, arith}
use Rattle.timefd_items.specs.Builder.{built}
use Rattle.timefd_lang_node_list.specs.Nodes.{before, ending}
use Rattle.timefd_lang_node_list.specs.NodeTrees.{list_trees}
use Rattle.timefd_lang_component.specs.Tree.{Tree, optional, pack}
use Rattle.timefd_items.proofs.BuilderLemmas.{few_nodes, largest-made, length-made, optional-ending}
use Rattle.timefd_lang_node_list.proofs.SumLemmas.{sum-optional}
use Rattle.timefd_items.proofs.format_description_v3.builder.DescriptionBuilder.optional.Goals as goal

pub overflow_add-self : goal.overflow_add-self
overflow_add-self c =
    omega (arith, c.args.self.now.counted, c.requires, few_nodes c.args.self.now.list)

pub invariant_of-self-2 : goal.invariant_of-self-2
invariant_of-self-2 c =
    let t : Tree = optional c.args.format (pack (ending 1 (built c.args.self.now))) in
    let is : list_trees c.optional.new.self ≡ before 1 (built c.args.self.now) ++ t ∷ [] =
    c.optional.ensures.trees ∙ ap
    (λ ts. before 1 ts ++ optional c.args.format (pack (ending 1 ts)) ∷ [])
    c.reserve.ensures.kept in
    record {
      counted = omega (
        arith,
        c.args.self.now.counted,
        c.requires,
        c.optional.ensures.node.nodes,
        c.reserve.ensures.nodes,
        length-made 1 (built c.args.self.now) (list_trees c.optional.new.self) t is,
      );
      each_fits = largest-made 1 (built c.args.self.now) (list_trees c.optional.new.self) t _ is
          c.args.self.now.each_fits
          (optional-ending c.args.format (built c.args.self.now) _ c.requires
          c.args.self.now.each_fits);
      summed = sum-optional c.args.self.now.known c.args.format (built c.args.self.now)
          (list_trees c.optional.new.self) c.args.self.now.bytes c.requires is
          c.args.self.now.summed;
    }
