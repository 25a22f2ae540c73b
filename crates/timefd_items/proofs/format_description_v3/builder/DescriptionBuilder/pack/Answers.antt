use Rattle.std.proofs.Common.{ℕ, ◌≡◌, ◌∙◌, ◌++◌, ◌∷◌, [], ap, arith}
use Rattle.timefd_items.specs.Builder.{built}
use Rattle.timefd_lang_node_list.specs.Nodes.{before, ending}
use Rattle.timefd_lang_node_list.specs.NodeTrees.{list_trees}
use Rattle.timefd_lang_component.specs.Tree.{Tree, compound, trees}
use Rattle.timefd_items.proofs.BuilderLemmas.{few_nodes, largest-made, length-made}
use Rattle.timefd_lang_node_list.proofs.SumLemmas.{sum-packed}
use Rattle.timefd_items.proofs.format_description_v3.builder.DescriptionBuilder.pack.Goals as goal

pub overflow_add-self : goal.overflow_add-self
overflow_add-self c =
    omega (arith, c.args.self.now.counted, c.requires.there, few_nodes c.args.self.now.list)

pub invariant_of-self-2 : goal.invariant_of-self-2
invariant_of-self-2 c =
    let k : ℕ = c.args.count in
    let t : Tree = compound (trees (ending k (built c.args.self.now))) in
    let is : list_trees c.compound.new.self ≡ before k (built c.args.self.now) ++ t ∷ [] =
    c.compound.ensures.trees ∙ ap (λ ts. before k ts ++ compound (trees (ending k ts)) ∷ [])
    c.reserve.ensures.kept in
    record {
      counted = omega (
        arith,
        c.args.self.now.counted,
        c.requires.there,
        c.compound.ensures.node.nodes,
        c.reserve.ensures.nodes,
        length-made k (built c.args.self.now) (list_trees c.compound.new.self) t is,
      );
      each_fits = largest-made k (built c.args.self.now) (list_trees c.compound.new.self) t _ is
          c.args.self.now.each_fits (omega (arith, c.requires.fits));
      summed = sum-packed k (built c.args.self.now) (list_trees c.compound.new.self)
          c.args.self.now.known c.args.self.now.bytes is c.args.self.now.summed;
    }
