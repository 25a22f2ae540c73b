use Rattle.std.proofs.Common.{◌≡◌, ◌∙◌, ◌++◌, ◌∷◌, [], ap, arith, subst, sym}
use Rattle.timefd_items.specs.Builder.{built}
use Rattle.timefd_lang_component.specs.Modern.{modern}
use Rattle.timefd_lang_node_list.specs.NodeTrees.{list_trees}
use Rattle.timefd_lang_node_list.specs.Tallies.{IsSum}
use Rattle.timefd_lang_component.specs.Tree as spec
use Rattle.timefd_lang_component.specs.Tree.{Tree}
use Rattle.timefd_items.proofs.BuilderLemmas.{largest-one_more, length-one_more}
use Rattle.timefd_lang_node_list.proofs.SumLemmas.{sum-one_more}
use Rattle.timefd_items.proofs.format_description_v3.builder.DescriptionBuilder.component.Goals as goal

pub invariant_of-self-2 : goal.invariant_of-self-2
invariant_of-self-2 c =
    let t : Tree = spec.component (modern c.args.component) in
    let is : list_trees c.component-bytes.new.self ≡ built c.args.self.now ++ t ∷ [] =
    c.component-bytes.ensures.added.after ∙ ap (λ ts. ts ++ t ∷ []) c.reserve.ensures.kept in
    record {
      counted = omega (
        arith,
        c.args.self.now.counted,
        c.component-bytes.ensures.added.nodes,
        c.reserve.ensures.nodes,
        length-one_more (built c.args.self.now) (list_trees c.component-bytes.new.self) t is,
      );
      each_fits = largest-one_more (built c.args.self.now) (list_trees c.component-bytes.new.self) t
          _ is c.args.self.now.each_fits (omega (arith, c.component-bytes.ensures.bytes));
      summed = subst (λ s. IsSum (list_trees c.component-bytes.new.self) c.args.self.now.known s)
          (sym c.saturating_add-self.ensures)
          (sum-one_more (built c.args.self.now) (list_trees c.component-bytes.new.self) t
          c.args.self.now.known c.args.self.now.bytes _ is c.component-bytes.ensures.bytes
          c.args.self.now.summed);
    }
