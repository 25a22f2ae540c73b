use Rattle.std.proofs.Common.{◌≡◌, ◌∙◌, ◌++◌, ◌∷◌, [], ap, arith, refl, subst, sym}
use Rattle.timefd_items.specs.Builder.{built}
use Rattle.timefd_lang_node_list.specs.NodeTrees.{list_trees}
use Rattle.timefd_lang_node_list.specs.Tallies.{IsSum}
use Rattle.timefd_lang_component.specs.Tree.{literal}
use Rattle.timefd_items.proofs.BuilderLemmas.{largest-one_more, length-one_more}
use Rattle.timefd_lang_node_list.proofs.SumLemmas.{sum-one_more}
use Rattle.timefd_items.proofs.format_description_v3.builder.DescriptionBuilder.literal.Goals as goal

pub invariant_of-self-2 : goal.invariant_of-self-2
invariant_of-self-2 c =
    let is : list_trees c.literal.new.self ≡ built c.args.self.now ++ literal c.args.text.now ∷ [] =
    c.literal.ensures.after ∙ ap (λ ts. ts ++ literal c.args.text.now ∷ [])
    c.reserve.ensures.kept in
    record {
      counted = omega (
        arith,
        c.args.self.now.counted,
        c.literal.ensures.nodes,
        c.reserve.ensures.nodes,
        length-one_more (built c.args.self.now) (list_trees c.literal.new.self)
            (literal c.args.text.now) is,
      );
      each_fits = largest-one_more (built c.args.self.now) (list_trees c.literal.new.self)
          (literal c.args.text.now) _ is c.args.self.now.each_fits (omega arith);
      summed = subst (λ s. IsSum (list_trees c.literal.new.self) c.args.self.now.known s)
          (sym c.saturating_add-self.ensures)
          (sum-one_more (built c.args.self.now) (list_trees c.literal.new.self)
          (literal c.args.text.now) c.args.self.now.known c.args.self.now.bytes _ is refl
          c.args.self.now.summed);
    }
