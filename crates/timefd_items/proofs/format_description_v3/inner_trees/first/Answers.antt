use Rattle.std.proofs.Common.{◌∙◌, ap, arith}
use Rattle.timefd_items.proofs.InnerLemmas.{before_taken, ending_taken}
use Rattle.timefd_items.proofs.format_description_v3.inner_trees.first.Goals as goal
use Rattle.timefd_lang_component.specs.Tree.{first, trees}

pub returns-clause-tree : goal.returns-clause-tree
returns-clause-tree c =
    c.first_of.ensures ∙ ap (λ ts. first (trees ts))
    (ending_taken c.args.count c.len.result c.args.trees.now.items _
    (omega (arith, c.len.ensures)) c.in_ok-items.ensures.tail)

pub returns-clause-taken : goal.returns-clause-taken
returns-clause-taken c = before_taken c.args.count c.len.result c.args.trees.now.items _
    (omega (arith, c.len.ensures)) c.in_ok-items.ensures.items
