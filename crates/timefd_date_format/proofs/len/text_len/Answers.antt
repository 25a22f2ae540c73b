use Rattle.std.proofs.Common.{◌≡◌, map, drop, subst, arith}
use Rattle.timefd_lang_component.specs.Tree.{trees}
use Rattle.timefd_lang_node_list.specs.LeafMeaning.{leaf_tree}
use Rattle.timefd_date_format.specs.Written.{written_all}
use Rattle.timefd_date_format.specs.Fronts.{IsLen}
use Rattle.timefd_date_format.proofs.len.text_len.Goals as goal

pub returns : goal.returns
returns c =
    let none : c.leaves.left ≡ 0 = omega (arith, c.leaves-test.false) in
    subst (λ n. IsLen (written_all c.args.moment.now (trees (map leaf_tree (drop n c.args.leaves.now)))) c.leaves.len)
    none c.leaves.invariant.1
