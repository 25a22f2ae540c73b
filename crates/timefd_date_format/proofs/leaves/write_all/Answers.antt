use Rattle.std.proofs.Common.{◌≡◌, ◌+◌, ◌-◌, map, drop, subst, arith}
use Rattle.timefd_lang_component.specs.Tree.{trees}
use Rattle.timefd_lang_node_list.specs.LeafMeaning.{leaf_tree}
use Rattle.timefd_date_format.specs.Writes.{Writes}
use Rattle.timefd_date_format.specs.Written.{written_all}
use Rattle.timefd_date_format.proofs.WalkLemmas.{one_more, writes_in}
use Rattle.timefd_date_format.proofs.leaves.write_all.Goals as goal

pub leaves-preserved : goal.leaves-preserved
leaves-preserved c =
    let l = c.leaves in
    let last : l.left ≡ l.left - 1 + 1 = omega (arith, c.leaves-test.true) in
    let m = c.args.moment in
    let rest = subst (λ n. Writes (written_all m (trees (map leaf_tree (drop n c.args.leaves.now))))
    c.args.buffer.now c.args.cursor l.buffer l.at) last l.invariant.2 in (
      omega (arith, l.invariant.0),
      writes_in _ l.buffer c.write_leaf-at.new.buffer l.at c.write_leaf-at.result l.invariant.1
          c.write_leaf-at.ensures.writes,
      one_more leaf_tree m c.args.leaves.now (l.left - 1) c.index-leaves-left.result
          (omega (arith, l.invariant.0, c.leaves-test.true)) c.index-leaves-left.is
          c.args.buffer.now l.buffer c.write_leaf-at.new.buffer c.args.cursor l.at c.write_leaf-at.result
          c.requires rest c.write_leaf-at.ensures.writes,
    )

pub returns : goal.returns
returns c =
    let none : c.leaves.left ≡ 0 = omega (arith, c.leaves-test.false) in
    subst (λ n. Writes (written_all c.args.moment (trees (map leaf_tree (drop n c.args.leaves.now))))
    c.args.buffer.now c.args.cursor c.leaves.buffer c.leaves.at) none c.leaves.invariant.2
