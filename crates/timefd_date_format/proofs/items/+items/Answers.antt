use Rattle.std.proofs.Common.{◌≡◌, ◌+◌, ◌-◌, map, drop, subst, arith}
use Rattle.timefd_lang_component.specs.Tree.{trees}
use Rattle.timefd_lang_node_list.specs.Item.Meaning.{item_tree}
use Rattle.timefd_date_format.specs.Writes.{Writes}
use Rattle.timefd_date_format.specs.Written.{written_all}
use Rattle.timefd_date_format.proofs.WalkLemmas.{one_more, writes_in}
use Rattle.timefd_date_format.proofs.items.+items.Goals as goal

pub write_all-items-preserved : goal.write_all-items-preserved
write_all-items-preserved t c =
    let l = c.items in
    let last : l.left ≡ l.left - 1 + 1 = omega (arith, c.items-test.true) in
    let m = c.args.moment in
    let rest = subst (λ n. Writes (written_all m (trees (map item_tree (drop n c.args.items.now))))
    c.args.buffer.now c.args.cursor l.buffer l.at) last l.invariant.2 in (
      omega (arith, l.invariant.0),
      writes_in _ l.buffer c.write-at.new.buffer l.at c.write-at.result l.invariant.1 c.write-at.ensures,
      one_more item_tree m c.args.items.now (l.left - 1) c.index-items-left.result
          (omega (arith, l.invariant.0, c.items-test.true)) c.index-items-left.is
          c.args.buffer.now l.buffer c.write-at.new.buffer c.args.cursor l.at c.write-at.result c.requires rest
          c.write-at.ensures,
    )

pub write_all-returns : goal.write_all-returns
write_all-returns t c =
    let none : c.items.left ≡ 0 = omega (arith, c.items-test.false) in
    subst (λ n. Writes (written_all c.args.moment (trees (map item_tree (drop n c.args.items.now))))
    c.args.buffer.now c.args.cursor c.items.buffer c.items.at) none c.items.invariant.2
