use Rattle.std.proofs.Common.{arith}
use Rattle.timefd_lang_node_list.specs.Item.Meaning.{item_tree, item_trees}
use Rattle.timefd_lint_explain.proofs.ExampleLemmas.{examples_more}
use Rattle.timefd_lint_explain.proofs.ShownLemmas.{each_string}
use Rattle.timefd_lint_explain.proofs.StandLemmas.{listed_at_first, listed_at_more, span_is}
use Rattle.timefd_lint_explain.proofs.WalkLemmas.{listed_first, listed_more}
use Rattle.timefd_lint_explain.proofs.members.push_items.Goals as goal

pub item_what-requires : goal.item_what-requires
item_what-requires c =
    each_string c.args.members.now c.loop-member.member-index c.member-item.result
    (omega (arith, c.loop-member-test.true)) c.member-item.is c.requires

pub loop-member-preserved : goal.loop-member-preserved
loop-member-preserved c = (
  λ e. examples_more c.loop-member.nodes.items c.push.new.self.items c.in_ok-node_of.field-0
      c.in_ok-push.ensures.items c.in_ok-node_of.ensures.node (c.loop-member.invariant.0 e),
  λ d is. listed_more d (item_trees c.args.members.now) c.args.members.now
      c.loop-member.member-index c.member-item.result c.in_ok-node_of.field-0
      c.args.nodes.now.items c.loop-member.nodes.items c.push.new.self.items
      (omega (arith, c.loop-member-test.true)) c.member-item.is c.in_ok-push.ensures.items
      (c.in_ok-node_of.ensures.piece d (item_tree c.member-item.result) is c.in_ok-what.ensures
      c.item_bytes-bytes.ensures) (c.loop-member.invariant.1 d is),
  listed_at_more c.args.start (item_trees c.args.members.now) c.args.members.now c.loop-member.member-index
      c.member-item.result c.in_ok-node_of.field-0 c.args.nodes.now.items c.loop-member.nodes.items
      c.push.new.self.items (omega (arith, c.loop-member-test.true)) c.member-item.is c.in_ok-push.ensures.items
      (span_is c.in_ok-node_of.field-0.start c.in_ok-node_of.field-0.end c.args.start c.args.start
      c.in_ok-node_of.ensures.start (omega (arith, c.in_ok-node_of.ensures.end))) c.loop-member.invariant.2,
)

pub loop-member-init : goal.loop-member-init
loop-member-init c = (
  λ e. e,
  λ d is. listed_first d c.args.members.now c.args.nodes.now.items,
  listed_at_first c.args.start c.args.members.now c.args.nodes.now.items,
)
