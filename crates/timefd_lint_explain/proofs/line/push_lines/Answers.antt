use Rattle.std.proofs.Common.{◌≡◌, ◌∙◌, ◌+◌, ◌∷◌, add-one, ap, drop, drop-cons, get_or, string_bytes, sym}
use Rattle.std.proofs.lemmas.List.{drop_all}
use Rattle.timefd_lint_explain.specs.declared.node.ShownNode.{ShownNode}
use Rattle.timefd_lint_explain.proofs.LineLemmas.{all_shown, one_more}
use Rattle.timefd_lint_explain.proofs.line.push_lines.Goals as goal

pub loop-node-preserved : goal.loop-node-preserved
loop-node-preserved c =
    let nodes = c.args.nodes.now in
    let at = c.loop-node.node-index in
    let node = c.node-item.result in
    let more = c.in_ok-push_line.ensures in
    let first : drop at nodes ≡ get_or nodes at node ∷ drop (at + 1) nodes =
    rw add-one (drop-cons nodes at node c.loop-node-test.true) in
    one_more c.args.text.now nodes (drop at nodes) (drop (at + 1) nodes) node
    (string_bytes c.args.out.now) (string_bytes c.loop-node.out) (string_bytes c.push_line.new.out) more.0
    c.loop-node.invariant (first ∙ ap (λ (n : ShownNode). n ∷ drop (at + 1) nodes) (sym c.node-item.is)) more.1
    more.2

pub returns : goal.returns
returns c =
    let nodes = c.args.nodes.now in
    let at = c.loop-node.node-index in
    all_shown c.args.text.now nodes (drop at nodes) (string_bytes c.args.out.now)
    (string_bytes c.loop-node.out) c.loop-node.invariant (drop_all at nodes c.loop-node-test.false)
