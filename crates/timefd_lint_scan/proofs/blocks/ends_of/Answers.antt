use Rattle.std.proofs.Common.{◌∙◌, ◌+◌, ◌-◌, ◌≡◌, arith}
use Rattle.timefd_lint_scan.proofs.BlockLemmas.{end_more, one_back}
use Rattle.timefd_lint_scan.proofs.blocks.ends_of.Goals as goal

pub tokens-preserved-then-declared-count : goal.tokens-preserved-then-declared-count
tokens-preserved-then-declared-count c =
    let next : c.tokens.left - 1 + 1 ≡ c.tokens.left = omega arith in
    let closed = one_back c.args.source.now c.args.pieces.now (c.tokens.left - 1) c.tokens.left _ _ c.tokens.closings.items
    c.pass_back.new.closings.items next (omega arith) c.index-pieces-left.is c.tokens.invariant.closed c.in_ok-pass_back.ensures in
    record {
      within = omega arith;
      counted = omega arith;
      closed = closed;
      ends = end_more c.args.source.now c.args.pieces.now (c.tokens.left - 1) _ c.deref.result.now c.tokens.ends.items
          c.push.new.self.items c.if-declared-count.true (c.deref.ensures.value ∙ closed) c.last_or.ensures c.in_ok-push.ensures.items
          c.tokens.invariant.ends;
    }
