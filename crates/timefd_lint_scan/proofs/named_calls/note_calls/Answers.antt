use Rattle.std.proofs.Common.{◌+◌, ◌<◌, arith, length}
use Rattle.std.specs.HashSet.{contains}
use Rattle.std.specs.Prelude.{nat_eq}
use Rattle.timefd_lint_scan.specs.NamedCalls.{AddsCalls}
use Rattle.timefd_lint_scan.proofs.NamedCallLemmas.{joined, none_added, one_added}
use Rattle.timefd_lint_scan.proofs.named_calls.note_calls.Goals as goal

pub uses-preserved : goal.uses-preserved
uses-preserved c =
    let below : c.uses.index < length c.args.uses.list.now = omega (arith, c.uses-test.true, c.uses.invariant.within) in
    let one : AddsCalls c.args.source.now c.args.pieces.now c.args.uses.list.now c.args.declared c.args.known c.uses.index
    (c.uses.index + 1) (contains nat_eq c.uses.named) (contains nat_eq c.note.new.taken) =
    one_added c.args.source.now c.args.pieces.now c.args.uses.list.now c.args.declared c.args.known c.uses.index _
    c.is_used_within-is_used.result c.call_of.result (contains nat_eq c.uses.named) (contains nat_eq c.note.new.taken) below
    c.is_used_within-is_used.ensures c.call_of.ensures.so c.call_of.ensures.all c.in_ok-note.ensures in
    let others : AddsCalls c.args.source.now c.args.pieces.now c.args.uses.list.now c.args.declared c.args.known (c.uses.index + 1)
    c.next_use-index.result (contains nat_eq c.note.new.taken) (contains nat_eq c.note.new.taken) =
    none_added c.args.source.now c.args.pieces.now c.args.uses.list.now c.args.declared c.args.known (c.uses.index + 1)
    c.next_use-index.result (contains nat_eq c.note.new.taken) c.next_use-index.ensures.unused in
    record {
      within = c.uses.invariant.within;
      sure = c.farther-reach.ensures;
      added = joined c.args.source.now c.args.pieces.now c.args.uses.list.now c.args.declared c.args.known 0 c.uses.index
          c.next_use-index.result (contains nat_eq c.args.named.now) (contains nat_eq c.uses.named) (contains nat_eq c.note.new.taken)
          (omega arith) (omega (arith, c.next_use-index.ensures.further)) c.uses.invariant.added
          (joined c.args.source.now c.args.pieces.now c.args.uses.list.now c.args.declared c.args.known c.uses.index
          (c.uses.index + 1) c.next_use-index.result (contains nat_eq c.uses.named) (contains nat_eq c.note.new.taken)
          (contains nat_eq c.note.new.taken) (omega arith) (omega (arith, c.next_use-index.ensures.further)) one others);
    }
