use Rattle.std.specs.HashSet.{contains}
use Rattle.std.specs.Prelude.{nat_eq}
use Rattle.timefd_lint_scan.proofs.NamedCallLemmas.{one_more}
use Rattle.timefd_lint_scan.proofs.named_calls.named_calls.Goals as goal

pub loop-declared-preserved : goal.loop-declared-preserved
loop-declared-preserved c =
    one_more c.args.source.now c.args.pieces.now c.args.uses.list.now (contains nat_eq c.args.looked.now) c.loop-declared.declared
    (contains nat_eq c.loop-declared.named) (contains nat_eq c.note_named.new.named) c.loop-declared.invariant
    c.in_ok-note_named.ensures
