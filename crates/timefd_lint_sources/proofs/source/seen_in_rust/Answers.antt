use Rattle.std.proofs.Common.{rules}
use Rattle.timefd_lint_sources.proofs.SeenLemmas.{of_look}
use Rattle.timefd_lint_sources.proofs.source.seen_in_rust.Goals as goal

pub returns : goal.returns
returns c =
    of_look c.args.source.now c.args.own.now c.in_ok-descriptions.field-0 c.deref.result.now c.deref-2.result.now
    c.in_ok-remarks.remarks.items c.in_ok-descriptions.ensures (search rules) (search rules)
    c.in_ok-remarks.ensures
