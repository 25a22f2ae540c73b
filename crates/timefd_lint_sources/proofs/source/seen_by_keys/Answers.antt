use Rattle.std.proofs.Common.{rules}
use Rattle.timefd_lint_sources.proofs.SeenLemmas.{of_values}
use Rattle.timefd_lint_sources.proofs.source.seen_by_keys.Goals as goal

pub returns-clause-seen : goal.returns-clause-seen
returns-clause-seen c =
    of_values c.args.format c.args.source.now c.args.keys.now c.in_ok-descriptions.field-0.descriptions.items
    c.in_ok-descriptions.field-0.unread.items c.deref.result.now c.in_ok-remarks.remarks.items
    c.in_ok-descriptions.ensures.all (search rules) c.in_ok-remarks.ensures
