use Rattle.timefd_test_uses.proofs.UpgradeLemmas.{no_fault}
use Rattle.timefd_test_uses.proofs.upgrade.upgrade.Goals as goal

pub unreachable-requires-in-Err-Invalid : goal.unreachable-requires-in-Err-Invalid
unreachable-requires-in-Err-Invalid c =
    no_fault _ _ _ _ _ c.deref.ensures c.in-Ok.ensures.rewritten c.in-Ok.ensures.same_items
    c.in-Err-Invalid.ensures.spelled c.in-Err-Invalid.field-0-is

-- The stored text was rewritten, so it has no fault.
pub returns-in-Err-Memory-clause-refused : goal.returns-in-Err-Memory-clause-refused
returns-in-Err-Memory-clause-refused c f fault = absurd (c.in-Ok.ensures.refused f fault)
