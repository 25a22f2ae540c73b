use Rattle.std.proofs.Common.{[]}
use Rattle.timefd_language.proofs.DirectiveLemmas.DirectiveLemmas.{continues_first, fault_after, borrowed_strftime_fault, spanned_strftime_fault}
use Rattle.timefd_language.proofs.strftime.first.after_first_directive.Goals as goal

pub returns-in-Err-clause-fault : goal.returns-in-Err-clause-fault
returns-in-Err-clause-fault c =
    borrowed_strftime_fault c.args.s.now c.in-Err.fault c.of.result
    (fault_after _ _ [] _ (continues_first c.args.s.now) c.in-Err.ensures) c.of.ensures.fault

pub returns-in-Err-clause-span : goal.returns-in-Err-clause-span
returns-in-Err-clause-span c =
    spanned_strftime_fault c.args.s.now c.in-Err.fault c.of.result c.in-Err.ensures.4 c.of.ensures.borrowed
