use Rattle.std.proofs.Common.{sym, ◌≡◌, None}
use Rattle.timefd_parse.proofs.CheckLemmas.{take_good, take_bad, take_after, no_fault}
use Rattle.timefd_parse.proofs.head.modifiers.Modifiers.take.Goals as goal

pub returns-then-is_some-clause-checks : goal.returns-then-is_some-clause-checks
returns-then-is_some-clause-checks c = λ total ps p checks is. take_after _ _ _ _ ps p checks
    (sym c.if-is_some.ensures)

pub returns-in-Ok-clause-checks : goal.returns-in-Ok-clause-checks
returns-in-Ok-clause-checks c = λ total ps p checks is.
    let none : c.args.self.now.fault ≡ None = no_fault _ (sym c.if-is_some.ensures) in
    take_good _ _ _ c.args.self.now c.args.modifier.key_remaining ps p _ _ _ _ checks none
    is.key_position (c.in-Ok.ensures.checks total ps p checks none is) c.set.ensures (λ exact. c.set-in-Ok.ensures)

pub returns-in-Err-clause-checks : goal.returns-in-Err-clause-checks
returns-in-Err-clause-checks c = λ total ps p checks is.
    let none : c.args.self.now.fault ≡ None = no_fault _ (sym c.if-is_some.ensures) in
    take_bad _ _ _ c.args.self.now ps p _ _ _ checks none
    (c.in-Err.ensures.checks total ps p checks none is)

pub returns-in-Err-clause-span : goal.returns-in-Err-clause-span
returns-in-Err-clause-span c = λ text stands old. c.in-Err.ensures.span text stands
