use Rattle.std.proofs.Common.{◌≤◌, ◌*◌, length, refl, sym, subst}
use Rattle.timefd_language.specs.Grammar.{items}
use Rattle.timefd_lift.proofs.Answering.{writes-rewritten, is-rewritten, has-items}
use Rattle.timefd_lift.proofs.Lengths.{outside-length}
use Rattle.timefd_lift.proofs.from_one.v1_to_v2_borrowed.Goals as goal

pub returns-in-Ok-escaped-clause-rewritten : goal.returns-in-Ok-escaped-clause-rewritten
returns-in-Ok-escaped-clause-rewritten c =
    is-rewritten c.args.s.now _ c.in-Ok.ensures.found.0 c.in-Ok-escaped.ensures.written
    c.in-Ok.ensures.found.1

pub returns-in-Ok-escaped-clause-same_items : goal.returns-in-Ok-escaped-clause-same_items
returns-in-Ok-escaped-clause-same_items c =
    has-items c.lifting.ensures c.args.s.now _ c.in-Ok-escaped.ensures.written

pub returns-in-Ok-escaped-clause-spelled : goal.returns-in-Ok-escaped-clause-spelled
returns-in-Ok-escaped-clause-spelled c = λ ps spelled.
    writes-rewritten c.args.s.now _ ps c.in-Ok-escaped.ensures.written spelled

pub returns-in-Err-clause-spelled : goal.returns-in-Err-clause-spelled
returns-in-Err-clause-spelled c = λ ps spelled. c.in-Err.ensures.spelled (items ps)
    (ps, spelled.0, spelled.1, refl)

pub returns-in-Ok-escaped-clause-within : goal.returns-in-Ok-escaped-clause-within
returns-in-Ok-escaped-clause-within c =
    subst (λ answer. length answer ≤ 2 * length c.args.s.now) (sym c.in-Ok-escaped.ensures.written)
    (outside-length c.args.s.now)
