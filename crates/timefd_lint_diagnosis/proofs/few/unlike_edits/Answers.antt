use Rattle.std.proofs.Common.{chars}
use Rattle.timefd_lint_diagnosis.proofs.FewLemmas.{is_not, one_put, one_swap, one_taken, one_turned, two_apart}
use Rattle.timefd_lint_diagnosis.proofs.few.unlike_edits.Goals as goal

pub returns-then-is_same : goal.returns-then-is_same
returns-then-is_same c =
    one_turned (chars c.args.word.now) (chars c.args.other.now) _ _ _ _ c.requires.word c.requires.other
    c.requires.unlike (c.is_same.ensures.yes c.if-is_same.true)

pub returns-then-is_same-2 : goal.returns-then-is_same-2
returns-then-is_same-2 c =
    one_put (chars c.args.word.now) (chars c.args.other.now) _ _ _ _ c.requires.word c.requires.other
    c.requires.unlike (c.is_same-2.ensures.yes c.if-is_same-2.true)

pub returns-then-is_same-3 : goal.returns-then-is_same-3
returns-then-is_same-3 c =
    one_taken (chars c.args.word.now) (chars c.args.other.now) _ _ _ _ c.requires.word c.requires.other
    c.requires.unlike (c.is_same-3.ensures.yes c.if-is_same-3.true)

pub returns-then-is_swap : goal.returns-then-is_swap
returns-then-is_swap c =
    one_swap (chars c.args.word.now) (chars c.args.other.now) _ _ _ _ c.requires.word c.requires.other
    c.requires.unlike (c.is_swap.ensures.yes c.if-is_swap.true)

pub returns : goal.returns
returns c =
    two_apart (chars c.args.word.now) (chars c.args.other.now) _ _ _ _ c.requires.word c.requires.other
    c.requires.unlike (is_not c.is_same.result c.if-is_same.false c.is_same.ensures.no)
    (is_not c.is_same-2.result c.if-is_same-2.false c.is_same-2.ensures.no)
    (is_not c.is_same-3.result c.if-is_same-3.false c.is_same-3.ensures.no)
    (is_not c.is_swap.result c.if-is_swap.false c.is_swap.ensures.no)
