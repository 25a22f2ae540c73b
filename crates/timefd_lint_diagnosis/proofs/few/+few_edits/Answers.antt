use Rattle.std.proofs.Common.{chars}
use Rattle.timefd_lint_diagnosis.proofs.FewLemmas.{few_from_none, few_front, few_to_none}
use Rattle.timefd_lint_diagnosis.proofs.few.+few_edits.Goals as goal

pub returns-in_default : goal.returns-in_default
returns-in_default t c =
    few_from_none (chars c.args.word.now) (chars c.args.other.now) c.at_most_two.result
    c.in_default.ensures c.at_most_two.ensures

pub returns-in_default-first_of : goal.returns-in_default-first_of
returns-in_default-first_of t c =
    few_to_none (chars c.args.word.now) (chars c.args.other.now)
    c.at_most_two-in_default-first_of.result c.in_default-first_of.ensures
    c.at_most_two-in_default-first_of.ensures

pub returns-then-left-right : goal.returns-then-left-right
returns-then-left-right t c =
    few_front (chars c.args.word.now) (chars c.args.other.now) _ _ _ _ c.few_edits.result
    c.in-Some.ensures.0 c.in-Some-first_of.ensures.0 c.if-left-right.true c.few_edits.ensures
