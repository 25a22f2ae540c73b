use Rattle.std.proofs.Common.{sym, subst}
use Rattle.timefd_c.specs.Answers.{Judges}
use Rattle.timefd_c.proofs.VerdictLemmas.{judged}
use Rattle.timefd_c.proofs.exports.timefd_judge.Goals as goal

pub returns-clause-judges : goal.returns-clause-judges
returns-clause-judges c =
    let v = c.verdict_on.ensures in
    subst (λ l. Judges l c.args.text.now c.answer.result) c.from_number.ensures
    (subst (Judges c.from_number.result c.args.text.now) (sym c.answer.ensures)
    (judged _ _ c.verdict_on.result v.says v.spelled v.faulty v.no_text v.no_language v.empty
    v.memory))
