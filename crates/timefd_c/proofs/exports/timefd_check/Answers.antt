use Rattle.std.proofs.Common.{subst}
use Rattle.timefd_c.specs.Answers.{Judges}
use Rattle.timefd_c.specs.declared.answer.TheConstants.{REFUSED}
use Rattle.timefd_c.proofs.VerdictLemmas.{refusal, refused_short}
use Rattle.timefd_c.proofs.exports.timefd_check.Goals as goal

pub write_sentence-excerpt-requires : goal.write_sentence-excerpt-requires
write_sentence-excerpt-requires c =
    refused_short _ _ c.verdict_on-verdict.result _ c.in-Refused.is
    c.verdict_on-verdict.ensures.says

pub returns-clause-judges : goal.returns-clause-judges
returns-clause-judges c =
    let v = c.in-Refused.ensures in
    let f = c.in-Refused.fault in
    let e = c.write_sentence-excerpt.result in
    subst (λ l. Judges l c.args.text.now
    (record { status = REFUSED; value = f.start; sentence_len = e.len; written = e.written }))
    c.from_number.ensures
    (refusal c.from_number.result c.args.text.now f e.len e.written v.says v.spelled v.faulty
    v.no_language v.empty)
