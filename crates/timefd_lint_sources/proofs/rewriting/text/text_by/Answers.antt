use Rattle.timefd_lint_sources.proofs.RewritingLemmas.AnswerLemmas.{is_refused}
use Rattle.timefd_lint_sources.proofs.rewriting.text.text_by.Goals as goal

pub around_items-requires-clause-refused : goal.around_items-requires-clause-refused
around_items-requires-clause-refused c =
    is_refused c.args.layout c.args.text.now c.in-Err-Invalid.field-0 c.in-Err-Invalid.field-0-0
    c.in-Err-Invalid.field-0-is c.in-Err-Invalid.ensures.fault
