use Rattle.timefd_lint.proofs.UnusableLemmas.{of_fault}
use Rattle.timefd_lint.proofs.config.config_of_text.Goals as goal

pub returns-in-Err-clause-error : goal.returns-in-Err-clause-error
returns-in-Err-clause-error c =
    of_fault c.args.file.now c.args.text.now c.in-Err.error c.fault_sentence.result c.reported.result
    c.reported.ensures c.in-Err.ensures.error c.fault_sentence.ensures
