use Rattle.std.proofs.Common.{codes, ap, ◌∙◌}
use Rattle.timefd_lint_diagnosis.specs.Words.{texts}
use Rattle.timefd_lint.specs.NoCodes.{all_codes}
use Rattle.timefd_lint.proofs.NoneOfLemmas.{of_words}
use Rattle.timefd_lint.proofs.no_code.no_code_sentence.Goals as goal

pub returns : goal.returns
returns c =
    of_words c.none_of.result (codes "there is no error or warning") c.args.name.now (texts c.deref.result.now)
    all_codes (ap texts c.deref.ensures.value ∙ c.in_ok-all.ensures) c.none_of.ensures
