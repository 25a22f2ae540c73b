use Rattle.timefd_lint_diagnosis.specs.Words.{texts}
use Rattle.timefd_lint_options.proofs.SuggestionLemmas.{option_named}
use Rattle.timefd_lint_options.proofs.suggestion.nearest_option.Goals as goal

pub returns-clause-option : goal.returns-clause-option
returns-clause-option c =
    option_named (texts c.long_names.result.now) c.args.word.now c.nearest.result
    c.long_names.ensures c.nearest.ensures
