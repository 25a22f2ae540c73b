use Rattle.timefd_lang_convert.specs.Conversions.{language_of}
use Rattle.timefd_language.specs.Grammar.{nesting_limit}
use Rattle.timefd_parse.proofs.AmountLemmas.{owned-assigned-in}
use Rattle.timefd_lint_rewrite.proofs.layout.convert_wholly.Goals as goal

pub returns-in-Err-clause-fault : goal.returns-in-Err-clause-fault
returns-in-Err-clause-fault c =
    owned-assigned-in (language_of c.args.conversion) nesting_limit c.args.text.now _ _
    c.in-Err.ensures.fault c.into_owned.ensures
