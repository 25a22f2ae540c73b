use Rattle.timefd_lint_options.specs.declared.config.error.ConfigError.TheVariants as errors
use Rattle.timefd_lint.proofs.UnusableLemmas.{of_key, of_no_language, of_no_level}
use Rattle.timefd_lint.proofs.unusable.fault_sentence.Goals as goal

pub returns-in-NoLevel : goal.returns-in-NoLevel
returns-in-NoLevel c =
    of_no_level c.args.file.now c.args.text.now c.name.result.now c.in-NoLevel.warning c.args.error
    c.about-in-NoLevel.result c.in-NoLevel.is c.name.ensures c.about-in-NoLevel.ensures

pub returns-in-UnknownLanguage : goal.returns-in-UnknownLanguage
returns-in-UnknownLanguage c =
    of_no_language c.args.file.now c.args.text.now c.deref-in-UnknownLanguage.result.now c.in-UnknownLanguage.name
    c.args.error c.about-in-UnknownLanguage.result c.in-UnknownLanguage.is c.deref-in-UnknownLanguage.ensures
    c.about-in-UnknownLanguage.ensures

pub returns-in-NotACall : goal.returns-in-NotACall
returns-in-NotACall c =
    of_key c.args.file.now c.args.text.now c.deref-in-NotACall.result.now _ errors.NotACall c.in-NotACall.key
    c.args.error c.about-in-NotACall.result c.in-NotACall.is c.deref-in-NotACall.ensures
    (λ sentence same. same) c.about-in-NotACall.ensures

pub returns-in-NoArgument : goal.returns-in-NoArgument
returns-in-NoArgument c =
    of_key c.args.file.now c.args.text.now c.deref-in-NoArgument.result.now _ errors.NoArgument c.in-NoArgument.key
    c.args.error c.about-in-NoArgument.result c.in-NoArgument.is c.deref-in-NoArgument.ensures
    (λ sentence same. same) c.about-in-NoArgument.ensures

pub returns-in-UnknownCallLanguage : goal.returns-in-UnknownCallLanguage
returns-in-UnknownCallLanguage c =
    of_key c.args.file.now c.args.text.now c.deref-in-UnknownCallLanguage.result.now _ errors.UnknownCallLanguage c.in-UnknownCallLanguage.key
    c.args.error c.about-in-UnknownCallLanguage.result c.in-UnknownCallLanguage.is c.deref-in-UnknownCallLanguage.ensures
    (λ sentence same. same) c.about-in-UnknownCallLanguage.ensures

pub returns-in-NoNumber : goal.returns-in-NoNumber
returns-in-NoNumber c =
    of_key c.args.file.now c.args.text.now c.deref-in-NoNumber.result.now _ errors.NoNumber c.in-NoNumber.key
    c.args.error c.about-in-NoNumber.result c.in-NoNumber.is c.deref-in-NoNumber.ensures
    (λ sentence same. same) c.about-in-NoNumber.ensures
