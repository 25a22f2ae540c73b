use Rattle.std.proofs.Common.{subst, sym}
use Rattle.timefd_lang_fault.specs.RuleKinds.{rule_kind}
use Rattle.timefd_lang_fault.specs.declared.rule.Rule.{Rule}
use Rattle.timefd_lint_diagnosis.specs.declared.help.Help.TheVariants.{Advice}
use Rattle.timefd_lint_diagnosis.specs.Helps as spec
use Rattle.timefd_lint_diagnosis.proofs.HelpLemmas.{for_key, for_value, no_slot}
use Rattle.timefd_lint_diagnosis.proofs.help.version_help.Goals as goal

pub returns-in-UnknownKey : goal.returns-in-UnknownKey
returns-in-UnknownKey c =
    for_key c.args.version c.args.text.now c.args.fault.start _ _ _ _ c.in-UnknownKey.is c.requires.slot
    c.words_help-in-UnknownKey.ensures

pub returns-in-UnknownValue : goal.returns-in-UnknownValue
returns-in-UnknownValue c =
    for_value c.args.version c.args.text.now c.args.fault.start _ _ _ _ c.in-UnknownValue.is c.requires.slot
    c.words_help-in-UnknownValue.ensures

pub returns-in-InvalidModifier : goal.returns-in-InvalidModifier
returns-in-InvalidModifier c =
    subst (λ (k : Rule). spec.IsVersionHelp c.args.version c.args.text.now c.args.fault.start
    (rule_kind k) (Advice c.advice.result))
    (sym c.in-InvalidModifier.is) (
      no_slot c.args.version c.args.text.now c.args.fault.start _ _ c.in-InvalidModifier.is c.requires.slot,
      c.advice.ensures,
    )
