-- The kind of fault that a broken rule makes.
use Rattle.timefd_lang_fault.specs.Faults.{Kind, unclosed_bracket, invalid_name, invalid_modifier, missing_name, missing_modifier, expected, not_supported, duplicate_modifier, invalid_combination}
use Rattle.timefd_lang_fault.specs.Words.{expected_escape, expected_closing_escape, expected_white, expected_nested, expected_alternative, too_highly_nested, many_nested, optional_item, first_item, nested_here, unsupported_flag, unsupported_letter}
use Rattle.timefd_lang_fault.specs.Slots.{context_of}
use Rattle.timefd_lang_fault.specs.declared.rule.FaultKind.{FaultKind}
use Rattle.timefd_lang_fault.specs.declared.rule.FaultKind.TheVariants as kinds
use Rattle.timefd_lang_fault.specs.declared.rule.Rule.{Rule}
use Rattle.timefd_lang_fault.specs.declared.rule.Rule.TheVariants as rules

abbrev pub kind_of : FaultKind → Kind
kind_of kinds.UnclosedBracket = unclosed_bracket
kind_of (kinds.InvalidName name) = invalid_name name.now
kind_of (kinds.InvalidModifier value) = invalid_modifier value.now
kind_of kinds.MissingName = missing_name
kind_of (kinds.MissingModifier key) = missing_modifier key.now
kind_of (kinds.Expected what) = expected what.now
kind_of (kinds.NotSupported what context) = not_supported what.now context.now
kind_of (kinds.DuplicateModifier key) = duplicate_modifier key.now
kind_of (kinds.InvalidCombination key context) = invalid_combination key.now context.now

-- The kind of fault that a broken rule makes.
abbrev pub rule_kind : Rule → Kind
rule_kind rules.UnclosedBracket = unclosed_bracket
rule_kind (rules.UnknownName name) = invalid_name name.now
rule_kind (rules.UnknownLetter letter) = invalid_name letter.now
rule_kind (rules.InvalidModifier word) = invalid_modifier word.now
rule_kind (rules.UnknownKey word name) = invalid_modifier word.now
rule_kind (rules.UnknownValue word key) = invalid_modifier word.now
rule_kind rules.MissingName = missing_name
rule_kind (rules.MissingModifier key) = missing_modifier key.now
rule_kind rules.InvalidEscape = expected_escape
rule_kind rules.UnescapedBracket = expected_closing_escape
rule_kind rules.MissingSpace = expected_white
rule_kind rules.MissingDescription = expected_nested
rule_kind rules.MissingAlternative = expected_alternative
rule_kind rules.NestedTooDeep = too_highly_nested
rule_kind rules.SeveralDescriptions = many_nested
rule_kind rules.OptionalItem = optional_item
rule_kind rules.FirstItem = first_item
rule_kind rules.UnsupportedFlag = unsupported_flag
rule_kind rules.UnsupportedLetter = unsupported_letter
rule_kind rules.NestedInComponent = nested_here
rule_kind (rules.DuplicateModifier key) = duplicate_modifier key.now
rule_kind (rules.RefusedModifier key refuser) = invalid_combination key.now (context_of refuser)
