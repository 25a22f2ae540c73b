-- What belongs where a fault is, and what refuses a key.
use Rattle.std.specs.Prelude.{codes, Option, Some, None}
use Rattle.timefd_lang_fault.specs.Faults.{Text}
use Rattle.timefd_lang_fault.specs.declared.refuser.Refuser.{Refuser}
use Rattle.timefd_lang_fault.specs.declared.refuser.Refuser.TheVariants as refusers
use Rattle.timefd_lang_fault.specs.declared.rule.Rule.{Rule}
use Rattle.timefd_lang_fault.specs.declared.rule.Rule.TheVariants as rules
use Rattle.timefd_lang_fault.specs.declared.rule.Slot.{Slot}
use Rattle.timefd_lang_fault.specs.declared.rule.Slot.TheVariants as slots

-- with what a key isn't valid
abbrev pub context_of : Refuser → Text
context_of refusers.NumericalMonth = codes "for numerical month"
context_of refusers.LongMonth = codes "for long month"
context_of refusers.ShortMonth = codes "for short month"
context_of refusers.ShortWeekday = codes "for short weekday"
context_of refusers.LongWeekday = codes "for long weekday"
context_of refusers.NumericalWeekday = codes "for numerical weekday"
context_of refusers.LastTwo = codes "when `repr:last_two` is used"

-- what should have been there, as the rule says that is broken
abbrev pub wanted_by : Rule → Option Slot
wanted_by (rules.UnknownName name) = Some slots.Name
wanted_by (rules.UnknownKey word name) = Some (slots.Key name)
wanted_by (rules.UnknownValue word key) = Some (slots.Value key)
wanted_by (rules.UnknownLetter letter) = None
wanted_by (rules.InvalidModifier word) = None
wanted_by rules.UnclosedBracket = None
wanted_by rules.MissingName = None
wanted_by (rules.MissingModifier key) = None
wanted_by rules.InvalidEscape = None
wanted_by rules.UnescapedBracket = None
wanted_by rules.MissingSpace = None
wanted_by rules.MissingDescription = None
wanted_by rules.MissingAlternative = None
wanted_by rules.NestedTooDeep = None
wanted_by rules.SeveralDescriptions = None
wanted_by rules.OptionalItem = None
wanted_by rules.FirstItem = None
wanted_by rules.UnsupportedFlag = None
wanted_by rules.UnsupportedLetter = None
wanted_by rules.NestedInComponent = None
wanted_by (rules.DuplicateModifier key) = None
wanted_by (rules.RefusedModifier key refuser) = None
