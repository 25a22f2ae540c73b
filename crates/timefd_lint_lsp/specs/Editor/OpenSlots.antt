-- What a word is at the end of a text.
use Rattle.std.specs.Prelude.{◌≡◌, Bool, true, false, Option, Some, None, codes}
use Rattle.timefd_parse.specs.Tree.{Text}
use Rattle.timefd_lang_fault.specs.declared.rule.Slot.{Slot}
use Rattle.timefd_lang_fault.specs.declared.rule.Slot.TheVariants as slots
use Rattle.timefd_language.specs.Slots.{IsSlotAfter}
use Rattle.timefd_language.specs.Bytes.{is_version_three}
use Rattle.timefd_language.specs.declared.description_version.DescriptionVersion.{DescriptionVersion}
use Rattle.timefd_lint_lsp.specs.declared.editor.scan.TextScan.{TextScan}
use Rattle.timefd_lint_lsp.specs.Editor.Scans.{is_in_component, scanned}

-- A word after a `[` and white bytes is a name. Anywhere else it is what any word after the text should have been.
abbrev pub IsSlotFrom : Bool → DescriptionVersion → Text → Option Slot → Type 0
IsSlotFrom true v text found = found ≡ Some slots.Name
IsSlotFrom false v text found = IsSlotAfter (is_version_three v) text (codes "a") found

-- Outside of a component's bracket there is none.
abbrev pub IsSlotIf : Bool → TextScan → DescriptionVersion → Text → Option Slot → Type 0
IsSlotIf true s v text found = IsSlotFrom s.is_blank v text found
IsSlotIf false s v text found = found ≡ None

-- what a word after a text is, if that is known
abbrev pub IsOpenSlot : DescriptionVersion → Text → Option Slot → Type 0
IsOpenSlot v text found = IsSlotIf (is_in_component (scanned v text)) (scanned v text) v text found
