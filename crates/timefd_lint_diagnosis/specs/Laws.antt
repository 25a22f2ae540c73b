-- What is known about faults of modifiers.
use Rattle.std.specs.Prelude.{ℕ, ◌≡◌, ◌+◌, ◌++◌, length, Err}
use Rattle.timefd_parse.specs.Tree.{Text}
use Rattle.timefd_lang_fault.specs.Faults.{fault, invalid_modifier}
use Rattle.timefd_language.specs.declared.description_version.DescriptionVersion.{DescriptionVersion}
use Rattle.timefd_language.specs.Bytes.{is_version_three}
use Rattle.timefd_language.specs.Grammar.{Nested, bracket_verdict}
use Rattle.timefd_language.specs.Head.{Head, IsHead, head_text}
use Rattle.timefd_lang_fault.specs.declared.rule.Slot.{Slot}
use Rattle.timefd_lint_diagnosis.specs.Helps.{IsModifierSlot}

-- If a closed bracket is refused for a word of a modifier, it is known what the word should have
-- been.
abbrev pub HasModifierSlot : Type 0
HasModifierSlot =
    (v : DescriptionVersion) (h : Head) (ns : Nested) (white before rest word : Text) (index : ℕ)
    → IsHead h → bracket_verdict v h ns white ≡ Err (fault (invalid_modifier word) index)
    → (slot : Slot) × IsModifierSlot (is_version_three v) (before ++ head_text h ++ rest)
    (length before + index) word slot
