-- What helps against a fault.
use Rattle.std.specs.Prelude.{ℕ, ◌≡◌, Bool, None, Option, map, take, option_map}
use Rattle.std.specs.Char.{to_ascii_lowercase}
use Rattle.timefd_parse.specs.Tree.{Text}
use Rattle.timefd_lang_fault.specs.Faults.{Fault, Kind, invalid_name, invalid_modifier, invalid_combination}
use Rattle.timefd_language.specs.declared.description_version.DescriptionVersion.{DescriptionVersion}
use Rattle.timefd_language.specs.Bytes.{is_version_three}
use Rattle.timefd_language.specs.declared.description_version.Language.{Language}
use Rattle.timefd_language.specs.declared.description_version.Language.TheVariants.{Version, Strftime}
use Rattle.timefd_lang_fault.specs.declared.code.Code.TheVariants.{InvalidModifier}
use Rattle.timefd_lint_diagnosis.specs.declared.help.Help.{Help}
use Rattle.timefd_lint_diagnosis.specs.declared.help.Help.TheVariants.{Words, LeaveOut, Advice}
use Rattle.timefd_lang_fault.specs.declared.rule.Slot.{Slot}
use Rattle.timefd_lang_fault.specs.declared.rule.Slot.TheVariants as slots
use Rattle.timefd_lint_diagnosis.specs.Advice.{advice, strftime_advice}
use Rattle.timefd_lang_fault.specs.Codes.{code_of}
use Rattle.timefd_lint_diagnosis.specs.Nearest.{IsNearest}
use Rattle.timefd_language.specs.Slots.{IsSlotIn, words_at}
use Rattle.timefd_lint_diagnosis.specs.Words.{texts}

-- The help names the words that are allowed there, and the one nearest to this word, whatever its
-- case.
abbrev pub IsWordsHelp : Bool → Slot → Text → Help → Type 0
IsWordsHelp strict slot word (Words at allowed nearest) =
    (at ≡ slot) × (texts allowed.now ≡ words_at strict slot)
    × IsNearest (words_at strict slot) (map to_ascii_lowercase word)
    (option_map (λ w. w.now) nearest)
IsWordsHelp strict slot word (LeaveOut key) = ⊥
IsWordsHelp strict slot word (Advice advice) = ⊥

-- What a modifier's word at this index should have been.
abbrev pub IsModifierSlot : Bool → Text → ℕ → Text → Slot → Type 0
IsModifierSlot strict text index word slot = IsSlotIn strict (take index text) word slot

abbrev pub HasNoModifierSlot : Bool → Text → ℕ → Text → Type 0
HasNoModifierSlot strict text index word =
    (slot : Slot) → ¬ IsModifierSlot strict text index word slot

-- For a name, a key or a value at fault, the help names the words that are allowed there. Only if it
-- isn't known what a modifier's word should have been, the help is an advice, as for all other
-- faults.
abbrev pub IsVersionHelp : DescriptionVersion → Text → ℕ → Kind → Help → Type 0
IsVersionHelp v text index (invalid_name name) help =
    IsWordsHelp (is_version_three v) slots.Name name help
IsVersionHelp v text index (invalid_modifier word) (Words at allowed nearest) =
    IsModifierSlot (is_version_three v) text index word at
    × IsWordsHelp (is_version_three v) at word (Words at allowed nearest)
IsVersionHelp v text index (invalid_modifier word) (LeaveOut key) = ⊥
IsVersionHelp v text index (invalid_modifier word) (Advice words) =
    HasNoModifierSlot (is_version_three v) text index word
    × (words.now ≡ advice v InvalidModifier)
IsVersionHelp v text index (invalid_combination key context) (LeaveOut other) = other.now ≡ key
IsVersionHelp v text index (invalid_combination key context) (Words at allowed nearest) = ⊥
IsVersionHelp v text index (invalid_combination key context) (Advice words) = ⊥
IsVersionHelp v text index kind (Advice words) = words.now ≡ advice v (code_of kind)
IsVersionHelp v text index kind (LeaveOut key) = ⊥
IsVersionHelp v text index kind (Words at allowed nearest) = ⊥

abbrev pub IsHelpFor : Language → Text → Fault → Help → Type 0
IsHelpFor (Version v) text f help = IsVersionHelp v text f.index f.kind help
IsHelpFor Strftime text f (Advice words) = words.now ≡ strftime_advice (code_of f.kind)
IsHelpFor Strftime text f (LeaveOut key) = ⊥
IsHelpFor Strftime text f (Words at allowed nearest) = ⊥

-- the nearest of the words that a help names, if it names one
abbrev pub nearest_in : Help → Option Text
nearest_in (Words at allowed nearest) = option_map (λ w. w.now) nearest
nearest_in (LeaveOut key) = None
nearest_in (Advice words) = None
