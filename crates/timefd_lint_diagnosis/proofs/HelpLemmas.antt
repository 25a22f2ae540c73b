-- What helps against a word of a modifier, by the slot of the fault's rule.
use Rattle.std.proofs.Common.{ℕ, ◌≡◌, List, subst, sym}
use Rattle.std.specs.Prelude.{IfOk, Result, Ok, Err}
use Rattle.std.specs.Borrow.{Bor}
use Rattle.std.specs.declared.alloc.AllocError.{AllocError}
use Rattle.timefd_parse.specs.Tree.{Text}
use Rattle.timefd_lang_fault.specs.Faults.{fault, invalid_modifier}
use Rattle.timefd_lang_fault.specs.RuleKinds.{rule_kind}
use Rattle.timefd_lang_fault.specs.Slots.{wanted_by}
use Rattle.timefd_lang_fault.specs.declared.rule.Rule.{Rule}
use Rattle.timefd_lang_fault.specs.declared.rule.Rule.TheVariants as rules
use Rattle.timefd_lang_fault.specs.declared.key.Key.{Key}
use Rattle.timefd_lang_fault.specs.declared.name.Name.{Name}
use Rattle.timefd_lang_fault.specs.declared.rule.Slot.{Slot}
use Rattle.timefd_lang_fault.specs.declared.rule.Slot.TheVariants as slots
use Rattle.timefd_language.specs.Bytes.{is_version_three}
use Rattle.timefd_language.specs.Slots.{IsWanted}
use Rattle.timefd_language.specs.declared.description_version.DescriptionVersion.{DescriptionVersion}
use Rattle.timefd_language.specs.declared.description_version.Language.TheVariants.{Version}
use Rattle.timefd_lint_diagnosis.specs.declared.help.Help.{Help}
use Rattle.timefd_lint_diagnosis.specs.declared.help.Help.TheVariants.{Words, LeaveOut, Advice}
use Rattle.timefd_lint_diagnosis.specs.Helps.{HasNoModifierSlot, IsModifierSlot, IsVersionHelp, IsWordsHelp}

abbrev WantedAt : DescriptionVersion → Text → ℕ → Rule → Type 0
WantedAt v text index r = IsWanted (Version v) text (fault (rule_kind r) index) (wanted_by r)

pub no_slot : (v : DescriptionVersion) (text : Text) (index : ℕ) (r : Rule) (word : Bor (List ℕ))
    → r ≡ rules.InvalidModifier word → WantedAt v text index r
    → HasNoModifierSlot (is_version_three v) text index word.now
no_slot v text index r word is wanted = subst (WantedAt v text index) is wanted

named : (v : DescriptionVersion) (text : Text) (index : ℕ) (word : Text) (slot : Slot)
    → IsModifierSlot (is_version_three v) text index word slot → (help : Help)
    → IsWordsHelp (is_version_three v) slot word help
    → IsVersionHelp v text index (invalid_modifier word) help
named v text index word slot at (Words a allowed nearest) is = (
  subst (IsModifierSlot (is_version_three v) text index word) (sym is.0) at,
  subst (λ s. IsWordsHelp (is_version_three v) s word (Words a allowed nearest)) (sym is.0) is,
)
named v text index word slot at (LeaveOut key) is = absurd is
named v text index word slot at (Advice words) is = absurd is

some_slot : (v : DescriptionVersion) (text : Text) (index : ℕ) (word : Text) (slot : Slot)
    (help : Result Help AllocError) → IsModifierSlot (is_version_three v) text index word slot
    → IfOk help (IsWordsHelp (is_version_three v) slot word)
    → IfOk help (IsVersionHelp v text index (invalid_modifier word))
some_slot v text index word slot (Err e) at helps = tt
some_slot v text index word slot (Ok help) at helps = named v text index word slot at help helps

pub for_key : (v : DescriptionVersion) (text : Text) (index : ℕ) (r : Rule) (word : Bor (List ℕ))
    (name : Name) (help : Result Help AllocError) → r ≡ rules.UnknownKey word name → WantedAt v text index r
    → IfOk help (IsWordsHelp (is_version_three v) (slots.Key name) word.now)
    → IfOk help (IsVersionHelp v text index (rule_kind r))
for_key v text index r word name help is wanted helps =
    subst (λ r. IfOk help (IsVersionHelp v text index (rule_kind r))) (sym is)
    (some_slot v text index word.now (slots.Key name) help (subst (WantedAt v text index) is wanted) helps)

pub for_value : (v : DescriptionVersion) (text : Text) (index : ℕ) (r : Rule) (word : Bor (List ℕ))
    (key : Key) (help : Result Help AllocError) → r ≡ rules.UnknownValue word key → WantedAt v text index r
    → IfOk help (IsWordsHelp (is_version_three v) (slots.Value key) word.now)
    → IfOk help (IsVersionHelp v text index (rule_kind r))
for_value v text index r word key help is wanted helps =
    subst (λ r. IfOk help (IsVersionHelp v text index (rule_kind r))) (sym is)
    (some_slot v text index word.now (slots.Value key) help (subst (WantedAt v text index) is wanted) helps)
