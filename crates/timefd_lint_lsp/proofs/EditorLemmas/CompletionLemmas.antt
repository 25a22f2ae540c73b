-- The words that may be written at a cursor.
use Rattle.std.proofs.Common.{ℕ, ◌≡◌, Bool, true, false, List, Option, None, Some, inl, inr, refl, sym, subst, ap, ◌∙◌, ◌↔◌, take, drop, length, IsUtf8}
use Rattle.std.specs.Prelude.{IfOk, IsSome, Result, Ok, Err}
use Rattle.std.specs.Str.{IsCharBoundary}
use Rattle.timefd_parse.specs.Tree.{Text}
use Rattle.timefd_lang_fault.specs.declared.rule.Slot.{Slot}
use Rattle.timefd_language.specs.Bytes.{is_version_three}
use Rattle.timefd_language.specs.declared.description_version.DescriptionVersion.{DescriptionVersion}
use Rattle.timefd_language.specs.declared.description_version.Language.{Language}
use Rattle.timefd_language.specs.declared.description_version.Language.TheVariants.{Version, Strftime}
use Rattle.timefd_lint_sources.specs.declared.reported.SourceText.{SourceText}
use Rattle.timefd_lint_sources.specs.Judged.{language_in, text_of}
use Rattle.timefd_lint_sources.specs.Reported.{AllFound, AreAllOf}
use Rattle.timefd_lint_lsp.specs.declared.editor.completing.Completion.{Completion}
use Rattle.timefd_lint_lsp.specs.Editor.Completions.{IsCompletedAs, IsCompletedAt, IsCompletedBy, IsCompletedFrom, IsCompletedIn, IsCompletedOfAny, IsCompletedOn, IsCompletedOver, IsCompletedWith, IsCompletion, begun, first_touched}
use Rattle.timefd_lint_lsp.specs.Editor.Cursors.{bytes_before, word_start}
use Rattle.timefd_lint_lsp.specs.Editor.Offered.{Around}
use Rattle.timefd_lint_lsp.specs.Editor.OpenSlots.{IsOpenSlot}
use Rattle.timefd_lint_scan.specs.declared.description.SourceDescription.{SourceDescription}
use Rattle.timefd_lint_scan.specs.Found.{AreInOrder}

abbrev around_of : DescriptionVersion → Slot → Text → Text → Text → Around
around_of v slot before word after = record {
  strict = is_version_three v;
  slot = slot;
  before = before;
  word = word;
  after = after;
}

-- It is about the first description of the source that touches the index.
pub at_first : {E : Type 0} (s : SourceText) (ds : List SourceDescription) (index : ℕ) (o : Option SourceDescription)
    (done : Result (Option Completion) E) → AreAllOf s ds → AllFound s ds → AreInOrder 0 ds
    → o ≡ first_touched ds index → IfOk done (IsCompletedOfAny s.text.now o index) → IfOk done (IsCompletedAt s index)
at_first s ds index o (Ok found) all stand in_order first completed = record {
  descriptions = ds;
  all = all;
  stand = stand;
  in_order = in_order;
  completed = subst (λ x. IsCompletedOfAny s.text.now x index found) first completed;
}
at_first s ds index o (Err e) all stand in_order first completed = tt

-- In a description of a version.
pub of_version : {E : Type 0} (document : Text) (d : SourceDescription) (index : ℕ) (language : Language) (v : DescriptionVersion)
    (done : Result (Option Completion) E) → language ≡ language_in d → language ≡ Version v
    → IfOk done (IsCompletedIn document d v index) → IfOk done (IsCompletedOn document d index)
of_version document d index language v (Ok found) said is completed =
    subst (λ l. IsCompletedAs l document d index found) (sym is ∙ said) completed
of_version document d index language v (Err e) said is completed = tt

pub of_strftime : (document : Text) (d : SourceDescription) (index : ℕ) (language : Language) → language ≡ language_in d
    → language ≡ Strftime → IsCompletedOn document d index None
of_strftime document d index language said is =
    subst (λ l. IsCompletedAs l document d index None) (sym is ∙ said) refl

-- At no byte nothing is offered.
pub at_none : (document : Text) (d : SourceDescription) (v : DescriptionVersion) (index : ℕ) (at : Option ℕ)
    → at ≡ bytes_before d index → at ≡ None → IsCompletedIn document d v index None
at_none document d v index at said is =
    subst (λ o. IsCompletedWith o document d v index None) (sym is ∙ said) refl

-- Nor in a text that isn't UTF-8.
pub not_text : (document : Text) (d : SourceDescription) (v : DescriptionVersion) (index n : ℕ) (at : Option ℕ) (bytes : Text)
    → at ≡ bytes_before d index → at ≡ Some n → bytes ≡ text_of d → (IsUtf8 bytes → ⊥)
    → IsCompletedIn document d v index None
not_text document d v index n at bytes said is same not =
    subst (λ o. IsCompletedWith o document d v index None) (sym is ∙ said)
    (inl (subst (λ t. IsUtf8 t → ⊥) same not, refl))

pub at_byte : {E : Type 0} (document : Text) (d : SourceDescription) (v : DescriptionVersion) (index n : ℕ) (at : Option ℕ)
    (bytes text : Text) (done : Result (Option Completion) E) → at ≡ bytes_before d index → at ≡ Some n
    → bytes ≡ text_of d → text ≡ bytes → IsUtf8 text → IfOk done (IsCompletedOver document d v text n index)
    → IfOk done (IsCompletedIn document d v index)
at_byte document d v index n at bytes text (Ok found) said is same read utf8 completed =
    subst (λ o. IsCompletedWith o document d v index found) (sym is ∙ said)
    (inr (
      subst IsUtf8 (read ∙ same) utf8,
      subst (λ t. IsCompletedOver document d v t n index found) (read ∙ same) completed,
    ))
at_byte document d v index n at bytes text (Err e) said is same read utf8 completed = tt

-- Between two parts of the text.
pub between : {E : Type 0} (document : Text) (d : SourceDescription) (v : DescriptionVersion) (text front after : Text)
    (n index : ℕ) (done : Result (Option Completion) E) → IsCharBoundary text n → front ≡ take n text
    → after ≡ drop n text → IfOk done (IsCompletedFrom document d v front after index)
    → IfOk done (IsCompletedOver document d v text n index)
between document d v text front after n index (Ok found) at is rest completed =
    inr (
      at,
      subst (λ t. IsCompletedFrom document d v t (drop n text) index found) is
          (subst (λ t. IsCompletedFrom document d v front t index found) rest completed),
    )
between document d v text front after n index (Err e) at is rest completed = tt

pub within : (document : Text) (d : SourceDescription) (v : DescriptionVersion) (text : Text) (n index : ℕ)
    → (IsCharBoundary text n → ⊥) → IsCompletedOver document d v text n index None
within document d v text n index not = inl (not, refl)

-- It is known what the word is.
pub known : (document : Text) (d : SourceDescription) (v : DescriptionVersion) (front before word after : Text) (index : ℕ)
    (slot : Slot) (got : Option Slot) (c : Completion) → before ≡ take (word_start front) front
    → word ≡ drop (word_start front) front → IsOpenSlot v before got → got ≡ Some slot
    → IsCompletion document d (around_of v slot before word after) index c
    → IsCompletedFrom document d v front after index (Some c)
known document d v front before word after index slot got c first last opened is completed = (
  Some slot,
  subst (λ o. IsOpenSlot v (take (word_start front) front) o) is (subst (λ t. IsOpenSlot v t got) first opened),
  subst (λ t. IsCompletion document d (around_of v slot (take (word_start front) front) t after) index c) last
      (subst (λ t. IsCompletion document d (around_of v slot t word after) index c) first completed),
)

-- It isn't known.
pub unknown : (document : Text) (d : SourceDescription) (v : DescriptionVersion) (front before after : Text) (index : ℕ)
    (got : Option Slot) → before ≡ take (word_start front) front → IsOpenSlot v before got → got ≡ None
    → IsCompletedFrom document d v front after index None
unknown document d v front before after index got first opened is = (
  None,
  subst (λ o. IsOpenSlot v (take (word_start front) front) o) is (subst (λ t. IsOpenSlot v t got) first opened),
  refl,
)
