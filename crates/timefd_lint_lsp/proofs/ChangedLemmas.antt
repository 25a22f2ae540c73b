-- What changes of a document lead to.
use Rattle.std.proofs.Common.{◌≡◌, ◌∙◌, ℕ, List, Option, None, Some, String, ap, refl, subst, sym}
use Rattle.std.specs.BTreeMap.{get_by_text}
use Rattle.std.specs.Prelude.{option_map, string_bytes}
use Rattle.std.specs.declared.alloc.Global.{Global}
use Rattle.timefd_lint_lsp.specs.Changes.{after_all}
use Rattle.timefd_lint_lsp.specs.Documents.{AreChanged, AreChangedFrom, AreWith, AreWithResult, AreWithText, Open}
use Rattle.timefd_lint_lsp.specs.Servers.{IsChangedOf, IsSaidAfter, IsSaidOf, IsSaidOfOpen, lost}
use Rattle.timefd_lint_lsp.specs.declared.changes.DocumentChange.{DocumentChange}
use Rattle.timefd_lint_lsp.specs.declared.documents.Document.{Document}
use Rattle.timefd_lint_lsp.specs.declared.server.EditorSettings.{EditorSettings}
use Rattle.timefd_lint_lsp.specs.declared.server.SessionStep.{SessionStep}
use Rattle.timefd_lint_lsp.specs.declared.server.SessionStep.TheVariants.{Silent}

pub not_open : (settings : EditorSettings) (name : List ℕ) (changes : List DocumentChange) (documents : Open) (step : SessionStep)
    → get_by_text documents name ≡ None → step ≡ Silent → IsChangedOf settings name changes documents step
not_open settings name changes documents step none silent =
    subst (λ o. IsSaidOfOpen settings o changes name step) (sym none) silent

pub are_not_open : (name : List ℕ) (changes : List DocumentChange) (documents : Open) → get_by_text documents name ≡ None
    → AreChanged name changes documents documents
are_not_open name changes documents none =
    subst (λ o. AreChangedFrom o name changes documents documents) (sym none) refl

-- The changes were made.
pub made : (settings : EditorSettings) (name bytes : List ℕ) (text : String Global) (found : Option (String Global))
    (changes : List DocumentChange) (documents : Open) (document : Document) (step : SessionStep)
    → get_by_text documents name ≡ Some document → bytes ≡ string_bytes document.text → found ≡ Some text
    → option_map string_bytes found ≡ after_all bytes changes
    → IsSaidOf settings document.kind (string_bytes text) name step
    → IsChangedOf settings name changes documents step
made settings name bytes text found changes documents document step is same got all said =
    let all' : Some (string_bytes text) ≡ after_all bytes changes =
    subst (λ o. option_map string_bytes o ≡ after_all bytes changes) got all in
    subst (λ o. IsSaidOfOpen settings o changes name step) (sym is)
    (subst (λ o. IsSaidAfter settings document.kind o name step) (all' ∙ ap (λ b. after_all b changes) same) said)

pub are_made : (name bytes : List ℕ) (text : String Global) (found : Option (String Global))
    (changes : List DocumentChange) (old new : Open) (document : Document) → get_by_text old name ≡ Some document
    → bytes ≡ string_bytes document.text → found ≡ Some text
    → option_map string_bytes found ≡ after_all bytes changes → AreWithText name text old new
    → AreChanged name changes old new
are_made name bytes text found changes old new document is same got all are =
    let all' : Some (string_bytes text) ≡ after_all bytes changes =
    subst (λ o. option_map string_bytes o ≡ after_all bytes changes) got all in
    subst (λ o. AreChangedFrom o name changes old new) (sym is)
    (subst (λ o. AreWithResult o name old new) (all' ∙ ap (λ b. after_all b changes) same) (text, refl, are))

-- One of the changes can't be made.
pub failed : (settings : EditorSettings) (bytes : List ℕ) (uri : String Global) (found : Option (String Global))
    (changes : List DocumentChange) (documents : Open) (document : Document) (step : SessionStep)
    → get_by_text documents (string_bytes uri) ≡ Some document → bytes ≡ string_bytes document.text
    → found ≡ None → option_map string_bytes found ≡ after_all bytes changes → step ≡ lost uri
    → IsChangedOf settings (string_bytes uri) changes documents step
failed settings bytes uri found changes documents document step is same got none said =
    let none' : None ≡ after_all bytes changes =
    subst (λ o. option_map string_bytes o ≡ after_all bytes changes) got none in
    subst (λ o. IsSaidOfOpen settings o changes (string_bytes uri) step) (sym is)
    (subst (λ o. IsSaidAfter settings document.kind o (string_bytes uri) step)
    (none' ∙ ap (λ b. after_all b changes) same) (uri, refl, said))

pub are_failed : (name bytes : List ℕ) (found : Option (String Global)) (changes : List DocumentChange) (old new : Open)
    (document : Document) → get_by_text old name ≡ Some document → bytes ≡ string_bytes document.text
    → found ≡ None → option_map string_bytes found ≡ after_all bytes changes → AreWith name None old new
    → AreChanged name changes old new
are_failed name bytes found changes old new document is same got none are =
    let none' : None ≡ after_all bytes changes =
    subst (λ o. option_map string_bytes o ≡ after_all bytes changes) got none in
    subst (λ o. AreChangedFrom o name changes old new) (sym is)
    (subst (λ o. AreWithResult o name old new) (none' ∙ ap (λ b. after_all b changes) same) are)
