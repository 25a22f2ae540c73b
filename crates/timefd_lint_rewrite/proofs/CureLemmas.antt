-- The cure of a fault.
use Rattle.std.proofs.Common.{◌≡◌, ◌∙◌, Bool, true, Option, Some, None, Result, Ok, Err, ap, sym}
use Rattle.std.specs.Prelude.{IfOk, MatchOption, option_map}
use Rattle.std.specs.Str.{IsCharBoundary, bytes_eq}
use Rattle.std.proofs.lemmas.Slice.Eq.{bytes_eq-Decides}
use denote.Ref.{Bor}
use Rattle.timefd_parse.specs.Tree.{Text}
use Rattle.timefd_language.specs.declared.description_version.Language.{Language}
use Rattle.timefd_lint_diagnosis.specs.declared.diagnostic.Diagnostic.{Diagnostic}
use Rattle.timefd_lint_rewrite.specs.declared.cure.Fixes.{Fixes}
use Rattle.timefd_lint_rewrite.specs.Cures.{IsCured, IsIncurable, IsNoEdit, edited, mark_for, word_for}

-- The mark that is returned, or else the word.
pub found_is : (wanted : Option Text) (r found : Option (Bor Text))
    → option_map (λ mark. mark.now) r ≡ wanted → r ≡ found
    → wanted ≡ option_map (λ mark. mark.now) found
found_is wanted r found answered which = sym answered ∙ ap (option_map (λ mark. mark.now)) which

pub mark_cured : (X E : Type 0) (bytes : X → Text) (language : Language) (fixes : Fixes)
    (text : Text) (d : Diagnostic) (mark : Text) (r : Result (Option X) E)
    → mark_for language fixes d ≡ Some mark → IsCharBoundary text d.span.start
    → IfOk r (λ found. MatchOption found (¬ IsCharBoundary text d.span.start)
    (λ after. bytes after ≡ edited text d.span.start d.span.start mark))
    → IfOk r (λ found. MatchOption found (IsIncurable language fixes text d)
    (λ after. IsCured language fixes text d (bytes after)))
mark_cured X E bytes language fixes text d mark (Ok None) is between edit = absurd (edit between)
mark_cured X E bytes language fixes text d mark (Ok (Some after)) is between edit = rw (is) edit
mark_cured X E bytes language fixes text d mark (Err e) is between edit = tt

pub word_cured : (X E : Type 0) (bytes : X → Text) (language : Language) (fixes : Fixes)
    (text : Text) (d : Diagnostic) (word : Text) (r : Result (Option X) E)
    → mark_for language fixes d ≡ None → word_for fixes d ≡ Some word
    → IfOk r (λ found. MatchOption found (IsNoEdit text d.span.start d.span.end word)
    (λ after. bytes after ≡ edited text d.span.start d.span.end word))
    → IfOk r (λ found. MatchOption found (IsIncurable language fixes text d)
    (λ after. IsCured language fixes text d (bytes after)))
word_cured X E bytes language fixes text d word (Ok None) none is edit = (none, rw (is) edit)
word_cured X E bytes language fixes text d word (Ok (Some after)) none is edit =
    rw (none, is) edit
word_cured X E bytes language fixes text d word (Err e) none is edit = tt

pub same_edit : (text shown after edit : Text) (b : Bool) → shown ≡ after → after ≡ edit
    → b ≡ bytes_eq shown text → b ≡ true → edit ≡ text
same_edit text shown after edit b shows is tested found =
    sym is ∙ sym shows ∙ (bytes_eq-Decides shown text).0 (sym tested ∙ found)

pub nothing_cured : (language : Language) (fixes : Fixes) (text : Text) (d : Diagnostic)
    → mark_for language fixes d ≡ None → word_for fixes d ≡ None
    → IsIncurable language fixes text d
nothing_cured language fixes text d none no_word = (none, rw (no_word) tt)
