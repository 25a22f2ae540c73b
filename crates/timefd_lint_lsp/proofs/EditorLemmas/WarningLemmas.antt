-- What is reported about a description as a whole.
use Rattle.std.proofs.Common.{ℕ, ◌≡◌, List, [], ◌∷◌, ◌++◌, refl, subst}
use Rattle.std.specs.Prelude.{OnOk, Result, string_bytes}
use Rattle.timefd_parse.specs.Tree.{Text}
use Rattle.timefd_lint_lsp.proofs.EditorLemmas.EachLemmas.{none_added}
use Rattle.timefd_lint_lsp.specs.declared.editor.finding.Finding.{Finding}
use Rattle.timefd_lint_lsp.specs.declared.editor.finding.Severity.{Severity}
use Rattle.timefd_lint_lsp.specs.Editor.Each.{Adds}
use Rattle.timefd_lint_lsp.specs.Editor.Finding.{IsOne, IsWarned, IsWarnedAt}
use Rattle.timefd_lint_lsp.specs.Editor.Positions.{range_of}
use Rattle.timefd_lint_scan.specs.declared.description.SourceDescription.{SourceDescription}
use Rattle.timefd_lang_warnings.specs.declared.levels.Level.{Level}
use Rattle.timefd_lang_warnings.specs.declared.levels.Level.TheVariants.{Allowed}
use Rattle.timefd_lang_warnings.specs.declared.levels.Levels.{Levels}
use Rattle.timefd_lang_warnings.specs.declared.warning.Warning.{Warning}
use Rattle.timefd_lang_warnings.specs.Levels.{level_of}

pub allowed : (text : Text) (d : SourceDescription) (w : Warning) (before : List Finding)
    → Adds (IsWarnedAt text d Allowed w) before before
allowed text d w before = none_added (IsWarnedAt text d Allowed w) before refl

pub by_level : {R E : Type 0} (text : Text) (d : SourceDescription) (warned : Levels) (w : Warning) (level : Level)
    (before after : List Finding) (done : Result R E) → level ≡ level_of warned w
    → OnOk done (Adds (IsWarnedAt text d level w) before after)
    → OnOk done (Adds (IsWarned text d warned w) before after)
by_level text d warned w level before after done is added =
    subst (λ l. OnOk done (Adds (IsWarnedAt text d l w) before after)) is added

pub pushed : (text : Text) (from to : ℕ) (f : Finding) (before after : List Finding)
    → f.range ≡ range_of text from to → after ≡ before ++ (f ∷ [])
    → Adds (IsOne text from to f.severity f.code.now (string_bytes f.message)) before after
pushed text from to f before after ranged whole =
    (f ∷ [], (f, record { range = ranged; severity = refl; code = refl; message = refl }, refl), whole)

-- A finding, given by words that are equal to its own.
pub in_words : {R E : Type 0} (text : Text) (from to : ℕ) (weight : Severity) (name name' words words' : Text)
    (before after : List Finding) (done : Result R E) → name ≡ name' → words ≡ words'
    → OnOk done (Adds (IsOne text from to weight name words) before after)
    → OnOk done (Adds (IsOne text from to weight name' words') before after)
in_words text from to weight name name' words words' before after done same_name same_words added =
    subst (λ n. OnOk done (Adds (IsOne text from to weight n words') before after)) same_name
    (subst (λ s. OnOk done (Adds (IsOne text from to weight name s) before after)) same_words added)
