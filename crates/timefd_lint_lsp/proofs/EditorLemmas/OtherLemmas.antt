-- What is reported about a format of another language or library.
use Rattle.std.proofs.Common.{ℕ, ◌≡◌, List, subst}
use Rattle.std.specs.Prelude.{OnOk, Result}
use Rattle.timefd_parse.specs.Tree.{Text}
use Rattle.timefd_lint_lsp.proofs.EditorLemmas.WarningLemmas.{in_words}
use Rattle.timefd_lint_lsp.specs.declared.editor.finding.Finding.{Finding}
use Rattle.timefd_lint_lsp.specs.declared.editor.finding.Severity.{Severity}
use Rattle.timefd_lint_lsp.specs.Editor.Each.{Adds}
use Rattle.timefd_lint_lsp.specs.Editor.Finding.{IsOne}

-- A finding, given by a position and words that are equal to its own.
pub placed : {R E : Type 0} (text : Text) (from from' to to' : ℕ) (weight : Severity) (name name' words words' : Text)
    (before after : List Finding) (done : Result R E) → from ≡ from' → to ≡ to' → name ≡ name' → words ≡ words'
    → OnOk done (Adds (IsOne text from to weight name words) before after)
    → OnOk done (Adds (IsOne text from' to' weight name' words') before after)
placed text from from' to to' weight name name' words words' before after done begins ends named worded added =
    subst (λ i. OnOk done (Adds (IsOne text i to' weight name' words') before after)) begins
    (subst (λ i. OnOk done (Adds (IsOne text from i weight name' words') before after)) ends
    (in_words text from to weight name name' words words' before after done named worded added))
