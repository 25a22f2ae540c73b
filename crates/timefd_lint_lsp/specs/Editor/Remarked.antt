-- What is wrong in the comments of a document.
use Rattle.std.specs.Prelude.{ℕ, ◌≡◌, List, []}
use Rattle.timefd_parse.specs.Tree.{Text}
use Rattle.timefd_lint_lsp.specs.declared.editor.finding.Finding.{Finding}
use Rattle.timefd_lint_lsp.specs.declared.editor.finding.Severity.TheVariants.{Error}
use Rattle.timefd_lint_lsp.specs.Editor.Finding.{IsOne}
use Rattle.timefd_lint_sources.specs.declared.no_code.NoCode.{NoCode}
use Rattle.timefd_lint_sources.specs.declared.remark.Remark.{Remark}
use Rattle.timefd_lint_sources.specs.declared.remark.Remark.TheVariants.{Call, Code, Language, Value}
use Rattle.timefd_lint_sources.specs.Remarks.{language_code, language_sentence, no_code, sentence_on, word_at}

-- An error at the word that should name a language.
abbrev pub IsNoLanguage : Text → ℕ → List Finding → Type 0
IsNoLanguage text at found =
    IsOne text at (word_at text at).end Error language_code language_sentence found

-- An error at the word that should be a code.
abbrev pub IsNoCode : Text → NoCode → List Finding → Type 0
IsNoCode text word found = IsOne text word.start word.end Error no_code (sentence_on text word) found

-- Calls and values that aren't looked at are no errors.
abbrev pub IsRemarked : Text → Remark → List Finding → Type 0
IsRemarked text (Call at) found = found ≡ []
IsRemarked text (Value at) found = found ≡ []
IsRemarked text (Language at) found = IsNoLanguage text at found
IsRemarked text (Code word) found = IsNoCode text word found
