use Rattle.std.proofs.Common.{◌≡◌, drop}
use Rattle.timefd_language.specs.Bytes.{is_version_three}
use Rattle.timefd_lint_lsp.specs.Editor.Given.{given_from, is_given_before}
use Rattle.timefd_lint_lsp.proofs.editor.given.is_given_before.Given as goal

-- The remaining bytes decide.
abbrev pub invariant-loop-index : goal.invariant-loop-index
invariant-loop-index l =
    given_from (is_version_three l.version) l.key l.given (drop l.index l.text)
    ≡ is_given_before (is_version_three l.version) l.key l.text
