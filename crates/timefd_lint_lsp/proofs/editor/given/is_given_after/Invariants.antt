use Rattle.std.proofs.Common.{◌≡◌, drop}
use Rattle.timefd_language.specs.Bytes.{is_version_three}
use Rattle.timefd_lint_lsp.specs.Editor.Given.{is_given_after}
use Rattle.timefd_lint_lsp.proofs.editor.given.is_given_after.Given as goal

-- The remaining bytes decide.
abbrev pub invariant-loop-index : goal.invariant-loop-index
invariant-loop-index l =
    is_given_after (is_version_three l.version) l.key (drop l.index l.text)
    ≡ is_given_after (is_version_three l.version) l.key l.text
