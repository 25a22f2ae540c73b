use Rattle.std.proofs.Common.{◌≡◌, drop}
use Rattle.std.specs.Prelude.{string_bytes}
use Rattle.timefd_lint_lsp.specs.Changes as spec
use Rattle.timefd_lint_lsp.proofs.changes.after_all.Given as goal

-- The remaining changes decide.
abbrev pub invariant-loop-change : goal.invariant-loop-change
invariant-loop-change l =
    spec.after_all (string_bytes l.current) (drop l.change-index l.changes) ≡ spec.after_all l.text l.changes
