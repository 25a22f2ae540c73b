use Rattle.std.proofs.Common.{◌≡◌, ◌++◌, flat_map}
use Rattle.timefd_lint_lsp.specs.Editor.Findings.{unless_allowed}
use Rattle.timefd_lint_lsp.proofs.editor.all_findings.push_unallowed.Given as goal

abbrev pub invariant-loop-finding : goal.invariant-loop-finding
invariant-loop-finding l =
    l.found.items ≡ l.fn.found.items ++ flat_map (unless_allowed l.source l.description) l.yielded
