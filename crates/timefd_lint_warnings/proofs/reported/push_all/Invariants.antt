use Rattle.std.proofs.Common.{◌≡◌, ◌++◌, drop}
use Rattle.timefd_lint_warnings.specs.Messages.{messages_on}
use Rattle.timefd_lint_warnings.proofs.reported.push_all.Given as goal

abbrev pub invariant-loop-warning : goal.invariant-loop-warning
invariant-loop-warning l =
    l.out.items ++ messages_on l.style l.origin l.whole l.span l.text l.column l.found (drop l.warning-index l.warnings)
    ≡ l.fn.out.items ++ messages_on l.style l.origin l.whole l.span l.text l.column l.found l.warnings
