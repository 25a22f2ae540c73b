use Rattle.std.proofs.Common.{◌≡◌, ◌++◌, string_bytes}
use Rattle.timefd_lint_explain.specs.Lines.{indent}
use Rattle.timefd_lint_explain.proofs.line.push_indent.Given as goal

abbrev pub invariant-loop : goal.invariant-loop
invariant-loop l = string_bytes l.out ≡ string_bytes l.initial.out ++ indent l.counter
