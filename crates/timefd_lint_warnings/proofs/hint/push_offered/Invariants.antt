use Rattle.std.proofs.Common.{◌≡◌, ◌++◌, drop}
use Rattle.std.specs.List.{filter}
use Rattle.timefd_lint_warnings.specs.Hints.{is_offered}
use Rattle.timefd_lint_warnings.proofs.hint.push_offered.Given as goal

-- those of the remaining dialects that are named come after
abbrev pub invariant-loop-dialect : goal.invariant-loop-dialect
invariant-loop-dialect l =
    l.dialects.items ++ filter (is_offered l.has_percent) (drop l.dialect-index l.all)
    ≡ l.fn.dialects.items ++ filter (is_offered l.has_percent) l.all
