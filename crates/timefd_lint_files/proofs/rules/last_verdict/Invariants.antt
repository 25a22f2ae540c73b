use Rattle.std.proofs.Common.{◌≡◌, drop}
use Rattle.timefd_lint_files.specs.Rules.{last_verdict, later}
use Rattle.timefd_lint_files.proofs.rules.last_verdict.Given as goal

-- The remaining patterns decide, if they say anything.
abbrev pub invariant-loop-pattern : goal.invariant-loop-pattern
invariant-loop-pattern l =
    later l.last (last_verdict (drop l.pattern-index l.patterns) l.path l.is_folder)
    ≡ last_verdict l.fn.patterns l.fn.path l.is_folder
