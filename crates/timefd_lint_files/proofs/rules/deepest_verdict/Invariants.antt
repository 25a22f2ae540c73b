use Rattle.std.proofs.Common.{◌≡◌, drop}
use Rattle.timefd_lint_files.specs.Rules.{deepest_verdict, later}
use Rattle.timefd_lint_files.proofs.rules.deepest_verdict.Given as goal

-- The remaining files decide, if they say anything.
abbrev pub invariant-loop-file : goal.invariant-loop-file
invariant-loop-file l =
    later l.deepest (deepest_verdict (drop l.file-index l.files) l.path l.is_folder)
    ≡ deepest_verdict l.fn.files l.fn.path l.is_folder
