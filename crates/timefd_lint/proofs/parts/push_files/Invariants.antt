use Rattle.std.proofs.Common.{◌≡◌, ◌++◌, length, map, string_bytes}
use Rattle.timefd_lint_diagnosis.specs.Words.{texts}
use Rattle.timefd_lint.proofs.parts.push_files.Given as goal

-- The remaining names follow.
abbrev pub invariant-files : goal.invariant-files
invariant-files l = texts l.all.items ++ map string_bytes l.rest
    ≡ texts l.fn.all.items ++ map string_bytes l.fn.files

abbrev pub decreases-files : goal.decreases-files
decreases-files l = length l.rest
