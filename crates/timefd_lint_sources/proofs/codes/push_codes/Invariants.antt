use Rattle.std.proofs.Common.{◌≡◌, ◌++◌, length, map}
use Rattle.timefd_lint_diagnosis.specs.Words.{texts}
use Rattle.timefd_lint_sources.proofs.codes.push_codes.Given as goal

-- The codes that are left follow.
abbrev pub invariant-codes : goal.invariant-codes
invariant-codes g l =
    texts l.all.items ++ map g.C.Coded.code l.rest ≡ texts l.fn.all.items ++ map g.C.Coded.code l.fn.coded

abbrev pub decreases-codes : goal.decreases-codes
decreases-codes g l = length l.rest
