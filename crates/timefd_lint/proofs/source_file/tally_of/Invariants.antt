use Rattle.std.proofs.Common.{◌≡◌, drop}
use Rattle.timefd_lint.specs.Sources.{tally_from, tally_of_ends}
use Rattle.timefd_lint.proofs.source_file.tally_of.Given as goal

-- With the tally of the remaining ends it is the tally of all.
abbrev pub invariant-loop-end : goal.invariant-loop-end
invariant-loop-end l = tally_from l.tally (drop l.end-index l.ends) ≡ tally_of_ends l.ends
