use Rattle.std.proofs.Common.{◌≡◌, ◌+◌, length}
use Rattle.timefd_lang_warnings.specs.Levels.{count, count_among}
use Rattle.timefd_lang_warnings.proofs.levels.Levels.count.Given as goal

-- the count so far, and the count of the warnings that are left, are the whole count
abbrev pub invariant-warnings : goal.invariant-warnings
invariant-warnings l = l.count + count_among l.level l.self l.left ≡ count l.level l.self

abbrev pub decreases-warnings : goal.decreases-warnings
decreases-warnings l = length l.left
