use Rattle.std.proofs.Common.{◌≡◌, ◌++◌, length}
use Rattle.timefd_bin_streams.specs.Words.{bytes_of, borrowed_bytes}
use Rattle.timefd_bin_streams.proofs.words.borrowed.Given as goal

-- The words that are left follow.
abbrev pub invariant-words : goal.invariant-words
invariant-words l = borrowed_bytes l.all.items ++ bytes_of l.rest ≡ bytes_of l.fn.words

abbrev pub decreases-words : goal.decreases-words
decreases-words l = length l.rest
