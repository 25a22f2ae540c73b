use Rattle.std.proofs.Common.{◌≡◌, length}
use Rattle.timefd_lang_dialect.specs.Asked.{are_plain}
use Rattle.timefd_lang_dialect.proofs.plain.are_plain.Given as goal

-- the remaining bytes decide
abbrev pub invariant-bytes : goal.invariant-bytes
invariant-bytes l = are_plain l.dialect l.rest ≡ are_plain l.dialect l.bytes

abbrev pub decreases-bytes : goal.decreases-bytes
decreases-bytes l = length l.rest
