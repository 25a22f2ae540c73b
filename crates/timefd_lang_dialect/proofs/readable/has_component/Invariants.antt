use Rattle.std.proofs.Common.{◌≡◌, length}
use Rattle.timefd_lang_dialect.specs.Readers.{has_component}
use Rattle.timefd_lang_dialect.proofs.readable.has_component.Given as goal

-- the remaining bytes decide
abbrev pub invariant-bytes : goal.invariant-bytes
invariant-bytes l = has_component l.rest ≡ has_component l.text

abbrev pub decreases-bytes : goal.decreases-bytes
decreases-bytes l = length l.rest
