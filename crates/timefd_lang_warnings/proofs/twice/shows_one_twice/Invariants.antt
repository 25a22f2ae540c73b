use Rattle.std.proofs.Common.{◌≡◌, length}
use Rattle.timefd_lang_warnings.specs.Parts.{parts}
use Rattle.timefd_lang_warnings.specs.Twice.{one_twice}
use Rattle.timefd_lang_warnings.proofs.twice.shows_one_twice.Given as goal

-- the answer for the rest is the answer for everything
abbrev pub invariant-fields : goal.invariant-fields
invariant-fields l = one_twice l.left (parts l.description) ≡ one_twice l.fields (parts l.description)

abbrev pub decreases-fields : goal.decreases-fields
decreases-fields l = length l.left
