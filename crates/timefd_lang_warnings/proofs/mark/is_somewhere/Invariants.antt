use Rattle.std.proofs.Common.{◌≡◌, length}
use Rattle.timefd_lang_warnings.specs.Marks.{is_somewhere}
use Rattle.timefd_lang_warnings.proofs.mark.is_somewhere.Given as goal

-- the answer for the rest is the answer for everything
abbrev pub invariant-positions : goal.invariant-positions
invariant-positions l = is_somewhere l.mark l.left ≡ is_somewhere l.mark l.text

abbrev pub decreases-positions : goal.decreases-positions
decreases-positions l = length l.left
