use denote.Text.{Utf8}
use denote.Shadow.{shadow}
use Rattle.timefd_test_uses.proofs.read.read_date.Given as goal

-- what is left is UTF-8
abbrev pub invariant-items : goal.invariant-items
invariant-items l = shadow (Utf8 l.rest)
