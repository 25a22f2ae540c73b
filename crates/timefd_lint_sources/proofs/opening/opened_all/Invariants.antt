use Rattle.std.specs.Prelude.{length, string_bytes}
use Rattle.timefd_lint_sources.proofs.OpeningLemmas.{IsOpenedTo}
use Rattle.timefd_lint_sources.proofs.opening.opened_all.Given as goal

-- What the rest becomes is what the text becomes.
abbrev pub invariant-items : goal.invariant-items
invariant-items l = IsOpenedTo (length l.text) l.count l.version l.text (string_bytes l.left)
