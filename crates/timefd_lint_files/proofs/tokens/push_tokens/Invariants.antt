use Rattle.std.proofs.Common.{length}
use Rattle.timefd_lint_files.proofs.TokenLemmas.{GoesOn}
use Rattle.timefd_lint_files.proofs.tokens.push_tokens.Given as goal

abbrev pub invariant-tokens : goal.invariant-tokens
invariant-tokens l = GoesOn l.fn.text l.fn.tokens.items l.tokens.items l.begins_name l.rest

abbrev pub decreases-tokens : goal.decreases-tokens
decreases-tokens l = length l.rest
