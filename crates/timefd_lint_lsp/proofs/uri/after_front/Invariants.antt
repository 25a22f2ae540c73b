use Rattle.std.proofs.Common.{◌≡◌, length}
use Rattle.timefd_lint_lsp.specs.Uris.{after_front}
use Rattle.timefd_lint_lsp.proofs.uri.after_front.Given as goal

-- What is left of both decides.
abbrev pub invariant-bytes : goal.invariant-bytes
invariant-bytes l = after_front l.left l.rest ≡ after_front l.fn.front l.fn.text

abbrev pub decreases-bytes : goal.decreases-bytes
decreases-bytes l = length l.left
