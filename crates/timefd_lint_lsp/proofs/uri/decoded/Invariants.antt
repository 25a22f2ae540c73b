use Rattle.std.proofs.Common.{◌≡◌, length}
use Rattle.timefd_lint_lsp.specs.Uris.{decoded}
use Rattle.timefd_lint_lsp.proofs.UriLemmas.{with_front}
use Rattle.timefd_lint_lsp.proofs.uri.decoded.Given as goal

-- The rest decides.
abbrev pub invariant-pieces : goal.invariant-pieces
invariant-pieces l = with_front l.bytes.items (decoded l.rest) ≡ decoded l.fn.text

abbrev pub decreases-pieces : goal.decreases-pieces
decreases-pieces l = length l.rest
