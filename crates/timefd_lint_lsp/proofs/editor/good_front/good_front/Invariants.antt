use Rattle.std.proofs.Common.{length}
use denote.Text.{Utf8}
use denote.Shadow.{shadow}
use Rattle.timefd_lint_lsp.proofs.EditorLemmas.GoodFrontLemmas.{Reaches}
use Rattle.timefd_lint_lsp.proofs.editor.good_front.good_front.Given as goal

-- the pieces so far
abbrev pub invariant-pieces : goal.invariant-pieces
invariant-pieces l = shadow (Utf8 l.rest) × Reaches l.language l.text l.rest

abbrev pub decreases-pieces : goal.decreases-pieces
decreases-pieces l = length l.rest
