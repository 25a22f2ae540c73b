use Rattle.timefd_lint_lsp.proofs.EditorLemmas.PositionLemmas.{round_trip}
use Rattle.timefd_lint_lsp.proofs.editor.laws.round_trip.Goals as goal

pub returns : goal.returns
returns c = round_trip
