use Rattle.std.proofs.Common.{◌∙◌}
use mathlib.Core.Path.{ap₂}
use Rattle.timefd_lint_lsp.specs.Params as spec
use Rattle.timefd_lint_lsp.proofs.params.range_in.Goals as goal

pub returns : goal.returns
returns c = c.range_from.ensures ∙ ap₂ spec.range_from c.position_by-start.ensures c.position_by-end.ensures
