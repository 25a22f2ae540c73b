use Rattle.std.proofs.Common.{◌≡◌, drop}
use Rattle.serde_json.specs.View.{items_view}
use Rattle.timefd_lint_lsp.specs.WantedKinds as spec
use Rattle.timefd_lint_lsp.proofs.wanted.all_wanted.Given as goal

-- The remaining kinds decide.
abbrev pub invariant-loop-kind : goal.invariant-loop-kind
invariant-loop-kind l =
    spec.wanted_from l.wanted (items_view (drop l.kind-index l.kinds)) ≡ spec.all_wanted (items_view l.kinds)
