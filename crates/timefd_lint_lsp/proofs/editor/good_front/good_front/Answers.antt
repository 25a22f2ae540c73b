use Rattle.std.proofs.Common.{rules}
use Rattle.timefd_lint_lsp.proofs.EditorLemmas.GoodFrontLemmas.{ends_with, reaches_more}
use Rattle.timefd_lint_lsp.proofs.editor.good_front.good_front.Goals as goal

pub pieces-preserved : goal.pieces-preserved
pieces-preserved c = (
  search rules,
  reaches_more c.args.language c.args.text.now c.pieces.rest.now c.in-Some.after.now c.pieces.invariant.1
      c.in-Some.ensures,
)

pub before-requires : goal.before-requires
before-requires c = ends_with c.args.language c.args.text.now c.pieces.rest.now c.pieces.invariant.1
