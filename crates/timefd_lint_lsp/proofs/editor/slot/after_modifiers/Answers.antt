use Rattle.std.proofs.Common.{rules}
use Rattle.timefd_lint_lsp.proofs.EditorLemmas.SlotLemmas.{one_more}
use Rattle.timefd_lint_lsp.proofs.editor.slot.after_modifiers.Goals as goal

pub modifiers-preserved : goal.modifiers-preserved
modifiers-preserved c = (
  search rules,
  one_more c.args.text.now c.modifiers.rest.now c.in-Some.after.now c.in-Some.field-0-0
      c.modifiers.invariant.1 c.in-Some.ensures.found,
)
