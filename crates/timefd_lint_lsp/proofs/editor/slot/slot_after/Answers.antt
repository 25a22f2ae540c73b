use Rattle.std.proofs.Common.{sym, subst}
use Rattle.timefd_language.specs.Slots.{IsSlotAfter}
use Rattle.timefd_lint_lsp.proofs.EditorLemmas.SlotWordLemmas.{nothing_in, slot_of}
use Rattle.timefd_language.specs.Bytes.{is_version_three}
use Rattle.timefd_lint_lsp.proofs.editor.slot.slot_after.Goals as goal

pub returns-in_err-name : goal.returns-in_err-name
returns-in_err-name c = record {
  slot =
      subst (IsSlotAfter (is_version_three c.args.version) c.args.front.now c.args.word.now)
      (sym c.from_residual.ensures)
      (nothing_in (is_version_three c.args.version) c.args.front.now c.args.word.now c.in_err-name.ensures.heads);
}

pub returns : goal.returns
returns c = record {
  slot =
      slot_of c.slot_at.result (is_version_three c.args.version) c.args.front.now c.args.word.now c.in_ok-name.name
      c.in_ok-name.between c.in_ok-name.ensures.found c.in_ok-name.ensures.heads
      c.slot_at.ensures;
}
