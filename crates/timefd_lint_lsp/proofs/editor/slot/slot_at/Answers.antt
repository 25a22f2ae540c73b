use Rattle.std.proofs.Common.{arith, ◌≡◌, ◌≢◌, ◌<◌, ap, length, eqb-true, false-eqb, sym, subst, Some, None, [], rules}
use Rattle.std.specs.Prelude.{MatchOption, bytes_eq, false}
use Rattle.timefd_lang_fault.specs.declared.rule.Slot.{Slot}
use Rattle.timefd_language.specs.Slots.{IsSlotAt, colon_before}
use Rattle.timefd_lint_lsp.proofs.EditorLemmas.SlotWordLemmas.{no_colon, no_key, unequal}
use Rattle.timefd_language.specs.Bytes.{is_version_three}
use Rattle.timefd_lint_lsp.proofs.editor.slot.slot_at.Goals.{else-is_empty-2-via-then-is_empty-2+else-not-is_empty, else-is_empty-2-via-else-is_empty-2}
use Rattle.timefd_lint_lsp.proofs.editor.slot.slot_at.Goals as goal

pub returns-in_err-key_of : goal.returns-in_err-key_of
returns-in_err-key_of c =
    let not_key : c.cut.result.1.now ≡ [] → ¬ (0 < length c.args.word.now) =
    elim c.else-is_empty-2.branch [
      | else-is_empty-2-via-then-is_empty-2+else-not-is_empty w ↦ λ e p. omega (arith, eqb-true _ 0 (sym w.if-not-is_empty.ensures))
      | else-is_empty-2-via-else-is_empty-2 w ↦ λ e p. false-eqb _ 0 w.if-is_empty-2.ensures (ap length e)
    ] in
    subst (λ r. MatchOption r
    ((slot : Slot) → ¬ IsSlotAt (is_version_three c.args.version) c.args.name.now c.args.between.now c.args.word.now slot)
    (IsSlotAt (is_version_three c.args.version) c.args.name.now c.args.between.now c.args.word.now))
    (sym c.from_residual-in_err-key_of.ensures)
    (no_key (is_version_three c.args.version) c.args.name.now c.args.between.now c.args.word.now c.cut.result.0.now
    c.cut.result.1.now c.cut-2.result.0.now c.cut-2.result.1.now c.in_ok-named.named
    c.cut.ensures.parts c.cut-2.ensures.parts not_key c.in_ok-named.ensures
    (sym c.in_err-key_of.ensures))

pub returns-else-eq : goal.returns-else-eq
returns-else-eq c =
    let not_key : c.cut.result.1.now ≡ [] → ¬ (0 < length c.args.word.now) =
    elim c.else-is_empty-2.branch [
      | else-is_empty-2-via-then-is_empty-2+else-not-is_empty w ↦ λ e p. omega (arith, eqb-true _ 0 (sym w.if-not-is_empty.ensures))
      | else-is_empty-2-via-else-is_empty-2 w ↦ λ e p. false-eqb _ 0 w.if-is_empty-2.ensures (ap length e)
    ] in
    no_colon (is_version_three c.args.version) c.args.name.now c.args.between.now c.args.word.now c.cut.result.0.now
    c.cut.result.1.now c.cut-2.result.0.now c.cut-2.result.1.now c.cut.ensures.parts
    c.cut-2.ensures.parts not_key
    (unequal _ (colon_before c.args.word.now) (subst (λ t. false ≡ bytes_eq c.cut-2.result.1.now t) c.colon_before.ensures c.if-eq.ensures))
