use Rattle.std.proofs.Common.{sym, subst}
use Rattle.timefd_lint_lsp.specs.Editor.SlotSearches.{NamesHead}
use Rattle.timefd_lint_lsp.proofs.EditorLemmas.SlotLemmas.{named_head, names_head, names_none}
use Rattle.timefd_lint_lsp.proofs.editor.slot.head_in.Goals as goal

pub returns-in_err-name-clause-heads : goal.returns-in_err-name-clause-heads
returns-in_err-name-clause-heads c =
    subst (NamesHead c.args.front.now) (sym c.from_residual-in_err-name.ensures)
    (names_none c.args.front.now c.in_ok-bracket.bracket.now c.in_ok-bracket.ensures
    c.in_err-name.ensures.heads)

pub returns-clause-found : goal.returns-clause-found
returns-clause-found c =
    named_head c.args.front.now c.in_ok-bracket.bracket.now c.in_ok-name.name.now
    c.in_ok-name.modifiers.now c.after_modifiers.result.now c.in_ok-bracket.ensures
    c.in_ok-name.ensures.found c.after_modifiers.ensures

pub returns-clause-heads : goal.returns-clause-heads
returns-clause-heads c =
    names_head c.args.front.now c.in_ok-bracket.bracket.now c.in_ok-name.name
    c.in_ok-name.modifiers c.after_modifiers.result c.in_ok-bracket.ensures
    c.in_ok-name.ensures.heads c.after_modifiers.ensures
