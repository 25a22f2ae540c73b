use Rattle.std.proofs.Common.{sym, subst}
use Rattle.std.specs.Prelude.{MatchOption}
use Rattle.timefd_language.specs.Bytes.{ZeroOrMore}
use Rattle.timefd_lint_lsp.specs.Editor.SlotSearches.{is_inside, IsLastBracket}
use Rattle.timefd_lint_lsp.proofs.EditorLemmas.SlotLemmas.{last_found, none_found}
use Rattle.timefd_lint_lsp.proofs.editor.slot.last_bracket.Goals as goal

pub returns-in_err-at : goal.returns-in_err-at
returns-in_err-at c =
    subst (λ r. MatchOption r (ZeroOrMore is_inside c.args.text.now)
    (λ bracket. IsLastBracket c.args.text.now bracket.now)) (sym c.from_residual.ensures)
    (none_found c.args.text.now c.in_err-at.ensures.cases)

pub returns : goal.returns
returns c =
    last_found c.args.text.now c.split_at.result.1.now c.in_ok-at.at c.in_ok-at.ensures.cases
    c.split_at.ensures.back
