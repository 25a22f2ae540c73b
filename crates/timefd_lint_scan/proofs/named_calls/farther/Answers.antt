use Rattle.std.proofs.Common.{◌∙◌, sym}
use Rattle.timefd_lint_scan.proofs.NamedCallLemmas.{meant_before}
use Rattle.timefd_lint_scan.proofs.named_calls.farther.Goals as goal

pub returns-then-is_meant : goal.returns-then-is_meant
returns-then-is_meant c =
    meant_before c.args.source.now c.args.pieces.now c.args.declared _ (sym c.is_meant.ensures ∙ c.if-is_meant.true)
