use Rattle.std.proofs.Common.{◌∙◌, ap, sym}
use Rattle.std.specs.Prelude.{bytes_eq, codes}
use Rattle.timefd_lint_scan.proofs.ImportLemmas.{items_passed}
use Rattle.timefd_lint_scan.proofs.module_import.self_after.Goals as goal

pub self_after_sign-requires : goal.self_after_sign-requires
self_after_sign-requires c =
    items_passed c.args.source.now c.args.pieces.now c.first-item.result c.second-item.result c.next-item.result c.args.until
    c.in-len3-up.len_at_least c.first-item.is c.second-item.is c.next-item.is
    (ap (λ t. bytes_eq t (codes ":")) (sym c.text.ensures) ∙ (sym c.is.ensures ∙ c.if-is.true))
    (ap (λ t. bytes_eq t (codes ":")) (sym c.text-then-is.ensures) ∙ (sym c.is-then-is.ensures ∙ c.if-is-2.true))
    c.requires
