use Rattle.std.proofs.Common.{◌≡◌, ◌∙◌, ◌+◌, ◌-◌, ◌∷◌, ap, arith, drop, sym}
use Rattle.std.specs.Prelude.{bytes_eq, codes}
use Rattle.timefd_lint_scan.specs.Aliases.{alias_at, self_at, statement_end}
use Rattle.timefd_lint_scan.proofs.BlockLemmas.{end_is, one_back, split_at}
use Rattle.timefd_lint_scan.proofs.ImportLemmas.{ended, one_more, stays_until}
use Rattle.timefd_lint_scan.proofs.LayoutLemmas.{rest_after}
use Rattle.timefd_lint_scan.proofs.import.aliases_of.Goals as goal
use Rattle.timefd_lint_scan.proofs.import.aliases_of.Goals.{else-is, then-is}

pub alias_at-requires : goal.alias_at-requires
alias_at-requires c =
    let next : c.tokens.left ≡ c.tokens.left - 1 + 1 = omega (arith, c.tokens-test.true) in
    c.tokens.invariant.until
    ∙ ap (statement_end c.args.source.now)
    (ap (λ k. drop k c.args.pieces.now) next
    ∙ (rest_after c.args.pieces.now (c.tokens.left - 1) ∙ sym c.tokens_after-after.ensures))

pub self_at-requires : goal.self_at-requires
self_at-requires c =
    let next : c.tokens.left ≡ c.tokens.left - 1 + 1 = omega (arith, c.tokens-test.true) in
    c.tokens.invariant.until
    ∙ ap (statement_end c.args.source.now)
    (ap (λ k. drop k c.args.pieces.now) next
    ∙ (rest_after c.args.pieces.now (c.tokens.left - 1) ∙ sym c.tokens_after-after.ensures))

pub tokens-preserved : goal.tokens-preserved
tokens-preserved c =
    let next : c.tokens.left - 1 + 1 ≡ c.tokens.left = omega (arith, c.tokens-test.true) in
    let split : drop (c.tokens.left - 1) c.args.pieces.now ≡ c.placed-piece.result ∷ drop c.tokens.left c.args.pieces.now =
    split_at c.args.pieces.now (c.tokens.left - 1) c.tokens.left c.placed-piece.result _ next (omega arith)
    (c.placed-piece.ensures ∙ c.index-pieces-left.is) in
    let after : c.tokens_after-after.result.now ≡ drop c.tokens.left c.args.pieces.now =
    c.tokens_after-after.ensures
    ∙ (sym (rest_after c.args.pieces.now (c.tokens.left - 1)) ∙ ap (λ k. drop k c.args.pieces.now) next) in
    let semicolon : bytes_eq c.text_of.result.now (codes ";") ≡ c.is.result = sym c.is.ensures in
    record {
      within = omega arith;
      closed = one_back c.args.source.now c.args.pieces.now (c.tokens.left - 1) c.tokens.left _ _ c.tokens.closings.items
          c.pass_back.new.closings.items next (omega arith) c.index-pieces-left-in-tokens.is c.tokens.invariant.closed c.in_ok-pass_back.ensures;
      until = elim c.if-is.branch [
        | then-is w ↦
            w.until-is
            ∙ ended c.args.source.now c.args.pieces.now (c.tokens.left - 1) c.tokens.left w.end_by-until.result c.placed-piece.result split
            (ap (λ t. bytes_eq t (codes ";")) (sym c.text_of.ensures) ∙ (semicolon ∙ w.if-is.true))
            (end_is c.args.source.now (drop c.tokens.left c.args.pieces.now) w.end_by-until.result c.tokens.closings.items
            c.tokens.invariant.closed (λ st same. w.end_by-until.ensures st (w.deref.ensures.value ∙ same)))
        | else-is w ↦
            w.until-is
            ∙ stays_until c.args.source.now c.args.pieces.now (c.tokens.left - 1) c.tokens.left c.tokens.until c.placed-piece.result split
            (ap (λ t. bytes_eq t (codes ";")) (sym c.text_of.ensures) ∙ (semicolon ∙ w.if-is.false)) c.tokens.invariant.until
      ];
      found = one_more c.args.source.now c.args.own.now c.args.pieces.now (c.tokens.left - 1) c.tokens.left c.placed-piece.result
          c.self_at.result c.alias_at.result c.tokens.aliases.items c.push_any.new.aliases.items
          c.push_any-in-tokens.new.aliases.items split
          (c.self_at.ensures ∙ ap (self_at c.args.source.now c.args.own.now c.placed-piece.result) after) c.in_ok-push_any.ensures
          (c.alias_at.ensures ∙ ap (alias_at c.args.source.now c.args.own.now c.placed-piece.result) after) c.in_ok-push_any-2.ensures
          c.tokens.invariant.found;
    }
