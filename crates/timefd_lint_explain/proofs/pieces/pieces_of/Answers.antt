use Rattle.std.proofs.Common.{◌≡◌, ◌++◌, ◌∷◌, [], IfSome, MatchOption, refl, rules, subst, sym}
use Rattle.timefd_language.specs.Grammar.{nesting_limit}
use Rattle.timefd_parse.specs.FirstPiece.{BeginsList}
use Rattle.timefd_parse.specs.Language.{SpellsIn}
use Rattle.timefd_lint_explain.specs.Shown.{IsShown}
use Rattle.timefd_lint_explain.proofs.ShownLemmas.{Continues, continues_more, within_more}
use Rattle.timefd_lint_explain.proofs.pieces.pieces_of.Goals as goal

pub pieces-preserved : goal.pieces-preserved
pieces-preserved c =
    let rest = c.pieces.rest.now in
    let piece = c.in-Some.piece in
    let after = c.in-Some.after.now in
    let joined = subst (λ first. IfSome first (λ parts. parts.0.text.now ++ parts.1.now ≡ rest)) c.in-Some.is
    c.in_ok-piece.ensures.joined in (
      search rules,
      within_more c.pieces.shown.items _ piece rest piece.text.now after c.args.text.now
          c.in_ok-push.ensures.items refl joined c.pieces.invariant.1,
      λ list s.
          subst (λ items. Continues c.args.language c.args.text.now list items after)
          (sym c.in_ok-push.ensures.items)
          (continues_more c.args.language c.args.text.now list c.pieces.shown.items rest piece.text.now after piece
          (c.pieces.invariant.2 list s) joined
          (λ others o.
          subst (λ first. MatchOption first ((others ≡ []) × (rest ≡ []))
          (λ parts. BeginsList c.args.language parts.0.text.now parts.1.now others)) c.in-Some.is
          (c.in_ok-piece.ensures.spelled others o))
          (λ tree t. (
            refl,
            subst (λ first. IfSome first (λ parts. SpellsIn c.args.language nesting_limit parts.0.text.now (tree ∷ [])
                → IsShown parts.0 tree)) c.in-Some.is (c.in_ok-piece.ensures.shows tree) t,
          ))),
    )
