-- The tokens so far, and the tokens of the rest.
use Rattle.std.proofs.Common.{◌≡◌, ◌-◌, List, [], ◌∷◌, ◌++◌, length, refl, sym, ap, subst, ◌∙◌, append_assoc, append-nil}
use Rattle.std.specs.Prelude.{Option, Some, None}
use Rattle.timefd_lint_scan.specs.declared.piece.PlacedToken.{PlacedToken}
use Rattle.timefd_lint_scan.specs.declared.token.Step.{Step}
use Rattle.timefd_lint_scan.specs.Bytes.{Text}
use Rattle.timefd_lint_scan.specs.Tokens.{Begin, begun_any, first}
use Rattle.timefd_lint_scan.specs.Sources.{AreTokens}

-- Whatever tokens the rest has: together with the tokens so far they are the whole source.
pub record GoesOn (source : Text) (pieces : List PlacedToken) (rest : Text) : Type 0 where
  pub on : (ps : List PlacedToken) → AreTokens (length source) rest ps
      → AreTokens (length source) source (pieces ++ ps)

abbrev begun_as : Text → PlacedToken → Option Begin
begun_as rest p = Some (record { token = p.token; rest = rest })

pub at_first : (source : Text) → GoesOn source [] source
at_first source = record { on = λ ps tokens. tokens }

pub one_more : (source text : Text) (pieces more : List PlacedToken) (r : Option Step) (s : Step) (p : PlacedToken)
    → GoesOn source pieces text
    → begun_any r ≡ first text → r ≡ Some s
    → p ≡ record { token = s.token; start = length source - length text; end = length source - length s.rest.now }
    → more ≡ pieces ++ (p ∷ [])
    → GoesOn source more s.rest.now
one_more source text pieces more r s p so_far begin is piece pushed = record {
  on = λ ps tokens. subst (λ (x : List PlacedToken). AreTokens (length source) source (x ++ ps)) (sym pushed)
      (subst (AreTokens (length source) source) (sym (append_assoc pieces (p ∷ []) ps))
      (so_far.on (p ∷ ps) (
        s.rest.now,
        sym begin ∙ ap begun_any is ∙ ap (begun_as s.rest.now) (sym piece),
        ap (λ (q : PlacedToken). q.start) piece,
        ap (λ (q : PlacedToken). q.end) piece,
        tokens,
      )));
}

nothing_left : (text : Text) → None ≡ first text → text ≡ []
nothing_left [] e = refl
nothing_left (b ∷ bytes) e = absurd cc

pub at_last : (source text : Text) (pieces : List PlacedToken) (r : Option Step)
    → GoesOn source pieces text → begun_any r ≡ first text → r ≡ None
    → AreTokens (length source) source pieces
at_last source text pieces r so_far begin is =
    subst (AreTokens (length source) source) (append-nil pieces)
    (so_far.on [] (nothing_left text (sym (ap begun_any is) ∙ begin)))
