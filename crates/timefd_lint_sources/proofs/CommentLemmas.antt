-- What the comments of a source allow.
use Rattle.std.proofs.Common.{◌≡◌, ◌∙◌, List, [], ◌∷◌, ◌++◌, ap, inl, inr, refl, sym}
use Rattle.std.proofs.lemmas.Bool.{cases_Bool}
use Rattle.timefd_lint_scan.specs.declared.piece.PlacedToken.{PlacedToken}
use Rattle.timefd_lint_scan.specs.Bytes.{Text}
use Rattle.timefd_lint_scan.specs.Gathered.{AreComments, comment_kept, comments}
use Rattle.timefd_lint_scan.specs.Marks.{is_comment}
use Rattle.timefd_lint_sources.specs.declared.allowances.comment.Allowance.{Allowance}
use Rattle.timefd_lint_sources.specs.Allowances.Found.{AreByRust, in_token, in_tokens}

in_comments : (source : Text) (ps : List PlacedToken) → in_tokens source (comments ps) ≡ in_tokens source ps
in_comments source [] = refl
in_comments source (p ∷ ps) = elim (cases_Bool (is_comment p.token)) [
  | inl is ↦
      let one : comment_kept p ≡ p ∷ [] = rw is refl in
      ap (λ l. in_tokens source (l ++ comments ps)) one
      ∙ ap (λ found. in_token source p ++ found) (in_comments source ps)
  | inr not ↦
      let none : comment_kept p ≡ [] = rw not refl in
      let nothing : in_token source p ≡ [] = rw not refl in
      ap (λ l. in_tokens source (l ++ comments ps)) none
      ∙ (in_comments source ps ∙ ap (λ l. l ++ in_tokens source ps) (sym nothing))
]

-- What all comments allow is what all tokens allow.
pub by_comments : (source bytes : Text) (notes given : List PlacedToken) (none found : List Allowance)
    → AreComments source notes → bytes ≡ source → given ≡ notes → none ≡ []
    → found ≡ none ++ in_tokens bytes given → AreByRust source found
by_comments source bytes notes given none found are here same empty allowed = (
  are.all,
  are.tokens,
  allowed ∙ (ap (λ n. n ++ in_tokens bytes given) empty
      ∙ (ap (λ b. in_tokens b given) here ∙ (ap (in_tokens source) (same ∙ are.noted) ∙ in_comments source are.all))),
)
