-- The tokens that are looked at, in a walk over all tokens.
use Rattle.std.proofs.Common.{◌≡◌, ◌∙◌, ◌-◌, false, List, [], ◌∷◌, ◌++◌, ap, inl, inr, length, refl, sym}
use Rattle.std.proofs.lemmas.Bool.{cases_Bool}
use Rattle.std.proofs.lemmas.List.{flat_map_more}
use Rattle.std.specs.List.{flat_map}
use Rattle.std.specs.Option.{option_to_list}
use Rattle.std.specs.Prelude.{Option, Some, None}
use Rattle.timefd_lint_scan.specs.declared.piece.PlacedToken.{PlacedToken}
use Rattle.timefd_lint_scan.specs.declared.token.Step.{Step}
use Rattle.timefd_lint_scan.specs.Bytes.{Text}
use Rattle.timefd_lint_scan.specs.Candidates.{kept}
use Rattle.timefd_lint_scan.specs.Gathered.{AreComments, AreGathered, comment_kept, comments}
use Rattle.timefd_lint_scan.specs.Marks as spec
use Rattle.timefd_lint_scan.specs.Marks.{is_comment}
use Rattle.timefd_lint_scan.specs.Tokens.{begun_any, first}
use Rattle.timefd_lint_scan.proofs.PieceLemmas as tokens
use Rattle.timefd_lint_scan.proofs.PieceLemmas.{GoesOn}

-- What these functions keep of the tokens so far, in front of the rest of the source.
pub record AreKept (source : Text) (pieces notes : List PlacedToken) (rest : Text) : Type 0 where
  pub so_far : List PlacedToken
  pub on : GoesOn source so_far rest
  pub those : pieces ≡ flat_map kept so_far
  pub noted : notes ≡ flat_map comment_kept so_far

pub at_first : (source : Text) → AreKept source [] [] source
at_first source = record { so_far = []; on = tokens.at_first source; those = refl; noted = refl }

one_kept : (of : PlacedToken → List PlacedToken) (old now before : List PlacedToken) (p : PlacedToken) → now ≡ old ++ of p
    → old ≡ flat_map of before → now ≡ flat_map of (before ++ p ∷ [])
one_kept of old now before p pushed so_far =
    pushed ∙ (ap (λ x. x ++ of p) so_far ∙ flat_map_more of [] before p)

pub one_more : (source text : Text) (pieces notes more others : List PlacedToken) (r : Option Step) (s : Step) (p : PlacedToken)
    → AreKept source pieces notes text → begun_any r ≡ first text → r ≡ Some s
    → p ≡ record { token = s.token; start = length source - length text; end = length source - length s.rest.now }
    → more ≡ pieces ++ kept p → others ≡ notes ++ comment_kept p
    → AreKept source more others s.rest.now
one_more source text pieces notes more others r s p are begin is piece pushed noted = record {
  so_far = are.so_far ++ p ∷ [];
  on = tokens.one_more source text are.so_far (are.so_far ++ p ∷ []) r s p are.on begin is piece refl;
  those = one_kept kept pieces more are.so_far p pushed are.those;
  noted = one_kept comment_kept notes others are.so_far p noted are.noted;
}

pub at_last : (source text : Text) (pieces notes : List PlacedToken) (r : Option Step)
    → AreKept source pieces notes text → begun_any r ≡ first text → r ≡ None
    → AreGathered source pieces notes
at_last source text pieces notes r are begin is = record {
  all = are.so_far;
  tokens = tokens.at_last source text are.so_far r are.on begin is;
  kept = are.those;
  noted = are.noted;
}

-- The same for comments alone.
pub record AreNoted (source : Text) (notes : List PlacedToken) (rest : Text) : Type 0 where
  pub pieces : List PlacedToken
  pub are : AreKept source pieces notes rest

pub no_comments : (source : Text) → AreNoted source [] source
no_comments source = record { pieces = []; are = at_first source }

pub more_comments : (source text : Text) (notes others : List PlacedToken) (r : Option Step) (s : Step) (p : PlacedToken)
    → AreNoted source notes text → begun_any r ≡ first text → r ≡ Some s
    → p ≡ record { token = s.token; start = length source - length text; end = length source - length s.rest.now }
    → others ≡ notes ++ comment_kept p → AreNoted source others s.rest.now
more_comments source text notes others r s p are begin is piece noted = record {
  pieces = are.pieces ++ kept p;
  are = one_more source text are.pieces notes (are.pieces ++ kept p) others r s p are.are begin is piece refl noted;
}

pub all_comments : (source text : Text) (notes : List PlacedToken) (r : Option Step)
    → AreNoted source notes text → begun_any r ≡ first text → r ≡ None → AreComments source notes
all_comments source text notes r are begin is = record {
  all = are.are.so_far;
  tokens = tokens.at_last source text are.are.so_far r are.are.on begin is;
  noted = are.are.noted;
}

-- What only comments give is the same of all tokens.
pub of_comments : {Y : Type 0} (of : PlacedToken → List Y) → ((p : PlacedToken) → is_comment p.token ≡ false → of p ≡ [])
    → (ps : List PlacedToken) → flat_map of (comments ps) ≡ flat_map of ps
of_comments of none [] = refl
of_comments of none (p ∷ ps) = elim (cases_Bool (is_comment p.token)) [
  | inl is ↦ rw is (ap (λ ys. of p ++ ys) (of_comments of none ps))
  | inr not ↦ rw not (of_comments of none ps ∙ ap (λ ys. ys ++ flat_map of ps) (sym (none p not)))
]

no_mark : (source : Text) (p : PlacedToken) → is_comment p.token ≡ false → option_to_list (spec.mark_at source p) ≡ []
no_mark source p not = rw not refl

no_word : (source : Text) (p : PlacedToken) → is_comment p.token ≡ false → spec.unknown_mark source p ≡ []
no_word source p not = rw not refl

pub marks_are : (source : Text) (ps : List PlacedToken) → spec.marks source (comments ps) ≡ spec.marks source ps
marks_are source ps = of_comments (λ p. option_to_list (spec.mark_at source p)) (no_mark source) ps

pub words_are : (source : Text) (ps : List PlacedToken)
    → spec.unknown_marks source (comments ps) ≡ spec.unknown_marks source ps
words_are source ps = of_comments (spec.unknown_mark source) (no_word source) ps
