-- Notes on values of keys that are rewritten.
use Rattle.std.proofs.Common.{ℕ, ◌≡◌, ◌<◌, ◌≤◌, ◌+◌, ◌∷◌, ◌++◌, ◌⊎◌, [], List, append-nil, arith, drop, get_or, inl, inr, length, min, refl, sym, ap, subst, ◌∙◌}
use Rattle.std.specs.Prelude.{IsUtf8, Option, None, Some}
use Rattle.std.proofs.lemmas.Bool.{cases_lt}
use Rattle.std.proofs.lemmas.List.{drop_all, drop_more}
use Rattle.timefd_parse.specs.Tree.{Text}
use Rattle.timefd_lang_dialect.specs.declared.dialect.Dialect.{Dialect}
use Rattle.timefd_lint_drawing.specs.Positions.{line_number}
use Rattle.timefd_lint_drawing.specs.Shown.{safe}
use Rattle.timefd_lint_rewrite.specs.declared.layout.Layout.{Layout}
use Rattle.timefd_lint_rewrite.specs.declared.line_change.LineChange.{LineChange}
use Rattle.timefd_lint_rewrite.specs.declared.line_change.LineChange.TheVariants.{Own, Other}
use Rattle.timefd_lint_scan.specs.declared.description.SourceDescription.{SourceDescription}
use Rattle.timefd_lint_sources.specs.Judged.{text_of}
use Rattle.timefd_lint_sources.specs.Rewriting.Values.{value_change}
use Rattle.timefd_lint_sources.specs.declared.rewriting.change.Change.{Change}
use Rattle.timefd_lint.specs.Limited.{AddsTextNote}
use Rattle.timefd_lint_sources.specs.declared.rewriting.outcome.Outcome.{Outcome}
use Rattle.timefd_lint.specs.ValueNotes.{AddsLimits, AddsLimitsBy, AreLimits, AreLimitsIn, unwritable, unwritable_in}

pub of_none : (change : Change) (file source : Text) (d : SourceDescription) (before : Text) (found : Option LineChange)
    → found ≡ value_change change d.dialect → found ≡ None → AddsLimits change file source d before before
of_none change file source d before found is none =
    subst (λ (x : Option LineChange). AddsLimitsBy x file source d before before) (sym none ∙ is) refl

pub of_own : (change : Change) (file source : Text) (d : SourceDescription) (before : Text) (found : Option LineChange)
    (layout : Layout) → found ≡ value_change change d.dialect → found ≡ Some (Own layout)
    → AddsLimits change file source d before before
of_own change file source d before found layout is some =
    subst (λ (x : Option LineChange). AddsLimitsBy x file source d before before) (sym some ∙ is) refl

pub of_other : (change : Change) (file source : Text) (d : SourceDescription) (before after text : Text)
    (found : Option LineChange) (dialect : Dialect) (line : ℕ) → found ≡ value_change change d.dialect
    → found ≡ Some (Other dialect) → text ≡ text_of d → IsUtf8 text → line ≡ line_number 1 source d.piece.start
    → AddsTextNote dialect file line text before after → AddsLimits change file source d before after
of_other change file source d before after text found dialect line is some same utf8 at added =
    subst (λ (x : Option LineChange). AddsLimitsBy x file source d before after) (sym some ∙ is)
    (inl (
      subst (λ (t : Text). IsUtf8 t) same utf8,
      subst (λ (n : ℕ). AddsTextNote dialect file n (text_of d) before after) at
          (subst (λ (t : Text). AddsTextNote dialect file line t before after) same added),
    ))

pub of_no_text : (change : Change) (file source : Text) (d : SourceDescription) (before text : Text)
    (found : Option LineChange) (dialect : Dialect) → found ≡ value_change change d.dialect
    → found ≡ Some (Other dialect) → text ≡ text_of d → ¬ IsUtf8 text → AddsLimits change file source d before before
of_no_text change file source d before text found dialect is some same none =
    subst (λ (x : Option LineChange). AddsLimitsBy x file source d before before) (sym some ∙ is)
    (inr (subst (λ (t : Text). ¬ IsUtf8 t) same none, refl))

-- The notes so far, followed by those on the values that are left, are all notes.
pub record AreLimitsTo (change : Change) (file source : Text) (all left : List SourceDescription) (notes : Text) : Type 0
  where
    pub others : (more : Text) → AreLimitsIn change file source left notes more
        → AreLimitsIn change file source all [] more

pub none_yet : (change : Change) (file source : Text) (all : List SourceDescription) (notes : Text) → notes ≡ []
    → AreLimitsTo change file source all all notes
none_yet change file source all notes none =
    record { others = λ more are. subst (λ (t : Text). AreLimitsIn change file source all t more) none are }

pub one_more : (change : Change) (file source : Text) (all : List SourceDescription) (i : ℕ) (d other : SourceDescription)
    (before after : Text) → i < length all → d ≡ get_or all i other
    → AreLimitsTo change file source all (drop i all) before → AddsLimits change file source d before after
    → AreLimitsTo change file source all (drop (i + 1) all) after
one_more change file source all i d other before after below is so_far adds =
    let left : drop i all ≡ d ∷ drop (i + 1) all =
    drop_more all i other below ∙ ap (λ x. x ∷ drop (i + 1) all) (sym is) in
    let now : AreLimitsTo change file source all (d ∷ drop (i + 1) all) before =
    subst (λ l. AreLimitsTo change file source all l before) left so_far in
    record { others = λ more are. now.others more (after, adds, are) }

pub at_last : (change : Change) (name file source : Text) (all : List SourceDescription) (i : ℕ) (notes : Text)
    → file ≡ safe name → length all ≤ i → AreLimitsTo change file source all (drop i all) notes
    → AreLimits change name source all [] notes
at_last change name file source all i notes same none so_far =
    subst (λ (f : Text). AreLimitsIn change f source all [] notes) same
    ((subst (λ l. AreLimitsTo change file source all l notes) (drop_all i all none) so_far).others notes refl)

-- Nothing is left of the values, or of their outcomes.
no_outcome : (file source : Text) (ds : List SourceDescription) → unwritable_in file source ds [] ≡ []
no_outcome file source [] = refl
no_outcome file source (d ∷ ds) = refl

none_left : (file source : Text) (ds : List SourceDescription) (os : List Outcome) (n : ℕ)
    → ((n < length ds) ⊎ (length ds ≤ n)) → min (length ds) (length os) ≤ n
    → unwritable_in file source (drop n ds) (drop n os) ≡ []
none_left file source ds os n (inl more) end =
    ap (unwritable_in file source (drop n ds)) (drop_all n os (omega (arith, more, end)))
    ∙ no_outcome file source (drop n ds)
none_left file source ds os n (inr none) end =
    ap (λ (left : List SourceDescription). unwritable_in file source left (drop n os)) (drop_all n ds none)

pub all_said : (name file source : Text) (ds : List SourceDescription) (os : List Outcome) (n count : ℕ) (notes : Text)
    → file ≡ safe name → count ≡ min (length ds) (length os) → (n < count → ⊥)
    → notes ++ unwritable_in file source (drop n ds) (drop n os) ≡ unwritable_in file source ds os
    → notes ≡ unwritable name source ds os
all_said name file source ds os n count notes same least end so_far =
    sym (append-nil notes)
    ∙ ap (λ (t : Text). notes ++ t)
    (sym (none_left file source ds os n (cases_lt n (length ds)) (omega (arith, least, end))))
    ∙ so_far ∙ ap (λ (f : Text). unwritable_in f source ds os) same
