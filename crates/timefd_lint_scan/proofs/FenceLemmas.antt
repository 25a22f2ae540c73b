-- A source without a fence has no examples.
use Rattle.std.proofs.Common.{ℕ, zero, suc, ◌≡◌, ◌∙◌, ◌+◌, ◌-◌, ◌<◌, ◌≤◌, ◌&&◌, ◌⊎◌, ◌++◌, Bool, true, false, not, List, [], ◌∷◌, ap, arith, codes, drop}
use Rattle.std.proofs.Common.{get_or, inl, inr, length, nat_lt, refl, subst, sym}
use Rattle.std.proofs.lemmas.Bool.{cases_Bool, eqb-true}
use Rattle.std.proofs.lemmas.Bool.Decides.{nat_tests}
use Rattle.std.proofs.lemmas.List.{get_or-drop, get_or-take, length-drop, length-take}
use Rattle.std.proofs.lemmas.List.Sums.{prefix_len-le-length, prefix_len_passes}
use Rattle.std.specs.Prelude.{Option, None, Some, ⊤, ◌==◌, if◌then◌else◌, nat_eq}
use Rattle.std.specs.List.{starts_with}
use Rattle.memchr.specs.Find.{OccursAt}
use Rattle.timefd_lint_scan.specs.declared.doc_tests.before.LineBefore.{LineBefore}
use Rattle.timefd_lint_scan.specs.declared.doc_tests.place.DocPlace.TheVariants.{Outside}
use Rattle.timefd_lint_scan.specs.declared.piece.PlacedToken.{PlacedToken}
use Rattle.timefd_lint_scan.specs.After.{after_run}
use Rattle.timefd_lint_scan.specs.Bytes.{Text, is_white}
use Rattle.timefd_lint_scan.specs.DocTests.{Line, TestCode, after_comment, code_from, count_of, goes_on, is_in_example, line_in, line_of, opened, opened_by}
use Rattle.timefd_lint_scan.specs.DocTests.{opened_in, opening_by, opens, place_after, place_next, place_of, sign_of, tests_from, tests_in}
use Rattle.timefd_lint_scan.specs.Literals.{cut}
use Rattle.timefd_lint_scan.specs.Names.{HasNoFence, Lacks}
use Rattle.timefd_lint_scan.proofs.InsideLemmas.{IsSuffix, cut_to, run_is_suffix}

-- A text stands in the source.
pub record IsWithin (source text : Text) : Type 0 where
  pub at : ℕ
  pub reads : (j : ℕ) → j < length text → (at + j < length source) × (get_or text j 0 ≡ get_or source (at + j) 0)

dropped : (source text : Text) (n : ℕ) → IsWithin source text → IsWithin source (drop n text)
dropped source text n w = record {
  at = w.at + n;
  reads = λ j below.
      let further : n + j < length text = omega (arith, below, length-drop n text) in
      let is = w.reads (n + j) further in
      let there : w.at + (n + j) ≡ w.at + n + j = omega arith in
      (omega (arith, is.0), get_or-drop n text j 0 ∙ is.1 ∙ ap (λ (k : ℕ). get_or source k 0) there);
}

of_token : (source comment : Text) (p : PlacedToken) → cut source p ≡ Some comment → IsWithin source comment
of_token source comment p is =
    let found = cut_to source p comment is in
    let size : length comment ≡ p.end - p.start =
    omega (arith, ap length found.2, length-take (p.end - p.start) (drop p.start source), length-drop p.start source, found.0, found.1) in
    record {
      at = p.start;
      reads = λ j below.
          let short : j < p.end - p.start = omega (arith, below, size) in (
            omega (arith, short, found.0, found.1),
            ap (λ t. get_or t j 0) found.2 ∙ get_or-take (p.end - p.start) (drop p.start source) j 0 short
                ∙ get_or-drop p.start source j 0,
          );
    }

after_white : (source text : Text) → IsWithin source text → IsWithin source (after_run is_white text)
after_white source text w =
    let suffix : IsSuffix text (after_run is_white text) = run_is_suffix is_white text in
    subst (IsWithin source) (sym suffix.1) (dropped source text suffix.0 w)

three_are : (sign j : ℕ) → j < 3 → get_or (sign ∷ sign ∷ sign ∷ []) j 0 ≡ sign
three_are sign zero below = refl
three_are sign (suc zero) below = refl
three_are sign (suc (suc zero)) below = refl
three_are sign (suc (suc (suc j))) below = absurd (omega (arith, below))

occurs : (source text : Text) (sign : ℕ) (w : IsWithin source text) → 3 ≤ count_of sign text
    → OccursAt source (sign ∷ sign ∷ sign ∷ []) w.at
occurs source text sign w enough =
    let long : 3 ≤ length text = omega (arith, enough, prefix_len-le-length (λ byte. byte == sign) text) in record {
      fits = omega (arith, (w.reads 2 (omega (arith, long))).0);
      reads = λ j below.
          sym (w.reads j (omega (arith, below, long))).1
          ∙ (eqb-true (get_or text j 0) sign
          (prefix_len_passes (λ byte. byte == sign) text j 0 (omega (arith, below, enough)))
          ∙ sym (three_are sign j below));
    }

no_opening : (source text : Text) (sign : ℕ) → Lacks source (sign ∷ sign ∷ sign ∷ []) → IsWithin source text
    → opening_by sign text ≡ None
no_opening source text sign lacks w = elim (cases_Bool (nat_lt (count_of sign text) 3)) [
  | inl pass ↦ rw pass refl
  | inr fail ↦
      let enough : 3 ≤ count_of sign text = grind (arith, nat_tests) in
      let here : OccursAt source (sign ∷ sign ∷ sign ∷ []) w.at = occurs source text sign w enough in
      absurd (lacks.nowhere w.at (omega arith) (omega (arith, here.fits)) here)
]

sign_is : (text : Text) → (sign_of text ≡ 96) ⊎ (sign_of text ≡ 126)
sign_is [] = inr refl
sign_is (b ∷ bytes) = elim (cases_Bool (b == 96)) [
  | inl pass ↦ inl (rw pass refl)
  | inr fail ↦ inr (rw fail refl)
]

opens_none : (source text : Text) → HasNoFence source → IsWithin source text → opened text ≡ Outside
opens_none source text none w = elim (sign_is text) [
  | inl is ↦ ap (λ (s : ℕ). opened_by (opening_by s text) text) is
      ∙ ap (λ o. opened_by o text) (no_opening source text 96 none.backticks w)
  | inr is ↦ ap (λ (s : ℕ). opened_by (opening_by s text) text) is
      ∙ ap (λ o. opened_by o text) (no_opening source text 126 none.tildes w)
]

abbrev LineWithin : Text → Option Line → Type 0
LineWithin source None = ⊤
LineWithin source (Some line) = IsWithin source line.text

line_within : (source comment : Text) (p : PlacedToken) → IsWithin source comment → LineWithin source (line_in p comment)
line_within source comment p w = elim (cases_Bool (starts_with nat_eq comment (codes "////"))) [
  | inl four ↦ rw four tt
  | inr not_four ↦ elim (cases_Bool (starts_with nat_eq comment (codes "///"))) [
    | inl outer ↦ rw (not_four, outer) (dropped source comment 3 w)
    | inr not_outer ↦ elim (cases_Bool (starts_with nat_eq comment (codes "//!"))) [
      | inl inner ↦ rw (not_four, not_outer, inner) (dropped source comment 3 w)
      | inr not_inner ↦ rw (not_four, not_outer, not_inner) tt
    ]
  ]
]

any_within : (source : Text) (p : PlacedToken) (comment : Option Text) → cut source p ≡ comment → LineWithin source (line_of p comment)
any_within source p None is = tt
any_within source p (Some comment) is = line_within source comment p (of_token source comment p is)

abbrev IsOutside : Option LineBefore → Type 0
IsOutside None = ⊤
IsOutside (Some before) = before.place ≡ Outside

place_is : (source : Text) (before : Option LineBefore) (line : Line) → IsOutside before → place_of source before line ≡ Outside
place_is source None line out = refl
place_is source (Some before) line out = elim (cases_Bool (goes_on source before line)) [
  | inl on ↦ rw on out
  | inr not_on ↦ rw not_on refl
]

next_is : (source : Text) (before : Option LineBefore) (line : Line) → HasNoFence source → IsOutside before
    → IsWithin source line.text → place_next source before line ≡ Outside
next_is source before line none out w =
    ap (λ place. place_after place line.text) (place_is source before line out)
    ∙ opens_none source (after_run is_white line.text) none (after_white source line.text w)

stays_outside : (source : Text) (before : Option LineBefore) (line : Option Line) → HasNoFence source → IsOutside before
    → LineWithin source line → IsOutside (after_comment source before line)
stays_outside source before None none out w = tt
stays_outside source before (Some line) none out w = next_is source before line none out w

and_false : (b : Bool) → (b && false) ≡ false
and_false true = refl
and_false false = refl

no_such : (b : Bool) (es : List TestCode) → b ≡ false → (if b then es else []) ≡ []
no_such true es is = absurd cc
no_such false es is = refl

none_opened : (source : Text) (before : Option LineBefore) (line : Option Line) (code : Text) → HasNoFence source → IsOutside before
    → LineWithin source line → opened_in source before line code ≡ []
none_opened source before None code none out w = refl
none_opened source before (Some line) code none out w =
    no_such (opens source before line) (record { start = line.piece.end; code = code } ∷ [])
    (ap (λ place. not (is_in_example (place_of source before line)) && is_in_example place) (next_is source before line none out w)
    ∙ and_false (not (is_in_example (place_of source before line))))

none_from : (source : Text) (before : Option LineBefore) (cs : List PlacedToken) → HasNoFence source → IsOutside before
    → tests_from source before cs ≡ []
none_from source before [] none out = refl
none_from source before (c ∷ cs) none out =
    let line : Option Line = line_of c (cut source c) in
    let w : LineWithin source line = any_within source c (cut source c) refl in
    let next : Option LineBefore = after_comment source before line in
    ap (λ es. es ++ tests_from source next cs) (none_opened source before line (code_from source next cs) none out w)
    ∙ none_from source next cs none (stays_outside source before line none out w)

pub no_example : (source : Text) (notes : List PlacedToken) → HasNoFence source → tests_in source notes ≡ []
no_example source notes none = none_from source None notes none tt
