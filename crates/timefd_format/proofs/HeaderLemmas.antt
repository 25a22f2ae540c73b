-- One more field of a header.
use Rattle.std.proofs.Common.{ℕ, suc, ◌≡◌, ◌∷◌, Bool, List, Option, Some, None, Result, Ok, Err, nat_eq, refl, sym, ap, subst, ◌∙◌}
use Rattle.std.specs.Cmp.Lexicographic.{pointwise}
use denote.Ref.{Bor}
use Rattle.timefd_lang_component.specs.Tree.{Text}
use Rattle.timefd_lint_rewrite.specs.Lines.{without_newline}
use Rattle.timefd_format.specs.declared.fields.Split.{Split}
use Rattle.timefd_format.specs.declared.header.HeaderError.{HeaderError}
use Rattle.timefd_format.specs.Fields.{IsSplit, fields, fields_of_rest, text_of}
use Rattle.timefd_format.specs.Records.{named_end, named_from, named_go, named_in, named_step, without_mark}

-- The result depends only on what is left.
pub Decides : Text → Text → Option ℕ → ℕ → Option (Bor Text) → Type 0
Decides name header found at more =
    named_from name found at (fields_of_rest more) ≡ named_in name header

pub starts : (name header : Text) (text : Bor Text) → text.now ≡ without_mark (without_newline header)
    → Decides name header None 0 (Some text)
unfolding Decides
starts name header text is = ap (λ t. named_from name None 0 (fields t)) is

pub goes_on : (name header text : Text) (found next : Option ℕ) (at more_at : ℕ) (rest : Bor Text)
    (more left : Option (Bor Text)) (split : Split) (has : Bool) (step : Result (Option ℕ) HeaderError)
    → Decides name header found at more → more ≡ Some rest → IsSplit rest.now split
    → text ≡ text_of split.field.now → has ≡ pointwise nat_eq text name
    → step ≡ named_step found at has → step ≡ Ok next → more_at ≡ suc at → left ≡ split.rest
    → Decides name header next more_at left
unfolding Decides
goes_on name header text found next at more_at rest more left split has step so_far some parts text_is
    has_is step_is ok at_is left_is =
    let all : named_from name found at (split.field.now ∷ fields_of_rest split.rest) ≡ named_in name header =
    ap (named_from name found at) (sym (ap fields_of_rest some ∙ parts.0)) ∙ so_far in
    let one : named_step found at (pointwise nat_eq (text_of split.field.now) name) ≡ Ok next =
    ap (λ t. named_step found at (pointwise nat_eq t name)) (sym text_is)
    ∙ ap (named_step found at) (sym has_is) ∙ sym step_is ∙ ok in
    ap (λ k. named_from name next k (fields_of_rest left)) at_is
    ∙ ap (λ l. named_from name next (suc at) (fields_of_rest l)) left_is
    ∙ ap (named_go (λ f. named_from name f (suc at) (fields_of_rest split.rest))) (sym one) ∙ all

pub is_done : (name header text : Text) (found : Option ℕ) (at : ℕ) (rest : Bor Text)
    (more : Option (Bor Text)) (split : Split) (has : Bool) (step : Result (Option ℕ) HeaderError)
    (e : HeaderError) → Decides name header found at more → more ≡ Some rest → IsSplit rest.now split
    → text ≡ text_of split.field.now → has ≡ pointwise nat_eq text name
    → step ≡ named_step found at has → step ≡ Err e → Err e ≡ named_in name header
unfolding Decides
is_done name header text found at rest more split has step e so_far some parts text_is has_is step_is err =
    let all : named_from name found at (split.field.now ∷ fields_of_rest split.rest) ≡ named_in name header =
    ap (named_from name found at) (sym (ap fields_of_rest some ∙ parts.0)) ∙ so_far in
    let one : named_step found at (pointwise nat_eq (text_of split.field.now) name) ≡ Err e =
    ap (λ t. named_step found at (pointwise nat_eq t name)) (sym text_is)
    ∙ ap (named_step found at) (sym has_is) ∙ sym step_is ∙ err in
    ap (named_go (λ f. named_from name f (suc at) (fields_of_rest split.rest))) (sym one) ∙ all

pub at_end : (name header : Text) (found : Option ℕ) (at : ℕ) (more : Option (Bor Text))
    → Decides name header found at more → more ≡ None → named_end found ≡ named_in name header
unfolding Decides
at_end name header found at more so_far none =
    sym (ap (λ m. named_from name found at (fields_of_rest m)) none) ∙ so_far
