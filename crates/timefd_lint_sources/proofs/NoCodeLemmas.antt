-- The remarks on what comments allow, one after another.
use Rattle.std.proofs.Common.{ℕ, ◌≡◌, ◌≤◌, ◌-◌, true, false, List, [], ◌∷◌, ◌++◌, Result, Ok, Err, append_assoc, append-nil, arith, drop, get_or, inl, inr, refl, sym, ap, subst, take, ◌∙◌, length}
use Rattle.std.proofs.Math.Seq.{take-length}
use Rattle.std.specs.Prelude.{IfOk, option_map}
use Rattle.std.specs.declared.alloc.Global.{Global}
use Rattle.std.specs.declared.vec.Vec.{Vec}
use Rattle.timefd_parse.specs.Tree.{Text}
use Rattle.timefd_lint_diagnosis.specs.declared.diagnostic.Span.{Span}
use Rattle.timefd_lint_diagnosis.specs.Nearest.{IsNearest}
use Rattle.timefd_lint_drawing.specs.declared.draw.Style.{Style}
use Rattle.timefd_lint_sources.specs.declared.allowances.comment.Allowance.{Allowance}
use Rattle.timefd_lint_sources.specs.declared.no_code.NoCode.{NoCode}
use Rattle.timefd_lint_sources.specs.declared.remark.Remark.{Remark}
use Rattle.timefd_lint_sources.specs.declared.remark.Remark.TheVariants.{Code}
use Rattle.timefd_lint_sources.specs.declared.reported.SourceText.{SourceText}
use Rattle.timefd_lint_sources.specs.AtWord.{message}
use Rattle.timefd_lint_sources.specs.CodeNames.{description_codes, is_among}
use Rattle.timefd_lint_sources.specs.Remarks as spec
use Rattle.timefd_lint_sources.specs.Remarks.{AddsAll, AddsCode, AddsCodes, code_note, language_code, language_note, language_sentence, sentence_on, word_at, word_in}

-- A code has no remark, and anything else has one.
pub is_code : (source word : Text) (words : List Text) (a : Allowance) (old : List Remark)
    → word ≡ word_in source a.start a.end → is_among words word ≡ true → AddsCode source words a old old
is_code source word words a old same is =
    ([], inl (subst (λ w. is_among words w ≡ true) same is, refl), sym (append-nil old))

pub no_code : (source word : Text) (words : List Text) (a : Allowance) (at : NoCode) (old new : List Remark)
    → word ≡ word_in source a.start a.end → is_among words word ≡ false → at.start ≡ a.start → at.end ≡ a.end → IsNearest words word (option_map (λ w. w.now) at.nearest) → new ≡ old ++ Code at ∷ []
    → AddsCode source words a old new
no_code source word words a at old new same none start end near pushed = (
  Code at ∷ [],
  inr (
    at,
    record {
      none = subst (λ w. is_among words w ≡ false) same none;
      start = start;
      end = end;
      nearest = subst (λ w. IsNearest words w (option_map (λ n. n.now) at.nearest)) same near;
    },
    refl,
  ),
  pushed,
)

-- With the remarks on what is left, they are all.
pub record IsUpTo (source : Text) (words : List Text) (all left : List Allowance) (before now : List Remark)
    : Type 0 where
  pub others : (after : List Remark) → AddsAll source words left now after → AddsAll source words all before after

pub at_first : (source : Text) (words : List Text) (all : List Allowance) (before : List Remark)
    → IsUpTo source words all all before before
at_first source words all before = record { others = λ after adds. adds }

pub one_more : (source : Text) (words : List Text) (all left : List Allowance) (n : ℕ) (a d : Allowance)
    (before now next : List Remark) → n ≡ length left → 1 ≤ length left → a ≡ get_or left 0 d
    → AddsCode source words a now next → IsUpTo source words all left before now
    → IsUpTo source words all (take (n - 1) (drop 1 left)) before next
one_more source words all [] n a d before now next same some is adds so_far = absurd (omega (arith, some))
one_more source words all (first ∷ rest) n a d before now next same some is adds so_far =
    let few : n - 1 ≡ length rest = omega (arith, same) in
    let those : take (n - 1) rest ≡ rest = ap (λ k. take k rest) few ∙ take-length rest in
    let (one, on, pushed) : AddsCode source words first now next =
    subst (λ x. AddsCode source words x now next) is adds in
    subst (λ r. IsUpTo source words all r before next) (sym those)
    (record {
      others = λ after (more, are, added). so_far.others after (
        one ++ more,
        (one, more, on, are, refl),
        added ∙ ap (λ r. r ++ more) pushed ∙ append_assoc now one more,
      );
    })

pub at_last : (source : Text) (words : List Text) (all left : List Allowance) (before now : List Remark)
    → left ≡ [] → IsUpTo source words all left before now → AddsAll source words all before now
at_last source words all left before now none so_far =
    (subst (λ l. IsUpTo source words all l before now) none so_far).others now ([], refl, sym (append-nil now))

-- Without comments there are no remarks on them.
pub none_allowed : (s : SourceText) (old : List Remark) → s.allowances.now ≡ [] → AddsCodes s old old
none_allowed s old none =
    subst (λ l. AddsAll s.text.now description_codes l old old) (sym none) ([], refl, sym (append-nil old))

-- The messages on words in comments.

pub noted : {E : Type 0} (style : Style) (s : SourceText) (word : NoCode) (sentence : Text)
    (done : Result (Vec ℕ Global) E) → sentence ≡ sentence_on s.text.now word
    → IfOk done (λ m. m.items ≡ message style s (record { start = word.start; end = word.end }) spec.no_code sentence)
    → IfOk done (λ m. m.items ≡ code_note style s word)
noted style s word sentence (Ok m) same is =
    is ∙ ap (λ t. message style s (record { start = word.start; end = word.end }) spec.no_code t) same
noted style s word sentence (Err e) same is = tt

pub language_noted : {E : Type 0} (style : Style) (s : SourceText) (at : ℕ) (word : Span)
    (done : Result (Vec ℕ Global) E) → word ≡ word_at s.text.now at
    → IfOk done (λ m. m.items ≡ message style s word language_code language_sentence)
    → IfOk done (λ m. m.items ≡ language_note style s at)
language_noted style s at word (Ok m) same is =
    is ∙ ap (λ w. message style s w language_code language_sentence) same
language_noted style s at word (Err e) same is = tt
