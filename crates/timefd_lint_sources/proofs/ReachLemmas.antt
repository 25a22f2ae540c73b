-- Which line a comment alone in its line is about.
use Rattle.std.proofs.Common.{ℕ, ◌≡◌, ◌⊎◌, ◌∙◌, ◌+◌, ◌<◌, Bool, true, false, not, ◌&&◌, ◌==◌, [], ◌∷◌, ap, arith, inl, inr, length, length-append, refl, subst, sym}
use Rattle.std.proofs.lemmas.Bool.{and_cases, and_parts, cases_Bool, false≢true}
use Rattle.std.proofs.lemmas.Bool.Decides.{nat_tests}
use Rattle.timefd_lint_scan.specs.Bytes.{Text, line_feed}
use Rattle.timefd_lint_sources.specs.declared.allowances.comment.CommentSign.{CommentSign}
use Rattle.timefd_lint_sources.specs.Allowances.Comments.{IsCovered, IsLaterLine, ReachesFirstOther, covered, is_mark_line}

-- The line after the first byte, or a later line of what follows it.
later : (b : ℕ) (rest line : Text) → IsLaterLine (b ∷ rest) line
    → ((b ≡ line_feed) × (line ≡ rest)) ⊎ IsLaterLine rest line
later b rest line ([], is) = inl (cc, cc)
later b rest line (c ∷ front, is) = inr (front, cc)

shorter : (rest line : Text) → IsLaterLine rest line → length line < length rest
shorter rest line (front, is) =
    let whole : length rest ≡ length front + length (line_feed ∷ line) =
    ap length is ∙ length-append front (line_feed ∷ line) in
    omega (arith, whole)

farther : (b : ℕ) (rest line : Text) → IsLaterLine rest line → IsLaterLine (b ∷ rest) line
farther b rest line (front, is) = (b ∷ front, ap (λ r. b ∷ r) is)

is_marked : (m : Bool) → not m ≡ false → m ≡ true
is_marked true e = refl
is_marked false e = absurd (false≢true (sym e))

is_other : (m : Bool) → not m ≡ true → m ≡ false
is_other true e = absurd (false≢true e)
is_other false e = refl

-- The line after the first byte has only such a comment, if that byte ends a line and doesn't count.
first_marked : (sign : CommentSign) (b : ℕ) (rest line : Text) → ((b == line_feed) && not (is_mark_line sign rest)) ≡ false
    → b ≡ line_feed → line ≡ rest → is_mark_line sign line ≡ true
first_marked sign b rest line passed ends same = elim (and_cases (b == line_feed) (not (is_mark_line sign rest)) passed) [
  | inl off ↦ absurd (grind (arith, nat_tests, off, ends))
  | inr off ↦ subst (λ l. is_mark_line sign l ≡ true) (sym same) (is_marked (is_mark_line sign rest) off)
]

all_marked : (sign : CommentSign) (b : ℕ) (rest line : Text) → ((b == line_feed) && not (is_mark_line sign rest)) ≡ false
    → IsLaterLine (b ∷ rest) line → (IsLaterLine rest line → is_mark_line sign line ≡ true)
    → is_mark_line sign line ≡ true
all_marked sign b rest line passed is others = elim (later b rest line is) [
  | inl here ↦ first_marked sign b rest line passed here.0 here.1
  | inr there ↦ others there
]

passed_on : (sign : CommentSign) (b : ℕ) (rest line : Text) → ((b == line_feed) && not (is_mark_line sign rest)) ≡ false
    → IsCovered sign rest line → IsCovered sign (b ∷ rest) line
passed_on sign b rest line passed (inl other) = inl (record {
  is = farther b rest line other.is;
  other = other.other;
  first = λ l is longer. all_marked sign b rest l passed is (λ there. other.first l there longer);
})
passed_on sign b rest line passed (inr (none, all)) =
    inr (none, λ l is. all_marked sign b rest l passed is (all l))

found_here : (sign : CommentSign) (b : ℕ) (rest : Text) → b ≡ line_feed → is_mark_line sign rest ≡ false
    → IsCovered sign (b ∷ rest) rest
found_here sign b rest ends other = inl (record {
  is = ([], ap (λ c. c ∷ rest) ends);
  other = other;
  first = λ l is longer. elim (later b rest l is) [
    | inl here ↦ absurd (omega (arith, longer, ap length here.1))
    | inr there ↦ absurd (omega (arith, longer, shorter rest l there))
  ];
})

-- The first byte ends a line, and the next one has something else, or the first byte doesn't matter.
pub covers : ReachesFirstOther
covers sign [] = inr (refl, λ l is. absurd (omega (arith, shorter [] l is)))
covers sign (b ∷ rest) = elim (cases_Bool ((b == line_feed) && not (is_mark_line sign rest))) [
  | inl here ↦
      let next : covered sign (b ∷ rest) ≡ rest = rw here refl in
      let both : ((b == line_feed) ≡ true) × (not (is_mark_line sign rest) ≡ true) = and_parts _ _ here in
      subst (IsCovered sign (b ∷ rest)) (sym next)
      (found_here sign b rest (grind (arith, nat_tests, both.0)) (is_other (is_mark_line sign rest) both.1))
  | inr passed ↦
      let next : covered sign (b ∷ rest) ≡ covered sign rest = rw passed refl in
      subst (IsCovered sign (b ∷ rest)) (sym next)
      (passed_on sign b rest (covered sign rest) passed (covers sign rest))
]
