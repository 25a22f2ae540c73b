-- What is left out of a text, and what is wrong with the rest.
use Rattle.std.proofs.Common.{ℕ, zero, suc, ◌+◌, ◌-◌, ◌≡◌, ◌≢◌, ◌<◌, ◌≤◌, ◌==◌, true, false, List, [], ◌∷◌, ◌++◌, length, take, drop, get_or, Option, Some, None, refl, sym, ap, subst, ◌∙◌, arith, append_assoc, append-nil}
use Rattle.std.specs.Prelude.{option_map}
use Rattle.std.specs.Str.{IsCharBoundary}
use Rattle.std.specs.Borrow.{Bor}
use Rattle.std.specs.Str.Pattern.{FindsCharPrefix, RFindsChar}
use Rattle.std.specs.List.{list_all}
use Rattle.std.specs.Path.{rfind_below}
use mathlib.Core.Logic.{inl, inr}
use Rattle.std.proofs.lemmas.Bool.{and_parts, cases_lt}
use Rattle.std.proofs.lemmas.Bool.Decides.{nat_tests}
use Rattle.std.proofs.lemmas.Str.Pattern.{rfind_char, strip_prefix_char}
use Rattle.timefd_parse.specs.Tree.{Text, Tree}
use Rattle.timefd_lang_fault.specs.Faults.{fault_of}
use Rattle.timefd_language.specs.Bytes.{left, right, backslash, is_special, is_run_byte, ZeroOrMore, StopsBefore}
use Rattle.timefd_language.specs.Cut.{IsCut}
use Rattle.timefd_language.proofs.Spans.{special_cases}
use Rattle.timefd_language.specs.Grammar.{nesting_limit}
use Rattle.timefd_language.specs.declared.description_version.DescriptionVersion.TheVariants.{Three}
use Rattle.timefd_language.specs.declared.description_version.Language.{Language}
use Rattle.timefd_parse.specs.Language.{SpellsIn, FaultIn}
use Rattle.timefd_lint_diagnosis.specs.declared.diagnostic.Diagnostic.{Diagnostic}
use Rattle.timefd_lint_diagnosis.specs.Diagnoses.{IsDiagnosed, IsDiagnosis}
use Rattle.timefd_lint_diagnosis.specs.Further.{AreFurther, before_last, after_closing, closed, opened, without}

-- The last byte of a kind.

same_byte : (b : ℕ) → (b == b) ≡ true
same_byte b = grind (arith, nat_tests)

other_byte : (a b : ℕ) → a ≢ b → (a == b) ≡ false
other_byte a b e = grind (arith, nat_tests)

found_below : (byte : ℕ) (text : Text) (n k : ℕ) → k < n → get_or text k 0 ≡ byte
    → ((i : ℕ) → k < i → i < n → get_or text i 0 ≢ byte) → rfind_below byte text n ≡ Some k
found_below byte text zero k below at last = absurd (omega (arith, below))
found_below byte text (suc n) k below at last = elim (cases_lt k n) [
  | inl before ↦ rw (other_byte (get_or text n 0) byte (last n before (omega arith)))
      (found_below byte text n k before at (λ i after within. last i after (omega (arith, within))))
  | inr after ↦ here n k (omega (arith, below, after)) at
]
  where
    here : (n k : ℕ) → k ≡ n → get_or text k 0 ≡ byte → rfind_below byte text (suc n) ≡ Some k
    here n k is at =
        subst (λ m. rfind_below byte text (suc n) ≡ Some m) (sym is)
        (rw (subst (λ m. get_or text m 0 ≡ byte) is at) (rw (same_byte byte) refl))

none_below : (byte : ℕ) (text : Text) (n : ℕ) → ((i : ℕ) → i < n → get_or text i 0 ≢ byte)
    → rfind_below byte text n ≡ None
none_below byte text zero none = refl
none_below byte text (suc n) none =
    rw (other_byte (get_or text n 0) byte (none n (omega arith)))
    (none_below byte text n (λ i within. none i (omega (arith, within))))

pub last_of : (byte : ℕ) (front before : Text) (k : ℕ) → byte < 128
    → (j : ℕ) × RFindsChar byte front (Some (k, j)) × (k ≤ j) × IsCharBoundary front k × IsCharBoundary front j
    → before ≡ take k front → before_last byte front ≡ Some before
last_of byte front before k ascii found is =
    let at = rfind_char byte front (Some k) found ascii in
    ap (λ r. option_map (λ i. take i front) r) (found_below byte front (length front) k at.0 at.1 at.2)
    ∙ ap Some (sym is)

pub none_of : (byte : ℕ) (front : Text) → byte < 128 → RFindsChar byte front None
    → before_last byte front ≡ None
none_of byte front ascii none =
    ap (λ r. option_map (λ i. take i front) r)
    (none_below byte front (length front) (rfind_char byte front None none ascii))

-- What is at an index, and before it.

pub opened_at : (byte : ℕ) (front rest after : Text) → rest ≡ byte ∷ after
    → opened byte front rest ≡ Some (front, after)
opened_at byte front rest after is =
    subst (λ r. opened byte front r ≡ Some (front, after)) (sym is) (rw (same_byte byte) refl)

pub opened_before : (byte : ℕ) (front rest : Text) → ((after : Text) → rest ≢ byte ∷ after)
    → opened byte front rest ≡ option_map (λ before. (before, rest)) (before_last byte front)
opened_before byte front [] other = refl
opened_before byte front (b ∷ rest) other =
    rw (other_byte b byte (λ e. other rest (ap (λ x. x ∷ rest) e))) refl

-- The end of a bracket.

run_special : (b : ℕ) → is_run_byte Three b ≡ false → is_special b ≡ true
run_special b e = grind (arith, nat_tests)

run_open : (b : ℕ) → is_run_byte Three b ≡ true
    → ((b == right) ≡ false) × ((b == left) ≡ false) × ((b == backslash) ≡ false)
run_open b e = (grind (arith, nat_tests), grind (arith, nat_tests), grind (arith, nat_tests))

passed_over : (inside rest : Text) → ZeroOrMore (is_run_byte Three) inside
    → after_closing (inside ++ rest) ≡ after_closing rest
passed_over [] rest passes = refl
passed_over (b ∷ inside) rest passes =
    let both = and_parts (is_run_byte Three b) (list_all (is_run_byte Three) inside) passes in
    let parts = run_open b both.0 in
    rw (parts.0, parts.1, parts.2) (passed_over inside rest both.1)

pub closing : (text inside rest after : Text) → IsCut (is_run_byte Three) text inside rest
    → rest ≡ right ∷ after → after_closing text ≡ Some after
closing text inside rest after parts is =
    ap after_closing parts.whole ∙ passed_over inside rest parts.passes ∙ ap after_closing is

none_closing : (rest : Text) → StopsBefore (is_run_byte Three) rest
    → ((after : Text) → rest ≢ right ∷ after) → after_closing rest ≡ None
none_closing [] stops other = refl
none_closing (b ∷ rest) stops other = elim (special_cases b (run_special b stops)) [
  | inl is ↦ subst (λ x. after_closing (x ∷ rest) ≡ None) (sym is) refl
  | inr (inl is) ↦ absurd (other rest (ap (λ x. x ∷ rest) is))
  | inr (inr is) ↦ subst (λ x. after_closing (x ∷ rest) ≡ None) (sym is) refl
]

pub not_closing : (text inside rest : Text) → IsCut (is_run_byte Three) text inside rest
    → ((after : Text) → rest ≢ right ∷ after) → after_closing text ≡ None
not_closing text inside rest parts other =
    ap after_closing parts.whole ∙ passed_over inside rest parts.passes
    ∙ none_closing rest parts.stops other

-- Faults, one after another.

-- What is wrong with the rest comes after what was found so far.
pub record IsFoundTo (most count : ℕ) (language : Language) (start rest : Option Text)
    (found : List Diagnostic) : Type 0 where
  pub others : (n : ℕ) → n + count ≡ most → (ds : List Diagnostic) → AreFurther n language rest ds
      → AreFurther most language start (found ++ ds)

pub at_first : (most : ℕ) (language : Language) (start : Option Text)
    → IsFoundTo most 0 language start start []
at_first most language start = record {
  others = λ n is ds are.
      subst (λ k. AreFurther k language start ds) (all n most is) are;
}
  where
    all : (n most : ℕ) → n + 0 ≡ most → n ≡ most
    all n most is = omega (arith, is)

pub one_more : (most count : ℕ) (language : Language) (start rest rest' : Option Text)
    (found found' : List Diagnostic) (text : Text) (d : Diagnostic) → rest ≡ Some text
    → FaultIn language nesting_limit text (fault_of d.fault) → IsDiagnosis language text d
    → rest' ≡ without language text (fault_of d.fault) → found' ≡ found ++ d ∷ []
    → IsFoundTo most count language start rest found
    → IsFoundTo most (count + 1) language start rest' found'
one_more most count language start rest rest' found found' text d is faulty diagnosed left more so_far =
    let so_far' : IsFoundTo most count language start (Some text) found =
    subst (λ r. IsFoundTo most count language start r found) is so_far in
    record {
      others = λ n sum ds are.
          subst (AreFurther most language start)
          (sym (append_assoc found (d ∷ []) ds) ∙ ap (λ x. x ++ ds) (sym more))
          (so_far'.others (suc n) (longer n count most sum) (d ∷ ds) (
            record { fault = faulty; diagnosis = diagnosed },
            subst (λ r. AreFurther n language r ds) left are,
          ));
    }
  where
    longer : (n count most : ℕ) → n + (count + 1) ≡ most → suc n + count ≡ most
    longer n count most is = omega (arith, is)

so_many : (most count : ℕ) → count ≤ most → most - count + count ≡ most
so_many most count within = omega (arith, within)

all_of : (most n : ℕ) (language : Language) (start rest : Option Text) (found : List Diagnostic)
    (count : ℕ) → n + count ≡ most → AreFurther n language rest []
    → IsFoundTo most count language start rest found → AreFurther most language start found
all_of most n language start rest found count sum none so_far =
    subst (AreFurther most language start) (append-nil found) (so_far.others n sum [] none)

pub nothing_left : (most count : ℕ) (language : Language) (start rest : Option Text)
    (found : List Diagnostic) → count < most → rest ≡ None
    → IsFoundTo most count language start rest found → AreFurther most language start found
nothing_left most count language start rest found below is so_far =
    all_of most (most - count) language start rest found count (so_many most count (omega (arith, below)))
    (subst (λ r. AreFurther (most - count) language r []) (sym is) (none (most - count))) so_far
  where
    none : (n : ℕ) → AreFurther n language None []
    none zero = refl
    none (suc n) = refl

pub accepted : (most count : ℕ) (language : Language) (start rest : Option Text)
    (found : List Diagnostic) (text : Text) → count < most → rest ≡ Some text
    → ((list : List Tree) × SpellsIn language nesting_limit text list)
    → IsFoundTo most count language start rest found → AreFurther most language start found
accepted most count language start rest found text below is spelled so_far =
    all_of most (most - count) language start rest found count (so_many most count (omega (arith, below)))
    (subst (λ r. AreFurther (most - count) language r []) (sym is) (none (most - count))) so_far
  where
    none : (n : ℕ) → AreFurther n language (Some text) []
    none zero = refl
    none (suc n) = spelled

pub enough : (most count : ℕ) (language : Language) (start rest : Option Text)
    (found : List Diagnostic) → count ≡ most
    → IsFoundTo most count language start rest found → AreFurther most language start found
enough most count language start rest found is so_far =
    all_of most 0 language start rest found count (sum most count is) refl so_far
  where
    sum : (most count : ℕ) → count ≡ most → 0 + count ≡ most
    sum most count is = omega (arith, is)

-- The faults, as the code finds them.

pub nothing_opens : (byte : ℕ) (front rest : Text) → byte < 128 → FindsCharPrefix byte rest None
    → RFindsChar byte front None → opened byte front rest ≡ None
nothing_opens byte front rest ascii other none =
    opened_before byte front rest (strip_prefix_char byte rest None other ascii)
    ∙ ap (λ r. option_map (λ before. (before, rest)) r) (none_of byte front ascii none)

pub opens_before : (byte : ℕ) (front rest before : Text) (k : ℕ) → byte < 128
    → FindsCharPrefix byte rest None
    → (j : ℕ) × RFindsChar byte front (Some (k, j)) × (k ≤ j) × IsCharBoundary front k × IsCharBoundary front j
    → before ≡ take k front → opened byte front rest ≡ Some (before, rest)
opens_before byte front rest before k ascii other found is =
    opened_before byte front rest (strip_prefix_char byte rest None other ascii)
    ∙ ap (λ r. option_map (λ before. (before, rest)) r) (last_of byte front before k ascii found is)

pub not_closed : (before text inside rest : Text) → IsCut (is_run_byte Three) text inside rest
    → FindsCharPrefix right rest None → closed (before, text) ≡ None
not_closed before text inside rest parts other =
    ap (λ r. option_map (λ after. (before, after)) r)
    (not_closing text inside rest parts (strip_prefix_char right rest None other (omega arith)))

pub is_closed : (before text inside rest : Text) (after : Bor (List ℕ))
    → IsCut (is_run_byte Three) text inside rest
    → (n : ℕ) × FindsCharPrefix right rest (Some n) × (after.now ≡ drop n rest) × (length after.now + n ≡ length rest)
    → closed (before, text) ≡ Some (before, after.now)
is_closed before text inside rest after parts found =
    ap (λ r. option_map (λ after. (before, after)) r)
    (closing text inside rest after.now parts
    (strip_prefix_char right rest (Some after) found (omega arith)))

pub accepted_rest : (most count : ℕ) (language : Language) (start rest : Option Text)
    (found : List Diagnostic) (left text : Text) → count < most → rest ≡ Some left → text ≡ left
    → ((list : List Tree) × SpellsIn language nesting_limit text list)
    → IsFoundTo most count language start rest found → AreFurther most language start found
accepted_rest most count language start rest found left text below is same spelled so_far =
    accepted most count language start rest found text below (is ∙ ap Some (sym same)) spelled so_far
