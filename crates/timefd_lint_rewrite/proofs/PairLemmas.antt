-- The lines of two texts, read side by side.
use Rattle.std.proofs.Common.{ℕ, suc, ◌≡◌, ◌≢◌, ◌<◌, ◌≤◌, ◌+◌, ◌-◌, ◌==◌, ◌++◌, ◌∷◌, Bool, true, false, [], List, drop, length, map, take, refl, sym, ap, subst, ◌∙◌, arith, eqb-true}
use Rattle.std.proofs.lemmas.List.{map_push}
use Rattle.std.specs.Io.BufRead.{drop_through, take_through}
use Rattle.timefd_parse.specs.Tree.{Text}
use Rattle.timefd_lint_rewrite.specs.Diffs.{AreSideBySide, AreUpTo, Line, line_of, lines_of}
use Rattle.timefd_lint_rewrite.specs.declared.pairs.Pair.{Pair}

shorter_by : (b : ℕ) (text : Text) (is : Bool) → (b == 10) ≡ is
    → length (drop_through 10 text) ≤ length text → length (drop_through 10 (b ∷ text)) ≤ length text
shorter_by b text true is rest = rw is (omega arith)
shorter_by b text false is rest = rw is rest

-- What follows a line is shorter.
pub shorter : (b : ℕ) (text : Text) → length (drop_through 10 (b ∷ text)) ≤ length text
shorter b [] = shorter_by b [] (b == 10) refl (omega arith)
shorter b (next ∷ text) =
    shorter_by b (next ∷ text) (b == 10) refl (omega (arith, shorter next text))

pub at_most : (text : Text) → length (drop_through 10 text) ≤ length text
at_most [] = omega arith
at_most (b ∷ text) = omega (arith, shorter b text)

pub fewer : (text rest : Text) (is : Bool) → is ≡ (length text == 0) → is ≡ false
    → rest ≡ drop_through 10 text → length rest < length text
fewer [] rest is none some after = absurd cc
fewer (b ∷ text) rest is none some after = omega (arith, ap length after, shorter b text)

some_left : (text : Text) (is : Bool) → is ≡ (length text == 0) → is ≡ false → text ≢ []
some_left [] is none some = absurd cc
some_left (b ∷ text) is none some = λ empty. absurd cc

nothing_left : (text : Text) (is : Bool) → is ≡ (length text == 0) → is ≡ true → text ≡ []
nothing_left [] is none so = refl
nothing_left (b ∷ text) is none so =
    absurd (omega (arith, eqb-true (length (b ∷ text)) 0 (sym none ∙ so)))

first_by : (b : ℕ) (text : Text) (is : Bool) → (b == 10) ≡ is
    → take (length text - length (drop_through 10 text)) text ≡ take_through 10 text
    → take (length (b ∷ text) - length (drop_through 10 (b ∷ text))) (b ∷ text)
    ≡ take_through 10 (b ∷ text)
first_by b text true is rest =
    let one : length (b ∷ text) - length text ≡ 1 = omega arith in
    rw is (ap (λ n. take n (b ∷ text)) one)
first_by b text false is rest =
    let more : length (b ∷ text) - length (drop_through 10 text)
    ≡ suc (length text - length (drop_through 10 text)) = omega (arith, at_most text) in
    rw is (ap (λ n. take n (b ∷ text)) more ∙ ap (λ bs. b ∷ bs) rest)

-- The first line is what stands before the rest.
pub first : (text : Text) → take (length text - length (drop_through 10 text)) text ≡ take_through 10 text
first [] = refl
first (b ∷ text) = first_by b text (b == 10) refl (first text)

pub none_yet : (old new : Text) → AreUpTo old new [] old new
none_yet old new = (refl, refl)

up_to_more : (old new : Text) (lines : List Line) (old_rest new_rest : Text) (line : Line)
    → old_rest ≢ [] → line.old ≡ take_through 10 old_rest → line.new ≡ take_through 10 new_rest
    → AreUpTo old new lines old_rest new_rest
    → AreUpTo old new (lines ++ line ∷ []) (drop_through 10 old_rest) (drop_through 10 new_rest)
up_to_more old new [] old_rest new_rest line some before after same = (
  λ empty. some (sym same.0 ∙ empty),
  before ∙ ap (λ t. take_through 10 t) (sym same.0),
  after ∙ ap (λ t. take_through 10 t) (sym same.1),
  (ap (λ t. drop_through 10 t) same.0, ap (λ t. drop_through 10 t) same.1),
)
up_to_more old new (l ∷ lines) old_rest new_rest line some before after so_far = (
  so_far.0,
  so_far.1,
  so_far.2,
  up_to_more (drop_through 10 old) (drop_through 10 new) lines old_rest new_rest line some before after
      so_far.3,
)

-- One more pair of lines.
pub pair_more : (old new : Text) (pairs more : List Pair) (old_rest new_rest old_next new_next : Text)
    (pair : Pair) (is : Bool) → is ≡ (length old_rest == 0) → is ≡ false
    → pair.old.now ≡ take_through 10 old_rest → pair.new.now ≡ take_through 10 new_rest
    → more ≡ pairs ++ pair ∷ [] → old_next ≡ drop_through 10 old_rest
    → new_next ≡ drop_through 10 new_rest → AreUpTo old new (lines_of pairs) old_rest new_rest
    → AreUpTo old new (lines_of more) old_next new_next
pair_more old new pairs more old_rest new_rest old_next new_next pair is none some before after pushed
    old_is new_is so_far =
    subst (λ rest. AreUpTo old new (lines_of more) old_next rest) (sym new_is)
    (subst (λ rest. AreUpTo old new (lines_of more) rest (drop_through 10 new_rest)) (sym old_is)
    (subst (λ ls. AreUpTo old new ls (drop_through 10 old_rest) (drop_through 10 new_rest))
    (sym (ap lines_of pushed ∙ map_push line_of pairs pair))
    (up_to_more old new (lines_of pairs) old_rest new_rest (line_of pair)
    (some_left old_rest is none some) before after so_far)))

-- All lines were read once nothing is left.
pub all_pairs : (old new : Text) (pairs : List Pair) (old_rest new_rest : Text) (is : Bool)
    → is ≡ (length old_rest == 0) → is ≡ true → AreUpTo old new (lines_of pairs) old_rest new_rest
    → AreSideBySide old new (lines_of pairs)
all_pairs old new pairs old_rest new_rest is none so so_far = (
  new_rest,
  subst (λ rest. AreUpTo old new (lines_of pairs) rest new_rest)
      (nothing_left old_rest is none so) so_far,
)
