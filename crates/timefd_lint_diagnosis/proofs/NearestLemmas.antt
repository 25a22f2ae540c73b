-- The nearest of some words, a word at a time.
use Rattle.std.proofs.Common.{ℕ, zero, suc, ◌≡◌, ◌≤◌, ◌<◌, ◌+◌, ◌⊎◌, inl, inr, List, [], ◌∷◌, ◌++◌, append_assoc, length, length-append, Option, Some, None, option_map, take, get_or, Result, Ok, Err, refl, sym, ap, subst, ◌∙◌, arith}
use denote.Ref.{Bor}
use Rattle.std.specs.Int.{abs_diff}
use Rattle.std.specs.Prelude.{All, IfOk, chars, nat_eq, ◌≢◌}
use Rattle.std.proofs.lemmas.Bool.{cases_eq}
use Rattle.std.proofs.lemmas.List.{take_all, map-append}
use Rattle.std.proofs.lemmas.Grind.{take_at_read}
use Rattle.timefd_lint_diagnosis.specs.Words.{texts}
use Rattle.std.proofs.lemmas.List.Elements.{All-append, All-cons, All-push, All-weaker, All-nil}
use Rattle.strsim.specs.Edits.{damerau}
use Rattle.timefd_parse.specs.Tree.{Text}
use Rattle.timefd_lint_diagnosis.specs.declared.nearest.Best.{Best}
use Rattle.timefd_lint_diagnosis.specs.Edits.{IsChange, put_in, taken_away, replaced, swapped, IsEdit, IsMadeBy, IsDistance}
use Rattle.timefd_lint_diagnosis.specs.Nearest.{reach, IsAsFarAs, IsFirstNearest, IsNearest, IsSoFar, IsNext}
use Rattle.timefd_lint_diagnosis.proofs.DistanceLemmas.{is_distance, from_nothing, no_fewer, to_nothing}

-- An edit changes a word's length by at most one.
change_length : (old new : List ℕ) → IsChange old new → (length old ≤ length new + 1)
    × (length new ≤ length old + 1)
change_length _ _ (put_in c) = (omega arith, omega arith)
change_length _ _ (taken_away c) = (omega arith, omega arith)
change_length _ _ (replaced c d) = (omega arith, omega arith)
change_length _ _ (swapped c d) = (omega arith, omega arith)

edit_length : (a b : List ℕ) → IsEdit a b → (length a ≤ length b + 1) × (length b ≤ length a + 1)
edit_length a b e =
    let change = change_length e.2 e.3 e.4 in
    let in_a = length-append e.0 (e.2 ++ e.1) in
    let in_b = length-append e.0 (e.3 ++ e.1) in
    let mid_a = length-append e.2 e.1 in
    let mid_b = length-append e.3 e.1 in
    let first = ap length e.5 in
    let second = ap length e.6 in (
      omega (arith, change.0, in_a, in_b, mid_a, mid_b, first, second),
      omega (arith, change.1, in_a, in_b, mid_a, mid_b, first, second),
    )

pub made_length : (n : ℕ) (a b : List ℕ) → IsMadeBy n a b → (length a ≤ length b + n)
    × (length b ≤ length a + n)
made_length zero a b e = let same = ap length e in (omega (arith, same), omega (arith, same))
made_length (suc n) a b (c, edit, rest) =
    let first = edit_length a c edit in
    let others = made_length n c b rest in
    (omega (arith, first.0, others.0), omega (arith, first.1, others.1))

-- A distance is the least if it is as stated for words without characters, for equal words, and for
-- all others.
one_distance : (a b : Text) (d : ℕ) → (a ≡ b → d ≡ 0) → (chars a ≡ [] → d ≡ length (chars b))
    → (chars b ≡ [] → d ≡ length (chars a))
    → (a ≢ b → chars a ≢ [] → chars b ≢ [] → d ≡ damerau nat_eq (chars a) (chars b))
    → (d ≡ damerau nat_eq (chars a) (chars b))
    ⊎ (d ≡ damerau nat_eq (chars a) (chars b) → ⊥)
    → d ≡ damerau nat_eq (chars a) (chars b)
one_distance a b d same first second value (inl e) = e
one_distance a b d same first second value (inr differs) =
    let least = is_distance (chars a) (chars b) in
    let not_same : a ≢ b = λ e. differs
    (omega (arith, same e, least.least 0 (ap chars e))) in
    let not_first : chars a ≢ [] = λ e. differs (first e ∙ only_one (chars a) (chars b)
    (length (chars b)) (subst (λ l. IsDistance l (chars b) (length (chars b))) (sym e) (from_nothing (chars b)))) in
    let not_second : chars b ≢ [] = λ e. differs (second e ∙ only_one (chars a) (chars b)
    (length (chars a)) (subst (λ l. IsDistance (chars a) l (length (chars a))) (sym e) (to_nothing (chars a)))) in
    value not_same not_first not_second
  where
    only_one : (x y : List ℕ) (n : ℕ) → IsDistance x y n → n ≡ damerau nat_eq x y
    only_one x y n is =
        let table = is_distance x y in
        omega (arith, is.least (damerau nat_eq x y) table.made, table.least n is.made)

abbrev number : {E : Type 0} → Result ℕ E → ℕ
number (Ok n) = n
number (Err e) = 0

pub distance_of : {E : Type 0} (a b : Text) (r : Result ℕ E) → (a ≡ b → r ≡ Ok 0)
    → (chars a ≡ [] → IfOk r (λ d. d ≡ length (chars b)))
    → (chars b ≡ [] → IfOk r (λ d. d ≡ length (chars a)))
    → (a ≢ b → chars a ≢ [] → chars b ≢ [] → IfOk r (λ d. d ≡ damerau nat_eq (chars a) (chars b)))
    → IfOk r (IsDistance (chars a) (chars b))
distance_of a b (Err e) same first second value = tt
distance_of a b (Ok d) same first second value =
    subst (IsDistance (chars a) (chars b))
    (sym (one_distance a b d (λ e. ap number (same e)) first second value
    (cases_eq d (damerau nat_eq (chars a) (chars b))))) (is_distance (chars a) (chars b))

-- None of the words so far is nearer.
all_as_far : (ws : List Text) (word : Text) (n : ℕ) (found : Option (Bor Text))
    → IsSoFar ws word n found → All (IsAsFarAs n word) ws
all_as_far ws word n None so_far = so_far.1
all_as_far ws word n (Some f) so_far =
    subst (All (IsAsFarAs n word)) (sym so_far.split)
    (All-append (IsAsFarAs n word) so_far.front (f.now ∷ so_far.back)
    (All-weaker (IsAsFarAs (n + 1) word) (IsAsFarAs n word)
    (λ w far m made. omega (arith, far m made)) so_far.front so_far.farther)
    (All-cons (IsAsFarAs n word) f.now so_far.back so_far.distance.least so_far.as_far))

reached : (ws : List Text) (word : Text) (n : ℕ) (found : Option (Bor Text))
    → IsSoFar ws word n found → n ≤ reach word + 1
reached ws word n None so_far = omega (arith, so_far.0)
reached ws word n (Some f) so_far = omega (arith, so_far.near)

passed : (ws : List Text) (word w : Text) (n : ℕ) (found : Option (Bor Text))
    → IsSoFar ws word n found → IsAsFarAs n word w → IsSoFar (ws ++ w ∷ []) word n found
passed ws word w n None so_far far =
    (so_far.0, All-push (IsAsFarAs n word) ws w so_far.1 far)
passed ws word w n (Some f) so_far far = record {
  front = so_far.front;
  back = so_far.back ++ w ∷ [];
  split = ap (λ l. l ++ w ∷ []) so_far.split ∙ append_assoc so_far.front (f.now ∷ so_far.back) (w ∷ []);
  distance = so_far.distance;
  near = so_far.near;
  farther = so_far.farther;
  as_far = All-push (IsAsFarAs n word) so_far.back w so_far.as_far far;
}

pub one_more_word : (ws : List Text) (word : Text) (w : Bor Text) (best next : Best)
    → IsSoFar ws word best.edits best.found → IsNext word best w next
    → IsSoFar (ws ++ w.now ∷ []) word next.edits next.found
one_more_word ws word w best next so_far (inl better) =
    let far = all_as_far ws word best.edits best.found so_far in
    let in_reach = reached ws word best.edits best.found so_far in
    subst (IsSoFar (ws ++ w.now ∷ []) word next.edits) (sym better.1) record {
      front = ws;
      back = [];
      split = refl;
      distance = better.2;
      near = omega (arith, better.0, in_reach);
      farther = All-weaker (IsAsFarAs best.edits word) (IsAsFarAs (next.edits + 1) word)
          (λ x is_far m made. omega (arith, is_far m made, better.0)) ws far;
      as_far = All-nil (IsAsFarAs next.edits word);
    }
one_more_word ws word w best next so_far (inr same) =
    subst (λ (b : Best). IsSoFar (ws ++ w.now ∷ []) word b.edits b.found) (sym same.0)
    (passed ws word w.now best.edits best.found so_far same.1)

pub found_nearest : (ws : List Text) (word : Text) (n : ℕ) (found : Option (Bor Text))
    → IsSoFar ws word n found → IsNearest ws word (option_map (λ w. w.now) found)
found_nearest ws word n None so_far =
    subst (λ m. All (IsAsFarAs m word) ws) so_far.0 so_far.1
found_nearest ws word n (Some f) so_far = (n, so_far)

-- A word that is longer or shorter by more characters than the best has edits isn't nearer.
pub too_far : (word w : Text) (n count other gap : ℕ) → count ≡ length (chars word)
    → other ≡ length (chars w) → gap ≡ abs_diff count other → n ≤ gap → IsAsFarAs n word w
too_far word w n count other gap is_count is_other is_gap far m made =
    let lengths = made_length m (chars word) (chars w) made in
    grind (arith, is_count, is_other, is_gap, far, lengths.0, lengths.1)

texts_more : (words : List (Bor Text)) (i : ℕ) (d : Bor Text) → i < length words
    → texts (take i words) ++ (get_or words i d).now ∷ [] ≡ texts (take (i + 1) words)
texts_more words i d within =
    sym (ap texts (take_at_read words i d within).1 ∙ map-append (λ w. w.now) (take i words) (get_or words i d ∷ []))

pub next_so_far : (words : List (Bor Text)) (word : Text) (i : ℕ) (d : Bor Text) (best next : Best)
    → i < length words → IsSoFar (texts (take i words)) word best.edits best.found
    → IsNext word best (get_or words i d) next
    → IsSoFar (texts (take (i + 1) words)) word next.edits next.found
next_so_far words word i d best next within so_far is =
    subst (λ ws. IsSoFar ws word next.edits next.found) (texts_more words i d within)
    (one_more_word (texts (take i words)) word (get_or words i d) best next so_far is)

pub all_so_far : (words : List (Bor Text)) (word : Text) (i n : ℕ) (found : Option (Bor Text))
    → length words ≤ i → IsSoFar (texts (take i words)) word n found
    → IsSoFar (texts words) word n found
all_so_far words word i n found past so_far =
    subst (λ ws. IsSoFar (texts ws) word n found) (take_all i words past) so_far
