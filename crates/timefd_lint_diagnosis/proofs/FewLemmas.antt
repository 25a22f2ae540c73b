-- Whether one edit turns a word into another, by their first characters.
use Rattle.std.proofs.Common.{Bool, true, false, true≢false, ◌≡◌, ◌≢◌, ◌∙◌, ℕ, zero, suc, ◌+◌, ◌<◌, ◌≤◌, ◌⊎◌, inl, inr, List, [], ◌∷◌, ◌++◌, length, min, arith, refl, sym, ap, subst}
use Rattle.std.specs.Prelude.{IsUtf8, chars, nat_eq}
use Rattle.std.specs.Cmp.Lexicographic.{pointwise, pointwise_decides}
use Rattle.std.proofs.lemmas.Bool.Decides.{Decides-eqb}
use Rattle.std.proofs.lemmas.Str.{chars-nil, chars_past_char, encodes-chars}
use lib.Utf8.{encode, encodes}
use Rattle.timefd_lint_diagnosis.specs.Edits.{IsChange, put_in, taken_away, replaced, swapped, IsEdit, IsMadeBy, IsFew}
use Rattle.timefd_lint_diagnosis.specs.Few.{IsSwap}
use Rattle.timefd_lint_diagnosis.proofs.AlignLemmas.{head_is, tail_is}
use Rattle.timefd_lint_diagnosis.proofs.DistanceLemmas.{made_after}
use Rattle.timefd_lint_diagnosis.proofs.NearestLemmas.{made_length}

-- if the edit is at the common character itself
near_here : (old new : List ℕ) → IsChange old new → (c : ℕ) (a b back : List ℕ) → c ∷ a ≡ old ++ back
    → c ∷ b ≡ new ++ back → (a ≡ b) ⊎ IsEdit a b
near_here _ _ (put_in x) c a b back e f =
    inr ([], a, [], c ∷ [], put_in c, refl, tail_is c x b back f ∙ sym e)
near_here _ _ (taken_away x) c a b back e f =
    inr ([], b, c ∷ [], [], taken_away c, tail_is c x a back e ∙ sym f, refl)
near_here _ _ (replaced x y) c a b back e f =
    inl (tail_is c x a back e ∙ sym (tail_is c y b back f))
near_here _ _ (swapped x y) c a b back e f =
    let same : y ≡ x = sym (head_is c y b (x ∷ back) f) ∙ head_is c x a (y ∷ back) e in
    inl (tail_is c x a (y ∷ back) e ∙ (ap (λ z. z ∷ back) same ∙ sym (tail_is c y b (x ∷ back) f)))

near : (front back old new : List ℕ) → IsChange old new → (c : ℕ) (a b : List ℕ)
    → c ∷ a ≡ front ++ (old ++ back) → c ∷ b ≡ front ++ (new ++ back) → (a ≡ b) ⊎ IsEdit a b
near [] back old new change c a b e f = near_here old new change c a b back e f
near (x ∷ front) back old new change c a b e f =
    inr (
      front,
      back,
      old,
      new,
      change,
      tail_is c x a (front ++ (old ++ back)) e,
      tail_is c x b (front ++ (new ++ back)) f,
    )

few_of_near : (a b : List ℕ) (n : ℕ) → IsFew a b n → (a ≡ b) ⊎ IsEdit a b → n ≤ 1
few_of_near a b n is (inl e) = let none = is.least 0 e in omega (arith, none)
few_of_near a b n is (inr edit) = is.least 1 (b, edit, refl)

least_after : (m c : ℕ) (a b : List ℕ) (n : ℕ) → IsFew a b n → IsMadeBy m (c ∷ a) (c ∷ b) → n ≤ m
least_after zero c a b n is e = is.least 0 (tail_is c c a b e)
least_after (suc zero) c a b n is (x, edit, e) =
    few_of_near a b n is
    (near edit.0 edit.1 edit.2 edit.3 edit.4 c a b edit.5 (sym e ∙ edit.6))
least_after (suc (suc m)) c a b n is made = let few = is.few in omega (arith, few)

-- A character before both words changes nothing.
pub few_after : (c : ℕ) (a b : List ℕ) (n : ℕ) → IsFew a b n → IsFew (c ∷ a) (c ∷ b) n
few_after c a b n is = record {
  made = λ low. made_after n c a b (is.made low);
  least = λ m made. least_after m c a b n is made;
  few = is.few;
}

-- One edit turns the first into the second, and they differ.
pub one_few : (a b : List ℕ) → a ≢ b → IsEdit a b → IsFew a b 1
one_few a b differs edit = record {
  made = λ low. (b, edit, refl);
  least = at_least;
  few = omega arith;
}
  where
    at_least : (m : ℕ) → IsMadeBy m a b → 1 ≤ m
    at_least zero e = absurd (differs e)
    at_least (suc m) made = omega arith

unlike_here : (old new : List ℕ) → IsChange old new → (c d : ℕ) (a b back : List ℕ) → c ≢ d → a ≢ b
    → c ∷ a ≢ b → a ≢ d ∷ b → (IsSwap (c ∷ a) (d ∷ b) → ⊥) → c ∷ a ≡ old ++ back → d ∷ b ≡ new ++ back → ⊥
unlike_here _ _ (put_in x) c d a b back unlike turned put taken swap e f =
    put (e ∙ sym (tail_is d x b back f))
unlike_here _ _ (taken_away x) c d a b back unlike turned put taken swap e f =
    taken (tail_is c x a back e ∙ sym f)
unlike_here _ _ (replaced x y) c d a b back unlike turned put taken swap e f =
    turned (tail_is c x a back e ∙ sym (tail_is d y b back f))
unlike_here _ _ (swapped x y) c d a b back unlike turned put taken swap e f =
    swap (record { c = x; d = y; after = back; from = e; to = f })

unlike_apart : (front back old new : List ℕ) → IsChange old new → (c d : ℕ) (a b : List ℕ) → c ≢ d → a ≢ b
    → c ∷ a ≢ b → a ≢ d ∷ b → (IsSwap (c ∷ a) (d ∷ b) → ⊥) → c ∷ a ≡ front ++ (old ++ back)
    → d ∷ b ≡ front ++ (new ++ back) → ⊥
unlike_apart [] back old new change c d a b unlike turned put taken swap e f =
    unlike_here old new change c d a b back unlike turned put taken swap e f
unlike_apart (x ∷ front) back old new change c d a b unlike turned put taken swap e f =
    unlike (head_is c x a (front ++ (old ++ back)) e ∙ sym (head_is d x b (front ++ (new ++ back)) f))

-- No single edit turns a word into another that begins with a different character, if none of the
-- four does.
pub two_few : (c d : ℕ) (a b : List ℕ) → c ≢ d → a ≢ b → c ∷ a ≢ b → a ≢ d ∷ b
    → (IsSwap (c ∷ a) (d ∷ b) → ⊥) → IsFew (c ∷ a) (d ∷ b) 2
two_few c d a b unlike turned put taken swap = record {
  made = λ low. absurd (omega (arith, low));
  least = at_least;
  few = omega arith;
}
  where
    at_least : (m : ℕ) → IsMadeBy m (c ∷ a) (d ∷ b) → 2 ≤ m
    at_least zero e = absurd (unlike (head_is c d a b e))
    at_least (suc zero) (x, edit, e) =
        absurd (unlike_apart edit.0 edit.1 edit.2 edit.3 edit.4 c d a b unlike turned put taken swap edit.5 (sym e ∙ edit.6))
    at_least (suc (suc m)) made = omega arith

-- As many characters are put in, or taken away, as the one word has, if the other has none.
pub few_put : (b : List ℕ) (n : ℕ) → n ≡ min 2 (length b) → IsFew [] b n
few_put b n is = record {
  made = λ low. made_of b n is low;
  least = λ m made. at_least m (made_length m [] b made).1;
  few = omega (arith, is);
}
  where
    at_least : (m : ℕ) → length b ≤ length {A = ℕ} [] + m → n ≤ m
    at_least m le = omega (arith, is, le)

    made_of : (b : List ℕ) (n : ℕ) → n ≡ min 2 (length b) → n < 2 → IsMadeBy n [] b
    made_of [] zero is low = refl
    made_of [] (suc n) is low = absurd (omega (arith, is))
    made_of (x ∷ []) zero is low = absurd (omega (arith, is))
    made_of (x ∷ []) (suc zero) is low = (x ∷ [], ([], [], [], x ∷ [], put_in x, refl, refl), refl)
    made_of (x ∷ []) (suc (suc n)) is low = absurd (omega (arith, low))
    made_of (x ∷ y ∷ b) n is low = absurd (omega (arith, is, low))

pub few_taken : (a : List ℕ) (n : ℕ) → n ≡ min 2 (length a) → IsFew a [] n
few_taken a n is = record {
  made = λ low. made_of a n is low;
  least = λ m made. at_least m (made_length m a [] made).0;
  few = omega (arith, is);
}
  where
    at_least : (m : ℕ) → length a ≤ length {A = ℕ} [] + m → n ≤ m
    at_least m le = omega (arith, is, le)

    made_of : (a : List ℕ) (n : ℕ) → n ≡ min 2 (length a) → n < 2 → IsMadeBy n a []
    made_of [] zero is low = refl
    made_of [] (suc n) is low = absurd (omega (arith, is))
    made_of (x ∷ []) zero is low = absurd (omega (arith, is))
    made_of (x ∷ []) (suc zero) is low = ([], ([], [], x ∷ [], [], taken_away x, refl, refl), refl)
    made_of (x ∷ []) (suc (suc n)) is low = absurd (omega (arith, low))
    made_of (x ∷ y ∷ a) n is low = absurd (omega (arith, is, low))

-- Texts of the same characters are the same.
pub same_text : (a b : List ℕ) → IsUtf8 a → IsUtf8 b → chars a ≡ chars b → pointwise nat_eq a b ≡ true
same_text a b is_a is_b e =
    (pointwise_decides Decides-eqb a b).1
    (sym (encodes-chars a is_a) ∙ (ap encodes e ∙ encodes-chars b is_b))

pub one_off : (text from rest after : List ℕ) (c : ℕ) → IsUtf8 text → from ≡ text
    → from ≡ encode c ++ rest → after ≡ rest → chars text ≡ c ∷ chars after
one_off text from rest after c is same step e =
    chars_past_char text after c is (sym same ∙ (step ∙ ap (λ l. encode c ++ l) (sym e)))

pub none_off : (text from : List ℕ) → from ≡ text → length from ≡ 0 → chars text ≡ []
none_off [] from same none = chars-nil
none_off (x ∷ text) from same none = absurd (omega (arith, ap length same, none))

apart : (w o a b : List ℕ) (c d : ℕ) → w ≡ c ∷ a → o ≡ d ∷ b → c ≢ d → w ≢ o
apart w o a b c d is_w is_o unlike e = unlike (head_is c d a b (sym is_w ∙ (e ∙ is_o)))

pub one_turned : (w o a b : List ℕ) (c d : ℕ) → w ≡ c ∷ a → o ≡ d ∷ b → c ≢ d → a ≡ b → IsFew w o 1
one_turned w o a b c d is_w is_o unlike e =
    one_few w o (apart w o a b c d is_w is_o unlike)
    ([], a, c ∷ [], d ∷ [], replaced c d, is_w, is_o ∙ ap (λ l. d ∷ l) (sym e))

pub one_put : (w o a b : List ℕ) (c d : ℕ) → w ≡ c ∷ a → o ≡ d ∷ b → c ≢ d → w ≡ b → IsFew w o 1
one_put w o a b c d is_w is_o unlike e =
    one_few w o (apart w o a b c d is_w is_o unlike)
    ([], w, [], d ∷ [], put_in d, refl, is_o ∙ ap (λ l. d ∷ l) (sym e))

pub one_taken : (w o a b : List ℕ) (c d : ℕ) → w ≡ c ∷ a → o ≡ d ∷ b → c ≢ d → a ≡ o → IsFew w o 1
one_taken w o a b c d is_w is_o unlike e =
    one_few w o (apart w o a b c d is_w is_o unlike)
    ([], o, c ∷ [], [], taken_away c, is_w ∙ ap (λ l. c ∷ l) e, refl)

pub one_swap : (w o a b : List ℕ) (c d : ℕ) → w ≡ c ∷ a → o ≡ d ∷ b → c ≢ d
    → IsSwap (c ∷ a) (d ∷ b) → IsFew w o 1
one_swap w o a b c d is_w is_o unlike s =
    one_few w o (apart w o a b c d is_w is_o unlike)
    ([], s.after, s.c ∷ s.d ∷ [], s.d ∷ s.c ∷ [], swapped s.c s.d, is_w ∙ s.from, is_o ∙ s.to)

pub two_apart : (w o a b : List ℕ) (c d : ℕ) → w ≡ c ∷ a → o ≡ d ∷ b → c ≢ d → a ≢ b → w ≢ b → a ≢ o
    → (IsSwap (c ∷ a) (d ∷ b) → ⊥) → IsFew w o 2
two_apart w o a b c d is_w is_o unlike turned put taken swap =
    subst (λ l. IsFew l o 2) (sym is_w)
    (subst (λ l. IsFew (c ∷ a) l 2) (sym is_o)
    (two_few c d a b unlike turned (λ e. put (is_w ∙ e)) (λ e. taken (e ∙ sym is_o)) swap))

pub few_front : (w o a b : List ℕ) (c d n : ℕ) → w ≡ c ∷ a → o ≡ d ∷ b → c ≡ d → IsFew a b n
    → IsFew w o n
few_front w o a b c d n is_w is_o e few =
    subst (λ l. IsFew l o n) (sym is_w)
    (subst (λ l. IsFew (c ∷ a) l n) (ap (λ x. x ∷ b) e ∙ sym is_o) (few_after c a b n few))

pub few_from_none : (w o : List ℕ) (n : ℕ) → w ≡ [] → n ≡ min 2 (length o) → IsFew w o n
few_from_none w o n none is = subst (λ l. IsFew l o n) (sym none) (few_put o n is)

pub few_to_none : (w o : List ℕ) (n : ℕ) → o ≡ [] → n ≡ min 2 (length w) → IsFew w o n
few_to_none w o n none is = subst (λ l. IsFew w l n) (sym none) (few_taken w n is)

pub is_not : {A : Type 0} (b : Bool) → b ≡ false → (A → b ≡ true) → A → ⊥
is_not b fails holds a = true≢false (sym (holds a) ∙ fails)
