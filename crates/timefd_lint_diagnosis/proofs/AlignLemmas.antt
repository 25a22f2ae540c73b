-- Two words side by side: the table's cells are the least edits from one to the other.
use Rattle.std.proofs.Common.{◌≡◌, ◌∙◌, ℕ, zero, suc, ◌+◌, ◌-◌, ◌<◌, ◌≤◌, ◌⊎◌, inl, inr, Bool, true, false, List, [], ◌∷◌, ◌++◌, length, length-append, get_or, min, arith, refl, sym, ap, subst, true≢false}
use Rattle.std.specs.Prelude.{nat_eq, ◌||◌, ◌==◌, if◌then◌else◌}
use Rattle.std.proofs.lemmas.Int.{clamps}
use Rattle.std.proofs.lemmas.Bool.Decides.{nat_tests}
use Rattle.std.proofs.lemmas.List.{get_or_default}
use Rattle.strsim.specs.Edits.{cost, last_place}
use Rattle.strsim.proofs.EditLemmas.{cost_small}
use Rattle.timefd_lint_diagnosis.proofs.TableLemmas.{IsTable, best, last_row, last_column, last_within, if_below, if_swap, either_test, zero_test, one_of, IsOneEdit}

-- At most this many edits turn the first into the second, from the front on. What is between two
-- swapped letters is taken away, and what comes between them is put in.
pub data Align : List ℕ → List ℕ → ℕ → Type 0 where
  ends : (m : ℕ) → Align [] [] m
  puts : (p q : List ℕ) (c n m : ℕ) → Align p q n → n < m → Align p (c ∷ q) m
  takes : (p q : List ℕ) (c n m : ℕ) → Align p q n → n < m → Align (c ∷ p) q m
  keeps : (p q : List ℕ) (c n m : ℕ) → Align p q n → n ≤ m → Align (c ∷ p) (c ∷ q) m
  turns : (p q : List ℕ) (c d n m : ℕ) → Align p q n → n < m → Align (c ∷ p) (d ∷ q) m
  swaps : (p q s t : List ℕ) (c d n m : ℕ) → Align p q n → n + length s + length t < m
      → Align (c ∷ s ++ d ∷ p) (d ∷ t ++ c ∷ q) m

pub more : (p q : List ℕ) (m n : ℕ) → Align p q m → m ≤ n → Align p q n
more _ _ _ n (ends m) le = ends n
more _ _ _ n (puts p q c k m a l) le = puts p q c k n a (omega arith)
more _ _ _ n (takes p q c k m a l) le = takes p q c k n a (omega arith)
more _ _ _ n (keeps p q c k m a l) le = keeps p q c k n a (omega arith)
more _ _ _ n (turns p q c d k m a l) le = turns p q c d k n a (omega arith)
more _ _ _ n (swaps p q s t c d k m a l) le = swaps p q s t c d k n a (omega arith)

-- the first elements of a list, the last of them first
abbrev pub back : List ℕ → ℕ → List ℕ
back xs zero = []
back xs (suc i) = get_or xs i 0 ∷ back xs i

pub head_is : (x y : ℕ) (xs ys : List ℕ) → x ∷ xs ≡ y ∷ ys → x ≡ y
head_is x y xs ys e = ap (λ l. get_or l 0 x) e

abbrev tail_of : List ℕ → List ℕ
tail_of [] = []
tail_of (x ∷ xs) = xs

pub tail_is : (x y : ℕ) (xs ys : List ℕ) → x ∷ xs ≡ y ∷ ys → xs ≡ ys
tail_is x y xs ys e = ap tail_of e

pub not_empty : (x : ℕ) (xs : List ℕ) → [] ≡ x ∷ xs → ⊥
not_empty x xs e = cc

-- where the part of a list begins that precedes what follows
found : (s : List ℕ) (d : ℕ) (p xs : List ℕ) (i : ℕ) → s ++ d ∷ p ≡ back xs i
    → (k : ℕ) × (k + 1 + length s ≡ i) × (d ≡ get_or xs k 0) × (p ≡ back xs k)
found [] d p xs zero e = absurd (not_empty d p (sym e))
found [] d p xs (suc i) e = (
  i,
  omega arith,
  head_is d (get_or xs i 0) p (back xs i) e,
  tail_is d (get_or xs i 0) p (back xs i) e,
)
found (x ∷ s) d p xs zero e = absurd (not_empty x (s ++ d ∷ p) (sym e))
found (x ∷ s) d p xs (suc i) e =
    let r = found s d p xs i (tail_is x (get_or xs i 0) (s ++ d ∷ p) (back xs i) e) in
    (r.0, omega (arith, r.1), r.2, r.3)

-- what is between two positions
abbrev Between : List ℕ → ℕ → ℕ → Type 0
Between xs n k =
    (s : List ℕ) × (back xs n ≡ s ++ get_or xs k 0 ∷ back xs k) × (length s + k + 1 ≡ n)

under_or_at : (k n : ℕ) → k < suc n → (k < n) ⊎ (k ≡ n)
under_or_at k n within = grind arith

between_more : (xs : List ℕ) (n k : ℕ) → (k < n → Between xs n k) → (k < n) ⊎ (k ≡ n)
    → Between xs (suc n) k
between_more xs n k before (inl under) =
    let r = before under in
    (get_or xs n 0 ∷ r.0, ap (λ l. get_or xs n 0 ∷ l) r.1, omega (arith, r.2))
between_more xs n k before (inr e) = ([], rw e refl, omega arith)

between : (xs : List ℕ) (n k : ℕ) → k < n → Between xs n k
between xs zero k within = absurd (omega arith)
between xs (suc n) k within = between_more xs n k (between xs n k) (under_or_at k n within)

-- the last position whose element passes
last_if : (b : Bool) (k n r : ℕ) → (k < n → k < r) → (k ≡ n → b ≡ true)
    → (k < n) ⊎ (k ≡ n) → k < (if b then suc n else r)
last_if true k n r before here (inl less) = omega arith
last_if true k n r before here (inr e) = omega arith
last_if false k n r before here (inl less) = before less
last_if false k n r before here (inr e) = absurd (true≢false (sym (here e)))

last_after : (test : ℕ → Bool) (xs : List ℕ) (d n k : ℕ) → n ≤ length xs → k < n
    → test (get_or xs k 0) ≡ true → k < last_place test xs d n
unfolding last_place
last_after test xs d zero k within under passes = absurd (omega arith)
last_after test xs d (suc n) k within under passes =
    last_if (test (get_or xs n d)) k n (last_place test xs d n)
    (λ less. last_after test xs d n k (omega arith) less passes)
    (λ e. ap test (get_or_default xs n d 0 (omega arith) ∙ ap (λ m. get_or xs m 0) (sym e)) ∙ passes)
    (under_or_at k n under)

hit_of : (test : ℕ → Bool) (xs : List ℕ) (n r : ℕ) (b : Bool) → (b ≡ true → test (get_or xs n 0) ≡ true)
    → (0 < r → test (get_or xs (r - 1) 0) ≡ true) → 0 < (if b then suc n else r)
    → test (get_or xs ((if b then suc n else r) - 1) 0) ≡ true
hit_of test xs n r true here before positive =
    let e : suc n - 1 ≡ n = omega arith in
    rw e (here refl)
hit_of test xs n r false here before positive = before positive

last_hits : (test : ℕ → Bool) (xs : List ℕ) (d n : ℕ) → n ≤ length xs → 0 < last_place test xs d n
    → test (get_or xs (last_place test xs d n - 1) 0) ≡ true
unfolding last_place
last_hits test xs d zero within positive = absurd (omega arith)
last_hits test xs d (suc n) within positive =
    hit_of test xs n (last_place test xs d n) (test (get_or xs n d))
    (λ is. ap test (get_or_default xs n 0 d (omega arith)) ∙ is)
    (last_hits test xs d n (omega arith)) positive

same_true : (x y : ℕ) → x ≡ y → nat_eq x y ≡ true
same_true x y e = grind (arith, nat_tests)

true_same : (x y : ℕ) → nat_eq x y ≡ true → x ≡ y
true_same x y e = grind (arith, nat_tests)

cost_of : (b : Bool) → b ≡ true → (if b then 0 else 1) ≤ 0
cost_of true e = omega arith
cost_of false e = absurd (true≢false (sym e))

cost_none : (x y : ℕ) → x ≡ y → cost nat_eq x y ≤ 0
cost_none x y e = cost_of (nat_eq x y) (same_true x y e)

best_below : (a b c s k l : ℕ) → (best a b c s k l ≤ a) × (best a b c s k l ≤ b)
    × (best a b c s k l ≤ c)
best_below a b c s k l =
    let low = if_below ((k == 0) || (l == 0)) (min a (min b c)) s in
    (omega (arith, low, clamps), omega (arith, low, clamps), omega (arith, low, clamps))

best_swap : (a b c s k l : ℕ) → 0 < k → 0 < l → best a b c s k l ≤ s
best_swap a b c s k l some_k some_l =
    if_swap ((k == 0) || (l == 0)) (min a (min b c)) s
    (either_test (k == 0) (l == 0) (zero_test k some_k) (zero_test l some_l))

-- One letter replaces another, or is kept.
kept_or_turned : (x y : ℕ) (p q : List ℕ) (n m : ℕ) (b : Bool) → nat_eq x y ≡ b
    → m ≡ n + (if b then 0 else 1) → Align p q n → Align (x ∷ p) (y ∷ q) m
kept_or_turned x y p q n m true same e way =
    subst (λ c. Align (x ∷ p) (c ∷ q) m) (true_same x y same) (keeps p q x n m way (omega (arith, e)))
kept_or_turned x y p q n m false same e way = turns p q x y n m way (omega (arith, e))

-- The cells of a table differ by no more than their positions.
module _ (xs ys : List ℕ) (f : ℕ → ℕ → ℕ) (table : IsTable xs ys f) where
  by_put : (i j : ℕ) → i ≤ length xs → j < length ys → f i (suc j) ≤ f i j + 1
  by_put zero j in_xs in_ys = omega (arith, table.first (suc j) (omega arith), table.first j (omega arith))
  by_put (suc i) j in_xs in_ys =
      let k = last_row xs ys i j in
      let l = last_column xs ys i j in
      let step = table.step i j k l (omega arith) in_ys refl refl in
      let low = best_below (f i j + cost nat_eq (get_or xs i 0) (get_or ys j 0)) (f i (suc j) + 1)
      (f (suc i) j + 1) (f (k - 1) (l - 1) + (i - k) + 1 + (j - l)) k l in
      omega (arith, step, low.2)

  by_take : (i j : ℕ) → i < length xs → j ≤ length ys → f (suc i) j ≤ f i j + 1
  by_take i zero in_xs in_ys = omega (arith, table.left (suc i) (omega arith), table.left i (omega arith))
  by_take i (suc j) in_xs in_ys =
      let k = last_row xs ys i j in
      let l = last_column xs ys i j in
      let step = table.step i j k l in_xs (omega arith) refl refl in
      let low = best_below (f i j + cost nat_eq (get_or xs i 0) (get_or ys j 0)) (f i (suc j) + 1)
      (f (suc i) j + 1) (f (k - 1) (l - 1) + (i - k) + 1 + (j - l)) k l in
      omega (arith, step, low.1)

  by_keep : (i j : ℕ) → i < length xs → j < length ys
      → f (suc i) (suc j) ≤ f i j + cost nat_eq (get_or xs i 0) (get_or ys j 0)
  by_keep i j in_xs in_ys =
      let k = last_row xs ys i j in
      let l = last_column xs ys i j in
      let step = table.step i j k l in_xs in_ys refl refl in
      let low = best_below (f i j + cost nat_eq (get_or xs i 0) (get_or ys j 0)) (f i (suc j) + 1)
      (f (suc i) j + 1) (f (k - 1) (l - 1) + (i - k) + 1 + (j - l)) k l in
      omega (arith, step, low.0)

  farther : (i j a b : ℕ) → i + a ≤ length xs → j + b ≤ length ys → f (i + a) (j + b) ≤ f i j + a + b
  farther i j zero zero in_xs in_ys =
      let ei : i + 0 ≡ i = omega arith in
      let ej : j + 0 ≡ j = omega arith in
      rw (ei, ej) (omega arith)
  farther i j zero (suc b) in_xs in_ys =
      let ej : j + suc b ≡ suc (j + b) = omega arith in
      let before = farther i j zero b in_xs (omega arith) in
      let last = by_put (i + 0) (j + b) in_xs (omega arith) in
      rw ej (omega (arith, before, last))
  farther i j (suc a) b in_xs in_ys =
      let ei : i + suc a ≡ suc (i + a) = omega arith in
      let before = farther i j a b (omega arith) in_ys in
      let last = by_take (i + a) (j + b) (omega arith) in_ys in
      rw ei (omega (arith, before, last))

  farther_to : (i j k l : ℕ) → i ≤ k → j ≤ l → k ≤ length xs → l ≤ length ys
      → f k l ≤ f i j + (k - i) + (l - j)
  farther_to i j k l low_i low_j in_xs in_ys =
      let ek : i + (k - i) ≡ k = omega arith in
      let el : j + (l - j) ≡ l = omega arith in
      let far = farther i j (k - i) (l - j) (omega arith) (omega arith) in
      subst (λ n. f n l ≤ f i j + (k - i) + (l - j)) ek
      (subst (λ m. f (i + (k - i)) m ≤ f i j + (k - i) + (l - j)) el far)

  by_swap : (i j k l : ℕ) → i < length xs → j < length ys → k < i → l < j
      → get_or xs k 0 ≡ get_or ys j 0 → get_or ys l 0 ≡ get_or xs i 0
      → f (suc i) (suc j) + k + l + 1 ≤ f k l + i + j
  by_swap i j k l in_xs in_ys in_i in_j same_k same_l =
      let m = last_row xs ys i j in
      let n = last_column xs ys i j in
      let step = table.step i j m n in_xs in_ys refl refl in
      let row : k < m = last_after (λ u. nat_eq u (get_or ys j 0)) xs (get_or ys j 0) i k (omega arith)
      in_i (same_true (get_or xs k 0) (get_or ys j 0) same_k) in
      let column : l < n = last_after (λ v. nat_eq (get_or xs i 0) v) ys (get_or xs i 0) j l
      (omega arith) in_j (same_true (get_or xs i 0) (get_or ys l 0) (sym same_l)) in
      let m_in = last_within (λ u. nat_eq u (get_or ys j 0)) xs (get_or ys j 0) i in
      let n_in = last_within (λ v. nat_eq (get_or xs i 0) v) ys (get_or xs i 0) j in
      let low = best_swap (f i j + cost nat_eq (get_or xs i 0) (get_or ys j 0)) (f i (suc j) + 1)
      (f (suc i) j + 1) (f (m - 1) (n - 1) + (i - m) + 1 + (j - n)) m n (omega arith) (omega arith) in
      let far = farther_to k l (m - 1) (n - 1) (omega arith) (omega arith) (omega arith) (omega arith) in
      omega (arith, step, low, far)

  -- No way from one word's front to the other's takes fewer edits than the cell says.
  pub at_least : (p q : List ℕ) (m i j : ℕ) → Align p q m → i ≤ length xs → j ≤ length ys
      → p ≡ back xs i → q ≡ back ys j → f i j ≤ m
  at_least _ _ _ zero zero (ends m) in_xs in_ys is_p is_q = omega (arith, table.first 0 (omega arith))
  at_least _ _ _ zero (suc j) (ends m) in_xs in_ys is_p is_q =
      absurd (not_empty (get_or ys j 0) (back ys j) is_q)
  at_least _ _ _ (suc i) j (ends m) in_xs in_ys is_p is_q =
      absurd (not_empty (get_or xs i 0) (back xs i) is_p)
  at_least _ _ _ i zero (puts p q c n m way less) in_xs in_ys is_p is_q =
      absurd (not_empty c q (sym is_q))
  at_least _ _ _ i (suc j) (puts p q c n m way less) in_xs in_ys is_p is_q =
      let rest = at_least p q n i j way in_xs (omega arith) is_p
      (tail_is c (get_or ys j 0) q (back ys j) is_q) in
      omega (arith, less, rest, by_put i j in_xs (omega arith))
  at_least _ _ _ zero j (takes p q c n m way less) in_xs in_ys is_p is_q =
      absurd (not_empty c p (sym is_p))
  at_least _ _ _ (suc i) j (takes p q c n m way less) in_xs in_ys is_p is_q =
      let rest = at_least p q n i j way (omega arith) in_ys
      (tail_is c (get_or xs i 0) p (back xs i) is_p) is_q in
      omega (arith, less, rest, by_take i j (omega arith) in_ys)
  at_least _ _ _ zero j (keeps p q c n m way less) in_xs in_ys is_p is_q =
      absurd (not_empty c p (sym is_p))
  at_least _ _ _ (suc i) zero (keeps p q c n m way less) in_xs in_ys is_p is_q =
      absurd (not_empty c q (sym is_q))
  at_least _ _ _ (suc i) (suc j) (keeps p q c n m way less) in_xs in_ys is_p is_q =
      let rest = at_least p q n i j way (omega arith) (omega arith)
      (tail_is c (get_or xs i 0) p (back xs i) is_p) (tail_is c (get_or ys j 0) q (back ys j) is_q) in
      let same = sym (head_is c (get_or xs i 0) p (back xs i) is_p)
      ∙ head_is c (get_or ys j 0) q (back ys j) is_q in
      omega (
        arith,
        less,
        rest,
        by_keep i j (omega arith) (omega arith),
        cost_none (get_or xs i 0) (get_or ys j 0) same,
      )
  at_least _ _ _ zero j (turns p q c d n m way less) in_xs in_ys is_p is_q =
      absurd (not_empty c p (sym is_p))
  at_least _ _ _ (suc i) zero (turns p q c d n m way less) in_xs in_ys is_p is_q =
      absurd (not_empty d q (sym is_q))
  at_least _ _ _ (suc i) (suc j) (turns p q c d n m way less) in_xs in_ys is_p is_q =
      let rest = at_least p q n i j way (omega arith) (omega arith)
      (tail_is c (get_or xs i 0) p (back xs i) is_p) (tail_is d (get_or ys j 0) q (back ys j) is_q) in
      omega (
        arith,
        less,
        rest,
        by_keep i j (omega arith) (omega arith),
        cost_small nat_eq (get_or xs i 0) (get_or ys j 0),
      )
  at_least _ _ _ zero j (swaps p q s t c d n m way less) in_xs in_ys is_p is_q =
      absurd (not_empty c (s ++ d ∷ p) (sym is_p))
  at_least _ _ _ (suc i) zero (swaps p q s t c d n m way less) in_xs in_ys is_p is_q =
      absurd (not_empty d (t ++ c ∷ q) (sym is_q))
  at_least _ _ _ (suc i) (suc j) (swaps p q s t c d n m way less) in_xs in_ys is_p is_q =
      let at_p = found s d p xs i (tail_is c (get_or xs i 0) (s ++ d ∷ p) (back xs i) is_p) in
      let at_q = found t c q ys j (tail_is d (get_or ys j 0) (t ++ c ∷ q) (back ys j) is_q) in
      let first = head_is c (get_or xs i 0) (s ++ d ∷ p) (back xs i) is_p in
      let second = head_is d (get_or ys j 0) (t ++ c ∷ q) (back ys j) is_q in
      let rest = at_least p q n at_p.0 at_q.0 way (omega (arith, at_p.1)) (omega (arith, at_q.1)) at_p.3
      at_q.3 in
      let step = by_swap i j at_p.0 at_q.0 (omega arith) (omega arith) (omega (arith, at_p.1))
      (omega (arith, at_q.1)) (sym at_p.2 ∙ second) (sym at_q.2 ∙ first) in
      omega (arith, less, rest, step, at_p.1, at_q.1)

  swapped : (i j k l : ℕ) → i < length xs → j < length ys → k ≡ last_row xs ys i j
      → l ≡ last_column xs ys i j → 0 < k → 0 < l
      → f (suc i) (suc j) ≡ f (k - 1) (l - 1) + (i - k) + 1 + (j - l)
      → ((k l : ℕ) → k < i → l < j → Align (back xs k) (back ys l) (f k l))
      → Align (back xs (suc i)) (back ys (suc j)) (f (suc i) (suc j))
  swapped i j k l in_xs in_ys k_is l_is some_k some_l value way =
      let x = get_or xs i 0 in
      let y = get_or ys j 0 in
      let row : k ≤ i = rw k_is (last_within (λ u. nat_eq u y) xs y i) in
      let column : l ≤ j = rw l_is (last_within (λ v. nat_eq x v) ys x j) in
      let hit_y : get_or xs (k - 1) 0 ≡ y = true_same (get_or xs (k - 1) 0) y
      (rw k_is (last_hits (λ u. nat_eq u y) xs y i (omega arith) (rw (← k_is) some_k))) in
      let hit_x : x ≡ get_or ys (l - 1) 0 = true_same x (get_or ys (l - 1) 0)
      (rw l_is (last_hits (λ v. nat_eq x v) ys x j (omega arith) (rw (← l_is) some_l))) in
      let s = between xs i (k - 1) (omega arith) in
      let t = between ys j (l - 1) (omega arith) in
      let m = f (suc i) (suc j) in
      let ends = swaps (back xs (k - 1)) (back ys (l - 1)) s.0 t.0 x y (f (k - 1) (l - 1)) m
      (way (k - 1) (l - 1) (omega arith) (omega arith)) (omega (arith, value, s.2, t.2)) in
      let p : s.0 ++ y ∷ back xs (k - 1) ≡ back xs i =
      ap (λ c. s.0 ++ c ∷ back xs (k - 1)) (sym hit_y) ∙ sym s.1 in
      let q : t.0 ++ x ∷ back ys (l - 1) ≡ back ys j =
      ap (λ c. t.0 ++ c ∷ back ys (l - 1)) hit_x ∙ sym t.1 in
      subst (λ b. Align (x ∷ b) (y ∷ back ys j) m) p
      (subst (λ b. Align (x ∷ s.0 ++ y ∷ back xs (k - 1)) (y ∷ b) m) q ends)

  -- the four ways to a cell, by those to the cells before it
  by_one : (i j : ℕ) → i < length xs → j < length ys → Align (back xs i) (back ys j) (f i j)
      → Align (back xs i) (back ys (suc j)) (f i (suc j)) → Align (back xs (suc i)) (back ys j) (f (suc i) j)
      → ((k l : ℕ) → k < i → l < j → Align (back xs k) (back ys l) (f k l))
      → Align (back xs (suc i)) (back ys (suc j)) (f (suc i) (suc j))
  by_one i j in_xs in_ys both right down swap =
      let k = last_row xs ys i j in
      let l = last_column xs ys i j in
      let x = get_or xs i 0 in
      let y = get_or ys j 0 in
      let step = table.step i j k l in_xs in_ys refl refl in
      let one = subst (IsOneEdit (f i j + cost nat_eq x y) (f i (suc j) + 1) (f (suc i) j + 1)
      (f (k - 1) (l - 1) + (i - k) + 1 + (j - l)) k l) (sym step)
      (one_of (k == 0) (l == 0) (f i j + cost nat_eq x y) (f i (suc j) + 1) (f (suc i) j + 1)
      (f (k - 1) (l - 1) + (i - k) + 1 + (j - l)) k l refl refl) in
      elim one [
        | inl e ↦ kept_or_turned x y (back xs i) (back ys j) (f i j) (f (suc i) (suc j)) (nat_eq x y) refl e
            both
        | inr others ↦ elim others [
          | inl e ↦ takes (back xs i) (back ys (suc j)) x (f i (suc j)) (f (suc i) (suc j)) right (omega (arith, e))
          | inr rest ↦ elim rest [
            | inl e ↦ puts (back xs (suc i)) (back ys j) y (f (suc i) j) (f (suc i) (suc j)) down (omega (arith, e))
            | inr s ↦ swapped i j k l in_xs in_ys refl refl s.0 s.1 s.2 swap
          ]
        ]
      ]

  -- a way with as many edits as the cell says
  way_within : (most i j : ℕ) → i + j ≤ most → i ≤ length xs → j ≤ length ys
      → Align (back xs i) (back ys j) (f i j)
  way_within most zero zero fits in_xs in_ys = ends (f 0 0)
  way_within zero zero (suc j) fits in_xs in_ys = absurd (omega arith)
  way_within (suc most) zero (suc j) fits in_xs in_ys =
      puts [] (back ys j) (get_or ys j 0) (f 0 j) (f 0 (suc j))
      (way_within most zero j (omega arith) in_xs (omega arith))
      (omega (arith, table.first j (omega arith), table.first (suc j) in_ys))
  way_within zero (suc i) j fits in_xs in_ys = absurd (omega arith)
  way_within (suc most) (suc i) zero fits in_xs in_ys =
      takes (back xs i) [] (get_or xs i 0) (f i 0) (f (suc i) 0)
      (way_within most i zero (omega arith) (omega arith) in_ys)
      (omega (arith, table.left i (omega arith), table.left (suc i) in_xs))
  way_within (suc most) (suc i) (suc j) fits in_xs in_ys =
      by_one i j (omega arith) (omega arith) (way_within most i j (omega arith) (omega arith) (omega arith))
      (way_within most i (suc j) (omega arith) (omega arith) in_ys)
      (way_within most (suc i) j (omega arith) in_xs (omega arith))
      (λ k l in_i in_j. way_within most k l (omega arith) (omega arith) (omega arith))

  pub attained : (i j : ℕ) → i ≤ length xs → j ≤ length ys → Align (back xs i) (back ys j) (f i j)
  attained i j in_xs in_ys = way_within (i + j) i j (omega arith) in_xs in_ys
