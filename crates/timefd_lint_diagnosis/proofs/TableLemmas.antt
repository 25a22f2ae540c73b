-- The table of Lowrance and Wagner, cell by cell.
use Rattle.std.proofs.Common.{◌≡◌, ◌∙◌, ℕ, zero, suc, ◌+◌, ◌-◌, ◌<◌, ◌≤◌, ◌⊎◌, inl, inr, Bool, true, false, List, [], ◌∷◌, ◌++◌, length, length-append, get_or, min, arith, refl, sym, ap, subst}
use Rattle.std.specs.Prelude.{nat_eq, ◌||◌, ◌==◌, if◌then◌else◌}
use Rattle.std.specs.List.{range_with_len}
use Rattle.std.proofs.lemmas.Int.{clamps}
use Rattle.std.proofs.lemmas.Bool.Decides.{nat_tests}
use Rattle.strsim.specs.Edits.{cost, last_place, cell, best_edit, plain_edit, damerau_cell, damerau_row, damerau_table, damerau}

get_front : {A : Type 0} (s t : List A) (p : ℕ) (d : A) → p < length s → get_or (s ++ t) p d
    ≡ get_or s p d
get_front [] t p d within = absurd (omega arith)
get_front (x ∷ s) t zero d within = refl
get_front (x ∷ s) t (suc p) d within = get_front s t p d (omega arith)

get_next : {A : Type 0} (s : List A) (x : A) (t : List A) (p : ℕ) (d : A) → p ≡ length s
    → get_or (s ++ x ∷ t) p d ≡ x
get_next [] x t zero d at = refl
get_next [] x t (suc p) d at = absurd (omega arith)
get_next (y ∷ s) x t zero d at = absurd (omega arith)
get_next (y ∷ s) x t (suc p) d at = get_next s x t p d (omega arith)

get_range : (a n j : ℕ) → j < n → get_or (range_with_len a n) j 0 ≡ a + j
get_range a zero j within = absurd (omega arith)
get_range a (suc n) zero within = omega arith
get_range a (suc n) (suc j) within = omega (arith, get_range (a + 1) n j (omega arith))

pub last_within : (test : ℕ → Bool) (xs : List ℕ) (d n : ℕ) → last_place test xs d n ≤ n
unfolding last_place
last_within test xs d zero = omega arith
last_within test xs d (suc n) = last_of (test (get_or xs n d)) n _ (last_within test xs d n)
  where
    last_of : (b : Bool) (n k : ℕ) → k ≤ n → (if b then suc n else k) ≤ suc n
    last_of true n k le = omega arith
    last_of false n k le = omega arith

-- A cell reads only the rows before it.
edit_same : (t u : List (List ℕ)) (left change i j k l : ℕ)
    → ((r : ℕ) → r ≤ i → get_or t r [] ≡ get_or u r []) → k ≤ i
    → best_edit t left change i j k l ≡ best_edit u left change i j k l
edit_same t u left change i j k l same within =
    let at : get_or t i [] ≡ get_or u i [] = same i (omega arith) in
    let before : get_or t (k - 1) [] ≡ get_or u (k - 1) [] = same (k - 1) (omega arith) in
    rw (at, before) refl

module _ (xs ys : List ℕ) where
  row_kept : (table : List (List ℕ)) (x i : ℕ) (rest : List ℕ) (j : ℕ) (row : List ℕ) (p : ℕ)
      → length row ≡ j + 1 → p ≤ j
      → get_or (damerau_row nat_eq xs ys table x i j row rest) p 0 ≡ get_or row p 0
  unfolding damerau_row
  row_kept table x i [] j row p len within = refl
  row_kept table x i (y ∷ rest) j row p len within =
      let c = damerau_cell nat_eq xs ys table row x i y j in
      row_kept table x i rest (j + 1) (row ++ c ∷ []) p (omega (arith, length-append row (c ∷ [])))
      (omega arith)
      ∙ get_front row (c ∷ []) p 0 (omega arith)

  -- the cell after another one of its row
  abbrev next_cell : List (List ℕ) → ℕ → ℕ → ℕ → ℕ → ℕ → ℕ
  next_cell table left x i y j =
      best_edit table left (cost nat_eq x y) i j (last_place (λ u. nat_eq u y) xs y i)
      (last_place (λ v. nat_eq x v) ys x j)

  row_cell : (table : List (List ℕ)) (x i : ℕ) (rest : List ℕ) (j : ℕ) (row : List ℕ) (p q : ℕ)
      → length row ≡ j + 1 → p < length rest → q ≡ j + p
      → get_or (damerau_row nat_eq xs ys table x i j row rest) (q + 1) 0
      ≡ next_cell table (get_or (damerau_row nat_eq xs ys table x i j row rest) q 0) x i
      (get_or rest p 0) q
  unfolding damerau_row
  row_cell table x i [] j row p q len within at = absurd (omega arith)
  row_cell table x i (y ∷ rest) j row zero q len within at =
      let c = damerau_cell nat_eq xs ys table row x i y j in
      let longer : length (row ++ c ∷ []) ≡ j + 1 + 1 = omega (arith, length-append row (c ∷ [])) in
      let here : q ≡ j = omega arith in
      let left = row_kept table x i rest (j + 1) (row ++ c ∷ []) j longer (omega arith)
      ∙ get_front row (c ∷ []) j 0 (omega arith) in
      let new = row_kept table x i rest (j + 1) (row ++ c ∷ []) (j + 1) longer (omega arith)
      ∙ get_next row c [] (j + 1) 0 (omega arith) in
      rw here (new ∙ ap (λ n. next_cell table n x i y j) (sym left))
  row_cell table x i (y ∷ rest) j row (suc p) q len within at =
      let c = damerau_cell nat_eq xs ys table row x i y j in
      row_cell table x i rest (j + 1) (row ++ c ∷ []) p q
      (omega (arith, length-append row (c ∷ []))) (omega arith) (omega arith)

  abbrev row_at : List (List ℕ) → ℕ → ℕ → List ℕ
  row_at table x i = damerau_row nat_eq xs ys table x i 0 ((i + 1) ∷ []) ys

  table_kept : (rest : List ℕ) (i : ℕ) (table : List (List ℕ)) (p : ℕ) → length table ≡ i + 1
      → p ≤ i → get_or (damerau_table nat_eq xs ys i table rest) p [] ≡ get_or table p []
  unfolding damerau_table
  table_kept [] i table p len within = refl
  table_kept (x ∷ rest) i table p len within =
      let row = row_at table x i in
      table_kept rest (i + 1) (table ++ row ∷ []) p
      (omega (arith, length-append table (row ∷ []))) (omega arith)
      ∙ get_front table (row ∷ []) p [] (omega arith)

  -- Each row is made from those before it.
  abbrev IsRow : List (List ℕ) → ℕ → ℕ → Type 0
  IsRow whole x q =
      (t : List (List ℕ)) × ((r : ℕ) → r ≤ q → get_or t r [] ≡ get_or whole r [])
      × (get_or whole (q + 1) [] ≡ row_at t x q)

  table_row : (rest : List ℕ) (i : ℕ) (table : List (List ℕ)) (p q : ℕ) → length table ≡ i + 1
      → p < length rest → q ≡ i + p
      → IsRow (damerau_table nat_eq xs ys i table rest) (get_or rest p 0) q
  unfolding damerau_table
  table_row [] i table p q len within at = absurd (omega arith)
  table_row (x ∷ rest) i table zero q len within at =
      let row = row_at table x i in
      let longer : length (table ++ row ∷ []) ≡ i + 1 + 1 =
      omega (arith, length-append table (row ∷ [])) in
      let here : q ≡ i = omega arith in
      rw here (
        table,
        λ r le. sym (table_kept rest (i + 1) (table ++ row ∷ []) r longer (omega arith)
            ∙ get_front table (row ∷ []) r [] (omega arith)),
        table_kept rest (i + 1) (table ++ row ∷ []) (i + 1) longer (omega arith)
            ∙ get_next table row [] (i + 1) [] (omega arith),
      )
  table_row (x ∷ rest) i table (suc p) q len within at =
      let row = row_at table x i in
      table_row rest (i + 1) (table ++ row ∷ []) p q
      (omega (arith, length-append table (row ∷ []))) (omega arith) (omega arith)

  abbrev pub whole : List (List ℕ)
  whole = damerau_table nat_eq xs ys 0 (range_with_len 0 (length ys + 1) ∷ []) xs

  pub cell_first : (j : ℕ) → j ≤ length ys → cell whole 0 j ≡ j
  cell_first j within =
      let first = table_kept xs 0 (range_with_len 0 (length ys + 1) ∷ []) 0 (omega arith) (omega arith) in
      ap (λ row. get_or row j 0) first ∙ get_range 0 (length ys + 1) j (omega arith) ∙ omega arith

  pub cell_left : (i : ℕ) → i < length xs → cell whole (i + 1) 0 ≡ i + 1
  cell_left i within =
      let row = table_row xs 0 (range_with_len 0 (length ys + 1) ∷ []) i i (omega arith) within (omega arith) in
      ap (λ r. get_or r 0 0) row.2
      ∙ row_kept row.0 (get_or xs i 0) i ys 0 ((i + 1) ∷ []) 0 (omega arith) (omega arith)

  pub cell_next : (i j : ℕ) → i < length xs → j < length ys
      → cell whole (i + 1) (j + 1)
      ≡ next_cell whole (cell whole (i + 1) j) (get_or xs i 0) i (get_or ys j 0) j
  cell_next i j in_xs in_ys =
      let x = get_or xs i 0 in
      let y = get_or ys j 0 in
      let row = table_row xs 0 (range_with_len 0 (length ys + 1) ∷ []) i i (omega arith) in_xs (omega arith) in
      let made = row_cell row.0 x i ys 0 ((i + 1) ∷ []) j j (omega arith) in_ys (omega arith) in
      ap (λ r. get_or r (j + 1) 0) row.2 ∙ made
      ∙ ap (λ r. next_cell row.0 (get_or r j 0) x i y j) (sym row.2)
      ∙ edit_same row.0 whole (cell whole (i + 1) j) (cost nat_eq x y) i j
      (last_place (λ u. nat_eq u y) xs y i) (last_place (λ v. nat_eq x v) ys x j) row.1
      (last_within (λ u. nat_eq u y) xs y i)

pub zero_test : (k : ℕ) → 0 < k → (k == 0) ≡ false
zero_test k positive = grind (arith, nat_tests)

pub either_test : (a b : Bool) → a ≡ false → b ≡ false → (a || b) ≡ false
either_test a b off_a off_b = rw (off_a, off_b) refl

pub if_below : (b : Bool) (p s : ℕ) → (if b then p else min p s) ≤ p
if_below true p s = omega arith
if_below false p s = omega (arith, clamps)

pub if_swap : (b : Bool) (p s : ℕ) → b ≡ false → (if b then p else min p s) ≤ s
if_swap b p s off = rw off (omega (arith, clamps))

-- A cell comes from one of the four edits.
abbrev pub IsOneEdit : (a b c s k l n : ℕ) → Type 0
IsOneEdit a b c s k l n =
    (n ≡ a) ⊎ ((n ≡ b) ⊎ ((n ≡ c) ⊎ ((0 < k) × (0 < l) × (n ≡ s))))

least_of : (a b c : ℕ) → (min a (min b c) ≡ a) ⊎ ((min a (min b c) ≡ b) ⊎ (min a (min b c) ≡ c))
least_of a b c = grind (arith, clamps)

plain_one : (a b c s k l : ℕ) → IsOneEdit a b c s k l (min a (min b c))
plain_one a b c s k l = elim (least_of a b c) [
  | inl x ↦ inl x
  | inr rest ↦ inr (elim rest [ inl y ↦ inl y | inr z ↦ inr (inl z) ])
]

positive_of : (k : ℕ) → (k == 0) ≡ false → 0 < k
positive_of k off = grind (arith, nat_tests)

two_least : (p s : ℕ) → (min p s ≡ p) ⊎ (min p s ≡ s)
two_least p s = grind (arith, clamps)

pub one_of : (bk bl : Bool) (a b c s k l : ℕ) → (k == 0) ≡ bk → (l == 0) ≡ bl
    → IsOneEdit a b c s k l (if bk || bl then min a (min b c) else min (min a (min b c)) s)
one_of true bl a b c s k l is_k is_l = plain_one a b c s k l
one_of false true a b c s k l is_k is_l = plain_one a b c s k l
one_of false false a b c s k l is_k is_l = elim (two_least (min a (min b c)) s) [
  | inl e ↦ subst (IsOneEdit a b c s k l) (sym e) (plain_one a b c s k l)
  | inr e ↦ inr (inr (inr (positive_of k is_k, positive_of l is_l, e)))
]

-- the least of three edits, and of a swap if there is one
abbrev pub best : (a b c s k l : ℕ) → ℕ
best a b c s k l = if (k == 0) || (l == 0) then min a (min b c) else min (min a (min b c)) s

-- where the letter at a position of the second list comes last before a position of the first
abbrev pub last_row : List ℕ → List ℕ → ℕ → ℕ → ℕ
last_row xs ys i j = last_place (λ u. nat_eq u (get_or ys j 0)) xs (get_or ys j 0) i

abbrev pub last_column : List ℕ → List ℕ → ℕ → ℕ → ℕ
last_column xs ys i j = last_place (λ v. nat_eq (get_or xs i 0) v) ys (get_or xs i 0) j

-- what the cells of the table are
pub record IsTable (xs ys : List ℕ) (f : ℕ → ℕ → ℕ) : Type 0 where
  pub first : (j : ℕ) → j ≤ length ys → f 0 j ≡ j
  pub left : (i : ℕ) → i ≤ length xs → f i 0 ≡ i
  pub step : (i j k l : ℕ) → i < length xs → j < length ys → k ≡ last_row xs ys i j
      → l ≡ last_column xs ys i j
      → f (suc i) (suc j)
      ≡ best (f i j + cost nat_eq (get_or xs i 0) (get_or ys j 0)) (f i (suc j) + 1)
      (f (suc i) j + 1) (f (k - 1) (l - 1) + (i - k) + 1 + (j - l)) k l

next_of : (xs ys : List ℕ) (i j m n : ℕ) → i < length xs → j < length ys → m ≡ i + 1 → n ≡ j + 1
    → cell (whole xs ys) m n
    ≡ best (cell (whole xs ys) i j + cost nat_eq (get_or xs i 0) (get_or ys j 0))
    (cell (whole xs ys) i n + 1) (cell (whole xs ys) m j + 1)
    (cell (whole xs ys) (last_row xs ys i j - 1) (last_column xs ys i j - 1)
    + (i - last_row xs ys i j) + 1 + (j - last_column xs ys i j)) (last_row xs ys i j)
    (last_column xs ys i j)
next_of xs ys i j m n in_xs in_ys m_is n_is = rw (m_is, n_is) (cell_next xs ys i j in_xs in_ys)

pub left_of : (xs ys : List ℕ) (i : ℕ) → i ≤ length xs → cell (whole xs ys) i 0 ≡ i
left_of xs ys zero within = cell_first xs ys 0 (omega arith)
left_of xs ys (suc i) within =
    let e : suc i ≡ i + 1 = omega arith in
    rw e (cell_left xs ys i (omega arith))

pub is_table : (xs ys : List ℕ) → IsTable xs ys (λ i j. cell (whole xs ys) i j)
is_table xs ys = record {
  first = cell_first xs ys;
  left = left_of xs ys;
  step = λ i j k l in_xs in_ys k_is l_is.
      rw (k_is, l_is) (next_of xs ys i j (suc i) (suc j) in_xs in_ys (omega arith) (omega arith));
}
