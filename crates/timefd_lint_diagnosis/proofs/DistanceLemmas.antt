-- The table's last cell is the least number of edits.
use Rattle.std.proofs.Common.{◌≡◌, ◌∙◌, ℕ, zero, suc, ◌+◌, ◌<◌, ◌≤◌, List, [], ◌∷◌, ◌++◌, length, append_assoc, get_or, take, reverse, arith, refl, sym, ap, subst}
use Rattle.std.proofs.lemmas.List.{reverse-append, reverse-reverse, take_all}
use Rattle.std.proofs.lemmas.Grind.{take_at_read}
use Rattle.std.specs.Prelude.{nat_eq}
use Rattle.strsim.specs.Edits.{damerau}
use Rattle.timefd_lint_diagnosis.specs.Edits.{IsChange, put_in, taken_away, replaced, swapped, IsEdit, IsMadeBy, IsDistance}
use Rattle.timefd_lint_diagnosis.proofs.TableLemmas.{is_table, cell_first, left_of}
use Rattle.timefd_lint_diagnosis.proofs.AlignLemmas.{Align, ends, puts, takes, keeps, turns, swaps, back, at_least, attained}
use Rattle.timefd_lint_diagnosis.proofs.EditLemmas.{way_of}

-- at most this many edits
abbrev MadeIn : ℕ → List ℕ → List ℕ → Type 0
MadeIn m a b = (n : ℕ) × (n ≤ m) × IsMadeBy n a b

edit_after : (c : ℕ) (a b : List ℕ) → IsEdit a b → IsEdit (c ∷ a) (c ∷ b)
edit_after c a b e =
    (c ∷ e.0, e.1, e.2, e.3, e.4, ap (λ l. c ∷ l) e.5, ap (λ l. c ∷ l) e.6)

pub made_after : (n c : ℕ) (a b : List ℕ) → IsMadeBy n a b → IsMadeBy n (c ∷ a) (c ∷ b)
made_after zero c a b e = ap (λ l. c ∷ l) e
made_after (suc n) c a b (m, edit, rest) =
    (c ∷ m, edit_after c a m edit, made_after n c m b rest)

all_after : (l a b : List ℕ) (m : ℕ) → MadeIn m a b → MadeIn m (l ++ a) (l ++ b)
all_after [] a b m made = made
all_after (c ∷ l) a b m made =
    let r = all_after l a b m made in
    (r.0, r.1, made_after r.0 c (l ++ a) (l ++ b) r.2)

first_edit : (a c b : List ℕ) (m k : ℕ) → IsEdit a c → MadeIn m c b → m < k → MadeIn k a b
first_edit a c b m k edit made less = (suc made.0, omega (arith, made.1, less), (c, edit, made.2))

without_between : (c : ℕ) (s p b : List ℕ) (m k : ℕ) → MadeIn m (c ∷ p) b → m + length s ≤ k
    → MadeIn k (c ∷ s ++ p) b
without_between c [] p b m k made le = (made.0, omega (arith, made.1, le), made.2)
without_between c (x ∷ s) p b m k made le =
    first_edit (c ∷ x ∷ s ++ p) (c ∷ s ++ p) b (m + length s) k
    (c ∷ [], s ++ p, x ∷ [], [], taken_away x, refl, refl)
    (without_between c s p b m (m + length s) made (omega arith)) (omega (arith, le))

with_between : (f t r b : List ℕ) (m k : ℕ) → MadeIn m (f ++ (t ++ r)) b → m + length t ≤ k
    → MadeIn k (f ++ r) b
with_between f [] r b m k made le = (made.0, omega (arith, made.1, le), made.2)
with_between f (x ∷ t) r b m k made le =
    let next : MadeIn (m + length t) ((f ++ x ∷ []) ++ r) b =
    with_between (f ++ x ∷ []) t r b m (m + length t)
    (subst (λ l. MadeIn m l b) (sym (append_assoc f (x ∷ []) (t ++ r))) made) (omega arith) in
    first_edit (f ++ r) (f ++ (x ∷ r)) b (m + length t) k
    (f, r, [], x ∷ [], put_in x, refl, refl)
    (subst (λ l. MadeIn (m + length t) l b) (append_assoc f (x ∷ []) r) next) (omega (arith, le))

made_of : (p q : List ℕ) (m : ℕ) → Align p q m → MadeIn m p q
made_of _ _ _ (ends m) = (0, omega arith, refl)
made_of _ _ _ (puts p q c n m way less) =
    first_edit p (c ∷ p) (c ∷ q) n m ([], p, [], c ∷ [], put_in c, refl, refl)
    (all_after (c ∷ []) p q n (made_of p q n way)) less
made_of _ _ _ (takes p q c n m way less) =
    first_edit (c ∷ p) p q n m ([], p, c ∷ [], [], taken_away c, refl, refl) (made_of p q n way) less
made_of _ _ _ (keeps p q c n m way le) =
    let r = all_after (c ∷ []) p q n (made_of p q n way) in
    (r.0, omega (arith, r.1, le), r.2)
made_of _ _ _ (turns p q c d n m way less) =
    first_edit (c ∷ p) (d ∷ p) (d ∷ q) n m ([], p, c ∷ [], d ∷ [], replaced c d, refl, refl)
    (all_after (d ∷ []) p q n (made_of p q n way)) less
made_of _ _ _ (swaps p q s t c d n m way less) =
    let whole : MadeIn n ((d ∷ []) ++ (t ++ (c ∷ p))) (d ∷ t ++ c ∷ q) =
    all_after (d ∷ []) (t ++ c ∷ p) (t ++ c ∷ q) n
    (all_after t (c ∷ p) (c ∷ q) n (all_after (c ∷ []) p q n (made_of p q n way))) in
    let there : MadeIn (n + length t) (d ∷ c ∷ p) (d ∷ t ++ c ∷ q) =
    with_between (d ∷ []) t (c ∷ p) (d ∷ t ++ c ∷ q) n (n + length t) whole (omega arith) in
    let here : MadeIn (suc (n + length t)) (c ∷ d ∷ p) (d ∷ t ++ c ∷ q) =
    first_edit (c ∷ d ∷ p) (d ∷ c ∷ p) (d ∷ t ++ c ∷ q) (n + length t) (suc (n + length t))
    ([], p, c ∷ d ∷ [], d ∷ c ∷ [], swapped c d, refl, refl) there (omega arith) in
    without_between c s (d ∷ p) (d ∷ t ++ c ∷ q) (suc (n + length t)) m here (omega (arith, less))

change_reversed : (old new : List ℕ) → IsChange old new → IsChange (reverse old) (reverse new)
change_reversed _ _ (put_in c) = put_in c
change_reversed _ _ (taken_away c) = taken_away c
change_reversed _ _ (replaced c d) = replaced c d
change_reversed _ _ (swapped c d) = swapped d c

three_reversed : (a b c : List ℕ) → reverse (a ++ (b ++ c)) ≡ reverse c ++ (reverse b ++ reverse a)
three_reversed a b c =
    reverse-append a (b ++ c) ∙ ap (λ l. l ++ reverse a) (reverse-append b c)
    ∙ append_assoc (reverse c) (reverse b) (reverse a)

edit_reversed : (a b : List ℕ) → IsEdit a b → IsEdit (reverse a) (reverse b)
edit_reversed a b e = (
  reverse e.1,
  reverse e.0,
  reverse e.2,
  reverse e.3,
  change_reversed e.2 e.3 e.4,
  ap reverse e.5 ∙ three_reversed e.0 e.2 e.1,
  ap reverse e.6 ∙ three_reversed e.0 e.3 e.1,
)

made_reversed : (n : ℕ) (a b : List ℕ) → IsMadeBy n a b → IsMadeBy n (reverse a) (reverse b)
made_reversed zero a b e = ap reverse e
made_reversed (suc n) a b (c, edit, rest) =
    (reverse c, edit_reversed a c edit, made_reversed n c b rest)

back_is : (xs : List ℕ) (n : ℕ) → n ≤ length xs → back xs n ≡ reverse (take n xs)
back_is xs zero within = refl
back_is xs (suc n) within =
    let plus : suc n ≡ n + 1 = omega arith in
    let more : take (suc n) xs ≡ take n xs ++ get_or xs n 0 ∷ [] =
    ap (λ (m : ℕ). take m xs) plus ∙ (take_at_read xs n 0 (omega arith)).1 in
    ap (λ l. get_or xs n 0 ∷ l) (back_is xs n (omega arith))
    ∙ sym (ap reverse more ∙ reverse-append (take n xs) (get_or xs n 0 ∷ []))

back_whole : (xs : List ℕ) → back xs (length xs) ≡ reverse xs
back_whole xs =
    back_is xs (length xs) (omega arith) ∙ ap reverse (take_all (length xs) xs (omega arith))

-- It takes no fewer edits from one word to the other than the table says.
pub no_fewer : (a b : List ℕ) (m : ℕ) → IsMadeBy m a b → damerau nat_eq a b ≤ m
no_fewer a b m made =
    let way = way_of m (reverse a) (reverse b) (made_reversed m a b made) in
    at_least a b _ (is_table a b) (reverse a) (reverse b) m (length a) (length b) way (omega arith)
    (omega arith) (sym (back_whole a)) (sym (back_whole b))

as_many : (a b : List ℕ) → MadeIn (damerau nat_eq a b) a b
as_many a b =
    let way = attained a b _ (is_table a b) (length a) (length b) (omega arith) (omega arith) in
    let made = made_of (back a (length a)) (back b (length b)) (damerau nat_eq a b) way in
    let turned = made_reversed made.0 (back a (length a)) (back b (length b)) made.2 in (
      made.0,
      made.1,
      subst (λ l. IsMadeBy made.0 l b) (ap reverse (back_whole a) ∙ reverse-reverse a)
          (subst (λ l. IsMadeBy made.0 (reverse (back a (length a))) l)
          (ap reverse (back_whole b) ∙ reverse-reverse b) turned),
    )

pub is_distance : (a b : List ℕ) → IsDistance a b (damerau nat_eq a b)
is_distance a b =
    let made = as_many a b in
    let least = no_fewer a b made.0 made.2 in
    let same : made.0 ≡ damerau nat_eq a b = omega (arith, least, made.1) in
    record { made = subst (λ n. IsMadeBy n a b) same made.2; least = no_fewer a b }

pub same_distance : (a : List ℕ) → IsDistance a a 0
same_distance a = record { made = refl; least = λ m made. omega arith }

pub from_nothing : (b : List ℕ) → IsDistance [] b (length b)
from_nothing b =
    subst (IsDistance [] b) (cell_first [] b (length b) (omega arith)) (is_distance [] b)

pub to_nothing : (a : List ℕ) → IsDistance a [] (length a)
to_nothing a = subst (IsDistance a []) (left_of a [] (length a) (omega arith)) (is_distance a [])
