-- The table's last cell is the least number of edits.
use Rattle.std.proofs.Common.{◌≡◌, ◌∙◌, ℕ, zero, suc, ◌+◌, ◌<◌, ◌≤◌, List, [], ◌∷◌, ◌++◌, length, length-append, append_assoc, get_or, reverse, arith, refl, sym, ap, subst}
use Rattle.std.proofs.lemmas.List.{reverse-append, append-nil}
use Rattle.strsim.specs.Edits.{damerau}
use Rattle.std.specs.Prelude.{nat_eq}
use Rattle.timefd_lint_diagnosis.specs.Edits.{IsChange, put_in, taken_away, replaced, swapped, IsEdit, IsMadeBy, IsDistance}
use Rattle.timefd_lint_diagnosis.proofs.TableLemmas.{is_table}
use Rattle.timefd_lint_diagnosis.proofs.AlignLemmas.{Align, ends, puts, takes, keeps, turns, swaps, more, back, head_is, tail_is, not_empty, at_least, attained}
use Rattle.timefd_lint_diagnosis.proofs.WayLemmas.{take_all, put_all, drop_between, keep_second, without_head, other_head, swapped_head}

-- What an edit does to a letter d, to what precedes it, s, and to what follows it, p.
data Touched (d : ℕ) (s p r : List ℕ) : Type 0 where
  in_front : (u : List ℕ) → length u ≤ length s + 1 → r ≡ u ++ d ∷ p → Touched d s p r
  after : (front b old new : List ℕ) → IsChange old new → p ≡ front ++ (new ++ b)
      → r ≡ s ++ d ∷ (front ++ (old ++ b)) → Touched d s p r
  gone : r ≡ s ++ p → Touched d s p r
  other : (e : ℕ) → r ≡ s ++ e ∷ p → Touched d s p r
  earlier : (u : List ℕ) (e : ℕ) → length u + 1 ≡ length s → r ≡ u ++ d ∷ e ∷ p → Touched d s p r
  later : (e : ℕ) (b : List ℕ) → p ≡ e ∷ b → r ≡ s ++ e ∷ d ∷ b → Touched d s p r

longer : (x d : ℕ) (s p r : List ℕ) → Touched d s p r → Touched d (x ∷ s) p (x ∷ r)
longer x d s p r (in_front u le e) = in_front (x ∷ u) (omega (arith, le)) (ap (λ l. x ∷ l) e)
longer x d s p r (after f b old new change is_p e) =
    after f b old new change is_p (ap (λ l. x ∷ l) e)
longer x d s p r (gone e) = gone (ap (λ l. x ∷ l) e)
longer x d s p r (other y e) = other y (ap (λ l. x ∷ l) e)
longer x d s p r (earlier u y len e) = earlier (x ∷ u) y (omega (arith, len)) (ap (λ l. x ∷ l) e)
longer x d s p r (later y b is_p e) = later y b is_p (ap (λ l. x ∷ l) e)

-- if the letter itself is the first
touched_now : (old new : List ℕ) → IsChange old new → (d : ℕ) (p b : List ℕ) → d ∷ p ≡ new ++ b
    → Touched d [] p (old ++ b)
touched_now _ _ (put_in c) d p b e = gone (sym (tail_is d c p b e))
touched_now _ _ (taken_away c) d p b e =
    in_front (c ∷ []) (omega arith) (ap (λ l. c ∷ l) (sym e))
touched_now _ _ (replaced c x) d p b e = other c (ap (λ l. c ∷ l) (sym (tail_is d x p b e)))
touched_now _ _ (swapped c x) d p b e =
    later c b (tail_is d x p (c ∷ b) e)
    (ap (λ y. c ∷ y ∷ b) (sym (head_is d x p (c ∷ b) e)))

-- if two letters are swapped, the first of which precedes the letter
touched_pair : (s : List ℕ) (c x d : ℕ) (p b : List ℕ) → s ++ d ∷ p ≡ c ∷ b
    → Touched d (x ∷ s) p (c ∷ x ∷ b)
touched_pair [] c x d p b e =
    earlier [] x (omega arith)
    (ap (λ y. y ∷ x ∷ b) (sym (head_is d c p b e)) ∙ ap (λ l. d ∷ x ∷ l) (sym (tail_is d c p b e)))
touched_pair (y ∷ s) c x d p b e =
    in_front (c ∷ x ∷ s) (omega arith)
    (ap (λ l. c ∷ x ∷ l) (sym (tail_is y c (s ++ d ∷ p) b e)))

touched_first : (old new : List ℕ) → IsChange old new → (x : ℕ) (s : List ℕ) (d : ℕ) (p b : List ℕ)
    → x ∷ s ++ d ∷ p ≡ new ++ b → Touched d (x ∷ s) p (old ++ b)
touched_first _ _ (put_in c) x s d p b e =
    in_front s (omega arith) (sym (tail_is x c (s ++ d ∷ p) b e))
touched_first _ _ (taken_away c) x s d p b e =
    in_front (c ∷ x ∷ s) (omega arith) (ap (λ l. c ∷ l) (sym e))
touched_first _ _ (replaced c y) x s d p b e =
    in_front (c ∷ s) (omega arith) (ap (λ l. c ∷ l) (sym (tail_is x y (s ++ d ∷ p) b e)))
touched_first _ _ (swapped c y) x s d p b e =
    subst (λ z. Touched d (x ∷ s) p (c ∷ z ∷ b)) (head_is x y (s ++ d ∷ p) (c ∷ b) e)
    (touched_pair s c x d p b (tail_is x y (s ++ d ∷ p) (c ∷ b) e))

touched : (old new : List ℕ) → IsChange old new → (s : List ℕ) (d : ℕ) (p front b : List ℕ)
    → s ++ d ∷ p ≡ front ++ (new ++ b) → Touched d s p (front ++ (old ++ b))
touched old new change [] d p [] b e = touched_now old new change d p b e
touched old new change [] d p (f ∷ front) b e =
    after front b old new change (tail_is d f p (front ++ (new ++ b)) e)
    (ap (λ y. y ∷ front ++ (old ++ b)) (sym (head_is d f p (front ++ (new ++ b)) e)))
touched old new change (x ∷ s) d p [] b e = touched_first old new change x s d p b e
touched old new change (x ∷ s) d p (f ∷ front) b e =
    subst (λ y. Touched d (x ∷ s) p (y ∷ front ++ (old ++ b)))
    (head_is x f (s ++ d ∷ p) (front ++ (new ++ b)) e)
    (longer x d s p (front ++ (old ++ b))
    (touched old new change s d p front b (tail_is x f (s ++ d ∷ p) (front ++ (new ++ b)) e)))

-- The first letter after a swap has moved before its second one.
crossing : (r b : List ℕ) (n : ℕ) → Align r b n
    → (c d e : ℕ) (s t u p : List ℕ) (m : ℕ) → r ≡ e ∷ p
    → n + length s + length t + length u + 1 < m
    → Align (c ∷ s ++ e ∷ d ∷ p) (d ∷ t ++ c ∷ (u ++ b)) m
crossing _ _ _ (ends n) c d e s t u p m is le = absurd (not_empty e p is)
crossing _ _ _ (puts r q x k n way less) c d e s t u p m is le =
    subst (λ l. Align (c ∷ s ++ e ∷ d ∷ p) (d ∷ t ++ c ∷ l) m) (append_assoc u (x ∷ []) q)
    (crossing r q k way c d e s t (u ++ x ∷ []) p m is
    (omega (arith, less, le, length-append u (x ∷ []))))
crossing _ _ _ (takes r q x k n way less) c d e s t u p m is le =
    subst (λ l. Align (c ∷ l) (d ∷ t ++ c ∷ (u ++ q)) m) (append_assoc s (e ∷ []) (d ∷ p))
    (swaps p (u ++ q) (s ++ e ∷ []) t c d (k + length u) m
    (put_all u p q k (k + length u) (subst (λ l. Align l q k) (tail_is x e r p is) way) (omega arith))
    (omega (arith, less, le, length-append s (e ∷ []))))
crossing _ _ _ (keeps r q x k n way kept) c d e s t u p m is le =
    keep_second c d s t (e ∷ d ∷ p) (u ++ x ∷ q) (suc k + length u) m
    (put_all u (e ∷ d ∷ p) (x ∷ q) (suc k) (suc k + length u)
    (subst (λ y. Align (e ∷ d ∷ p) (y ∷ q) (suc k)) (sym (head_is x e r p is))
    (keeps (d ∷ p) q e (suc k) (suc k)
    (takes p q d k (suc k) (subst (λ l. Align l q k) (tail_is x e r p is) way) (omega arith))
    (omega arith))) (omega arith)) (omega (arith, kept, le))
crossing _ _ _ (turns r q x y k n way less) c d e s t u p m is le =
    keep_second c d s t (e ∷ d ∷ p) (u ++ y ∷ q) (suc (suc k) + length u) m
    (put_all u (e ∷ d ∷ p) (y ∷ q) (suc (suc k)) (suc (suc k) + length u)
    (turns (d ∷ p) q e y (suc k) (suc (suc k))
    (takes p q d k (suc k) (subst (λ l. Align l q k) (tail_is x e r p is) way) (omega arith))
    (omega arith)) (omega arith)) (omega (arith, less, le))
crossing _ _ _ (swaps r q v w x y k n way less) c d e s t u p m is le =
    let far : Align (e ∷ d ∷ v ++ y ∷ r) (y ∷ w ++ e ∷ q) (suc (suc (k + length v + length w))) =
    swaps r q (d ∷ v) w e y k (suc (suc (k + length v + length w))) way (omega arith) in
    keep_second c d s t (e ∷ d ∷ p) (u ++ (y ∷ w ++ x ∷ q))
    (suc (suc (k + length v + length w)) + length u) m
    (put_all u (e ∷ d ∷ p) (y ∷ w ++ x ∷ q) (suc (suc (k + length v + length w)))
    (suc (suc (k + length v + length w)) + length u)
    (subst (λ z. Align (e ∷ d ∷ p) (y ∷ w ++ z ∷ q) (suc (suc (k + length v + length w))))
    (sym (head_is x e (v ++ y ∷ r) p is))
    (subst (λ l. Align (e ∷ d ∷ l) (y ∷ w ++ e ∷ q) (suc (suc (k + length v + length w))))
    (tail_is x e (v ++ y ∷ r) p is) far)) (omega arith)) (omega (arith, less, le))

-- One more edit in the first word takes one more edit, as a claim on a way.
abbrev Longer : List ℕ → List ℕ → ℕ → Type 0
Longer p q n =
    (front b old new : List ℕ) → IsChange old new → p ≡ front ++ (new ++ b)
    → Align (front ++ (old ++ b)) q (suc n)

in_swap : (p q s t r : List ℕ) (c d k n : ℕ) → Align p q k → k + length s + length t < n
    → Longer p q k → Touched d s p r → Align (c ∷ r) (d ∷ t ++ c ∷ q) (suc n)
in_swap p q s t r c d k n way less rest (in_front u le e) =
    subst (λ l. Align (c ∷ l) (d ∷ t ++ c ∷ q) (suc n)) (sym e)
    (swaps p q u t c d k (suc n) way (omega (arith, less, le)))
in_swap p q s t r c d k n way less rest (after front b old new change is_p e) =
    subst (λ l. Align (c ∷ l) (d ∷ t ++ c ∷ q) (suc n)) (sym e)
    (swaps (front ++ (old ++ b)) q s t c d (suc k) (suc n) (rest front b old new change is_p)
    (omega (arith, less)))
in_swap p q s t r c d k n way less rest (gone e) =
    subst (λ l. Align (c ∷ l) (d ∷ t ++ c ∷ q) (suc n)) (sym e)
    (keep_second c d s t p q k (suc n) way (omega (arith, less)))
in_swap p q s t r c d k n way less rest (other x e) =
    subst (λ l. Align (c ∷ l) (d ∷ t ++ c ∷ q) (suc n)) (sym e)
    (keep_second c d s t (x ∷ p) q (suc k) (suc n) (takes p q x k (suc k) way (omega arith))
    (omega (arith, less)))
in_swap p q s t r c d k n way less rest (earlier u x len e) =
    subst (λ l. Align (c ∷ l) (d ∷ t ++ c ∷ q) (suc n)) (sym e)
    (swaps (x ∷ p) q u t c d (suc k) (suc n) (takes p q x k (suc k) way (omega arith))
    (omega (arith, less, len)))
in_swap p q s t r c d k n way less rest (later x b is_p e) =
    subst (λ l. Align (c ∷ l) (d ∷ t ++ c ∷ q) (suc n)) (sym e)
    (crossing p q k way c d x s t [] b (suc n) is_p (omega (arith, less)))

at_head : (old new : List ℕ) → IsChange old new → (r q b : List ℕ) (n : ℕ) → Align r q n
    → r ≡ new ++ b → Align (old ++ b) q (suc n)
at_head _ _ (put_in c) r q b n way e = without_head r q n way c b e
at_head _ _ (taken_away c) r q b n way e =
    takes b q c n (suc n) (subst (λ l. Align l q n) e way) (omega arith)
at_head _ _ (replaced c d) r q b n way e = other_head r q n way c d b e
at_head _ _ (swapped c d) r q b n way e = swapped_head r q n way c d b e

one_more : (r q : List ℕ) (n : ℕ) → Align r q n → Longer r q n
one_more r q n way [] b old new change e = at_head old new change r q b n way e
one_more _ _ _ (ends n) (f ∷ front) b old new change e =
    absurd (not_empty f (front ++ (new ++ b)) e)
one_more _ _ _ (puts r q x k n way less) (f ∷ front) b old new change e =
    puts (f ∷ front ++ (old ++ b)) q x (suc k) (suc n)
    (one_more r q k way (f ∷ front) b old new change e) (omega (arith, less))
one_more _ _ _ (takes r q x k n way less) (f ∷ front) b old new change e =
    takes (front ++ (old ++ b)) q f (suc k) (suc n)
    (one_more r q k way front b old new change (tail_is x f r (front ++ (new ++ b)) e))
    (omega (arith, less))
one_more _ _ _ (keeps r q x k n way le) (f ∷ front) b old new change e =
    subst (λ y. Align (y ∷ front ++ (old ++ b)) (x ∷ q) (suc n)) (head_is x f r (front ++ (new ++ b)) e)
    (keeps (front ++ (old ++ b)) q x (suc k) (suc n)
    (one_more r q k way front b old new change (tail_is x f r (front ++ (new ++ b)) e))
    (omega (arith, le)))
one_more _ _ _ (turns r q x y k n way less) (f ∷ front) b old new change e =
    turns (front ++ (old ++ b)) q f y (suc k) (suc n)
    (one_more r q k way front b old new change (tail_is x f r (front ++ (new ++ b)) e))
    (omega (arith, less))
one_more _ _ _ (swaps r q s t x y k n way less) (f ∷ front) b old new change e =
    subst (λ z. Align (z ∷ front ++ (old ++ b)) (y ∷ t ++ x ∷ q) (suc n))
    (head_is x f (s ++ y ∷ r) (front ++ (new ++ b)) e)
    (in_swap r q s t (front ++ (old ++ b)) x y k n way less (one_more r q k way)
    (touched old new change s y r front b (tail_is x f (s ++ y ∷ r) (front ++ (new ++ b)) e)))

same_way : (p : List ℕ) → Align p p 0
same_way [] = ends 0
same_way (c ∷ p) = keeps p p c 0 0 (same_way p) (omega arith)

-- As many edits are a way.
pub way_of : (n : ℕ) (a b : List ℕ) → IsMadeBy n a b → Align a b n
way_of zero a b e = subst (λ l. Align a l 0) e (same_way a)
way_of (suc n) a b (c, edit, rest) =
    subst (λ l. Align l b (suc n)) (sym edit.5)
    (one_more c b n (way_of n c b rest) edit.0 edit.1 edit.2 edit.3 edit.4 edit.6)
