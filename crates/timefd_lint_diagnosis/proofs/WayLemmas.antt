-- One more edit before a way takes one more edit.
use Rattle.std.proofs.Common.{◌≡◌, ◌∙◌, ℕ, zero, suc, ◌+◌, ◌<◌, ◌≤◌, List, [], ◌∷◌, ◌++◌, length, length-append, append_assoc, arith, refl, sym, ap, subst}
use Rattle.timefd_lint_diagnosis.specs.Edits.{IsChange, put_in, taken_away, replaced, swapped}
use Rattle.timefd_lint_diagnosis.proofs.AlignLemmas.{Align, ends, puts, takes, keeps, turns, swaps, more, head_is, tail_is, not_empty}

pub take_all : (s p q : List ℕ) (n m : ℕ) → Align p q n → n + length s ≤ m → Align (s ++ p) q m
take_all [] p q n m way le = more p q n m way (omega (arith, le))
take_all (x ∷ s) p q n m way le =
    takes (s ++ p) q x (n + length s) m (take_all s p q n (n + length s) way (omega arith))
    (omega (arith, le))

pub put_all : (t p q : List ℕ) (n m : ℕ) → Align p q n → n + length t ≤ m → Align p (t ++ q) m
put_all [] p q n m way le = more p q n m way (omega (arith, le))
put_all (x ∷ t) p q n m way le =
    puts p (t ++ q) x (n + length t) m (put_all t p q n (n + length t) way (omega arith))
    (omega (arith, le))

-- two letters in order, with what is between them taken away, and something else put between them
pub drop_between : (s t p q : List ℕ) (d n m : ℕ) → Align p q n → n + length s + length t ≤ m
    → Align (s ++ d ∷ p) (d ∷ t ++ q) m
drop_between s t p q d n m way le =
    take_all s (d ∷ p) (d ∷ t ++ q) (n + length t) m
    (keeps p (t ++ q) d (n + length t) (n + length t) (put_all t p q n (n + length t) way (omega arith)) (omega arith))
    (omega (arith, le))

-- A way that keeps its head, and then a way without the head.
pub keep_second : (c d : ℕ) (s t p q : List ℕ) (n m : ℕ) → Align p q n → n + length s + length t + 1 ≤ m
    → Align (c ∷ s ++ p) (d ∷ t ++ c ∷ q) m
keep_second c d s t p q n m way le =
    puts (c ∷ s ++ p) (t ++ c ∷ q) d (n + length s + length t) m
    (put_all t (c ∷ s ++ p) (c ∷ q) (n + length s) (n + length s + length t)
    (keeps (s ++ p) q c (n + length s) (n + length s) (take_all s p q n (n + length s) way (omega arith))
    (omega arith)) (omega arith)) (omega (arith, le))

pub without_head : (r b : List ℕ) (n : ℕ) → Align r b n → (c : ℕ) (p : List ℕ) → r ≡ c ∷ p
    → Align p b (suc n)
without_head _ _ _ (ends n) c p e = absurd (not_empty c p e)
without_head _ _ _ (puts r q x k n way less) c p e =
    puts p q x (suc k) (suc n) (without_head r q k way c p e) (omega (arith, less))
without_head _ _ _ (takes r q x k n way less) c p e =
    subst (λ l. Align l q (suc n)) (tail_is x c r p e) (more r q k (suc n) way (omega (arith, less)))
without_head _ _ _ (keeps r q x k n way le) c p e =
    puts p q x k (suc n) (subst (λ l. Align l q k) (tail_is x c r p e) way) (omega (arith, le))
without_head _ _ _ (turns r q x y k n way less) c p e =
    puts p q y k (suc n) (subst (λ l. Align l q k) (tail_is x c r p e) way) (omega (arith, less))
without_head _ _ _ (swaps r q s t x y k n way less) c p e =
    subst (λ l. Align l (y ∷ t ++ x ∷ q) (suc n)) (tail_is x c (s ++ y ∷ r) p e)
    (drop_between s t r (x ∷ q) y (suc k) (suc n) (puts r q x k (suc k) way (omega arith))
    (omega (arith, less)))

pub other_head : (r b : List ℕ) (n : ℕ) → Align r b n → (c d : ℕ) (p : List ℕ) → r ≡ d ∷ p
    → Align (c ∷ p) b (suc n)
other_head _ _ _ (ends n) c d p e = absurd (not_empty d p e)
other_head _ _ _ (puts r q x k n way less) c d p e =
    puts (c ∷ p) q x (suc k) (suc n) (other_head r q k way c d p e) (omega (arith, less))
other_head _ _ _ (takes r q x k n way less) c d p e =
    takes p q c k (suc n) (subst (λ l. Align l q k) (tail_is x d r p e) way) (omega (arith, less))
other_head _ _ _ (keeps r q x k n way le) c d p e =
    turns p q c x k (suc n) (subst (λ l. Align l q k) (tail_is x d r p e) way) (omega (arith, le))
other_head _ _ _ (turns r q x y k n way less) c d p e =
    turns p q c y k (suc n) (subst (λ l. Align l q k) (tail_is x d r p e) way) (omega (arith, less))
other_head _ _ _ (swaps r q s t x y k n way less) c d p e =
    subst (λ l. Align (c ∷ l) (y ∷ t ++ x ∷ q) (suc n)) (tail_is x d (s ++ y ∷ r) p e)
    (takes (s ++ y ∷ r) (y ∷ t ++ x ∷ q) c n (suc n)
    (drop_between s t r (x ∷ q) y (suc k) n (puts r q x k (suc k) way (omega arith))
    (omega (arith, less))) (omega arith))

-- one more letter after the head
longer_head : (r b : List ℕ) (n : ℕ) → Align r b n → (c d : ℕ) (p : List ℕ) → r ≡ c ∷ p
    → Align (c ∷ d ∷ p) b (suc n)
longer_head _ _ _ (ends n) c d p e = absurd (not_empty c p e)
longer_head _ _ _ (puts r q x k n way less) c d p e =
    puts (c ∷ d ∷ p) q x (suc k) (suc n) (longer_head r q k way c d p e) (omega (arith, less))
longer_head _ _ _ (takes r q x k n way less) c d p e =
    takes (d ∷ p) q c (suc k) (suc n)
    (takes p q d k (suc k) (subst (λ l. Align l q k) (tail_is x c r p e) way) (omega arith))
    (omega (arith, less))
longer_head _ _ _ (keeps r q x k n way le) c d p e =
    subst (λ y. Align (c ∷ d ∷ p) (y ∷ q) (suc n)) (sym (head_is x c r p e))
    (keeps (d ∷ p) q c (suc k) (suc n)
    (takes p q d k (suc k) (subst (λ l. Align l q k) (tail_is x c r p e) way) (omega arith))
    (omega (arith, le)))
longer_head _ _ _ (turns r q x y k n way less) c d p e =
    turns (d ∷ p) q c y (suc k) (suc n)
    (takes p q d k (suc k) (subst (λ l. Align l q k) (tail_is x c r p e) way) (omega arith))
    (omega (arith, less))
longer_head _ _ _ (swaps r q s t x y k n way less) c d p e =
    subst (λ z. Align (c ∷ d ∷ p) (y ∷ t ++ z ∷ q) (suc n)) (sym (head_is x c (s ++ y ∷ r) p e))
    (subst (λ l. Align (c ∷ d ∷ l) (y ∷ t ++ c ∷ q) (suc n)) (tail_is x c (s ++ y ∷ r) p e)
    (swaps r q (d ∷ s) t c y k (suc n) way (omega (arith, less))))

-- A second letter comes first, before what is put there.
second_first : (r b : List ℕ) (n : ℕ) → Align r b n → (c d : ℕ) (p t : List ℕ) (m : ℕ) → r ≡ c ∷ p
    → n + length t < m → Align (c ∷ d ∷ p) (d ∷ t ++ b) m
second_first _ _ _ (ends n) c d p t m e le = absurd (not_empty c p e)
second_first _ _ _ (puts r q x k n way less) c d p t m e le =
    subst (λ l. Align (c ∷ d ∷ p) (d ∷ l) m) (append_assoc t (x ∷ []) q)
    (second_first r q k way c d p (t ++ x ∷ []) m e
    (omega (arith, less, le, length-append t (x ∷ []))))
second_first _ _ _ (takes r q x k n way less) c d p t m e le =
    takes (d ∷ p) (d ∷ t ++ q) c (k + length t) m
    (drop_between [] t p q d k (k + length t) (subst (λ l. Align l q k) (tail_is x c r p e) way)
    (omega arith)) (omega (arith, less, le))
second_first _ _ _ (keeps r q x k n way kept) c d p t m e le =
    subst (λ y. Align (c ∷ d ∷ p) (d ∷ t ++ y ∷ q) m) (sym (head_is x c r p e))
    (swaps p q [] t c d k m (subst (λ l. Align l q k) (tail_is x c r p e) way)
    (omega (arith, kept, le)))
second_first _ _ _ (turns r q x y k n way less) c d p t m e le =
    takes (d ∷ p) (d ∷ t ++ y ∷ q) c (suc k + length t) m
    (drop_between [] t p (y ∷ q) d (suc k) (suc k + length t)
    (puts p q y k (suc k) (subst (λ l. Align l q k) (tail_is x c r p e) way) (omega arith))
    (omega arith)) (omega (arith, less, le))
second_first _ _ _ (swaps r q u v x y k n way less) c d p t m e le =
    let rest : Align (u ++ y ∷ r) (y ∷ v ++ x ∷ q) (suc k + length u + length v) =
    drop_between u v r (x ∷ q) y (suc k) (suc k + length u + length v)
    (puts r q x k (suc k) way (omega arith)) (omega arith) in
    takes (d ∷ p) (d ∷ t ++ (y ∷ v ++ x ∷ q)) c (suc k + length u + length v + length t) m
    (drop_between [] t p (y ∷ v ++ x ∷ q) d (suc k + length u + length v)
    (suc k + length u + length v + length t)
    (subst (λ l. Align l (y ∷ v ++ x ∷ q) (suc k + length u + length v))
    (tail_is x c (u ++ y ∷ r) p e) rest) (omega arith)) (omega (arith, less, le))

-- Two letters at the head are swapped.
pub swapped_head : (r b : List ℕ) (n : ℕ) → Align r b n → (c d : ℕ) (p : List ℕ) → r ≡ d ∷ c ∷ p
    → Align (c ∷ d ∷ p) b (suc n)
swapped_head _ _ _ (ends n) c d p e = absurd (not_empty d (c ∷ p) e)
swapped_head _ _ _ (puts r q x k n way less) c d p e =
    puts (c ∷ d ∷ p) q x (suc k) (suc n) (swapped_head r q k way c d p e) (omega (arith, less))
swapped_head _ _ _ (takes r q x k n way less) c d p e =
    more (c ∷ d ∷ p) q (suc k) (suc n)
    (longer_head r q k way c d p (tail_is x d r (c ∷ p) e)) (omega (arith, less))
swapped_head _ _ _ (keeps r q x k n way le) c d p e =
    subst (λ y. Align (c ∷ d ∷ p) (y ∷ q) (suc n)) (sym (head_is x d r (c ∷ p) e))
    (second_first r q k way c d p [] (suc n) (tail_is x d r (c ∷ p) e) (omega (arith, le)))
swapped_head _ _ _ (turns r q x y k n way less) c d p e =
    puts (c ∷ d ∷ p) q y (suc k) (suc n)
    (longer_head r q k way c d p (tail_is x d r (c ∷ p) e)) (omega (arith, less))
swapped_head _ _ _ (swaps r q [] t x y k n way less) c d p e =
    let tail = tail_is x d (y ∷ r) (c ∷ p) e in
    let first = head_is x d (y ∷ r) (c ∷ p) e in
    let second = head_is y c r p tail in
    subst (λ z. Align (c ∷ d ∷ p) (y ∷ t ++ z ∷ q) (suc n)) (sym first)
    (subst (λ z. Align (c ∷ d ∷ p) (z ∷ t ++ d ∷ q) (suc n)) (sym second)
    (drop_between [] t (d ∷ p) (d ∷ q) c k (suc n)
    (keeps p q d k k (subst (λ l. Align l q k) (tail_is y c r p tail) way) (omega arith))
    (omega (arith, less))))
swapped_head _ _ _ (swaps r q (z ∷ s) t x y k n way less) c d p e =
    let tail = tail_is x d (z ∷ s ++ y ∷ r) (c ∷ p) e in
    takes (d ∷ p) (y ∷ t ++ x ∷ q) c n (suc n)
    (subst (λ w. Align (w ∷ p) (y ∷ t ++ x ∷ q) n) (head_is x d (z ∷ s ++ y ∷ r) (c ∷ p) e)
    (subst (λ l. Align (x ∷ l) (y ∷ t ++ x ∷ q) n) (tail_is z c (s ++ y ∷ r) p tail)
    (swaps r q s t x y k n way (omega (arith, less))))) (omega arith)
