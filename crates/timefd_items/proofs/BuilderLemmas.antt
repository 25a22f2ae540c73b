-- Trees that are put together: how many there are, and that what each of them reserves still fits.
use Rattle.std.proofs.Common.{◌≡◌, ◌∙◌, ℕ, zero, suc, ◌+◌, ◌-◌, ◌^◌, ◌<◌, ◌≤◌, Bool, true, false, if◌then◌else◌, nat_le, List, [], ◌∷◌}
use Rattle.std.proofs.Common.{◌++◌, length, take, drop, Some, None, is_some, refl, sym, ap, arith, length-append}
use Rattle.std.proofs.lemmas.Bool.Decides.{nat_tests}
use Rattle.std.proofs.lemmas.List.{take-append-drop}
use Rattle.timefd_lang_node_list.specs.declared.node_list.NodeList.{NodeList}
use Rattle.timefd_lang_node_list.specs.Nodes.{before, ending, kept_bytes, largest}
use Rattle.timefd_lang_node_list.specs.NodeTrees.{node_count}
use Rattle.timefd_lang_component.specs.Reserved.{reserve, reserve_all, reserve_first, within}
use Rattle.timefd_lang_node_list.specs.Tallies.{kept_sum, sum_within}
use Rattle.timefd_lang_component.specs.Tree.{Tree, trees, pack}
use Rattle.timefd_lang_node_list.proofs.NodeLemmas.{length-before, length-ending}

-- How many there are. A `Vec` has fewer nodes than this.
pub few_nodes : (l : NodeList) → node_count l < 2 ^ 63
few_nodes l = omega (arith, l.nodes.ok.0, l.nodes.ok.1, l.nodes.small)

pub length-one_more : (ts us : List Tree) (t : Tree) → us ≡ ts ++ t ∷ [] → length ts + 1 ≡ length us
length-one_more ts us t e = omega (arith, ap length e, length-append ts (t ∷ []))

pub length-made : (k : ℕ) (ts us : List Tree) (t : Tree) → us ≡ before k ts ++ t ∷ []
    → length ts - k + 1 ≡ length us
length-made k ts us t e = omega (arith, length-one_more (before k ts) us t e, length-before k ts)

-- What the greatest of them reserves.
largest-take : (n : ℕ) (ts : List Tree) → largest (take n ts) ≤ largest ts
largest-take zero ts = omega arith
largest-take (suc n) [] = omega arith
largest-take (suc n) (t ∷ ts) = omega (arith, largest-take n ts)

largest-drop : (n : ℕ) (ts : List Tree) → largest (drop n ts) ≤ largest ts
largest-drop zero ts = omega arith
largest-drop (suc n) [] = omega arith
largest-drop (suc n) (t ∷ ts) = omega (arith, largest-drop n ts)

largest-append : (ts : List Tree) (t : Tree) (most : ℕ) → largest ts ≤ most → reserve t ≤ most
    → largest (ts ++ t ∷ []) ≤ most
largest-append [] t most h g = omega (arith, g)
largest-append (u ∷ ts) t most h g = omega (arith, h, largest-append ts t most (omega (arith, h)) g)

pub largest-one_more : (ts us : List Tree) (t : Tree) (most : ℕ) → us ≡ ts ++ t ∷ []
    → largest ts ≤ most → reserve t ≤ most → largest us ≤ most
largest-one_more ts us t most e h g = rw e (largest-append ts t most h g)

pub largest-made : (k : ℕ) (ts us : List Tree) (t : Tree) (most : ℕ) → us ≡ before k ts ++ t ∷ []
    → largest ts ≤ most → reserve t ≤ most → largest us ≤ most
largest-made k ts us t most e h g =
    largest-one_more (before k ts) us t most e (omega (arith, h, largest-take (length ts - k) ts)) g

first_of : (us : List Tree) → reserve_first (trees us) ≤ largest us
first_of [] = omega arith
first_of (u ∷ us) = omega arith

-- the first of the last `k` trees is one of all
pub first-ending : (k : ℕ) (ts : List Tree) (most : ℕ) → largest ts ≤ most
    → reserve_first (trees (ending k ts)) ≤ most
first-ending k ts most h = omega (arith, h, largest-drop (length ts - k) ts, first_of (ending k ts))

pub one_packed : (us : List Tree) → length us ≡ 1 → reserve (pack us) ≡ reserve_first (trees us)
one_packed [] h = absurd (omega (arith, h))
one_packed (u ∷ []) h = refl
one_packed (u ∷ v ∷ us) h = absurd (omega (arith, h))

formatted : (format : Bool) (bytes most : ℕ) → bytes ≤ most → (if format then bytes else 0) ≤ most
formatted true bytes most h = h
formatted false bytes most h = omega arith

pub optional-ending : (format : Bool) (ts : List Tree) (most : ℕ) → 1 ≤ length ts
    → largest ts ≤ most → (if format then reserve (pack (ending 1 ts)) else 0) ≤ most
optional-ending format ts most h g =
    formatted format (reserve (pack (ending 1 ts))) most
    (omega (arith, one_packed (ending 1 ts) (length-ending 1 ts h), first-ending 1 ts most g))

-- If each fits, what their nodes keep sums up to what they reserve.
sum_fits : (sum bytes : ℕ) → bytes ≤ 2 ^ 64 - 1
    → sum_within (within (2 ^ 64 - 1) sum) (kept_bytes bytes) ≡ within (2 ^ 64 - 1) (bytes + sum)
sum_fits sum bytes h = grind (arith, nat_tests)

kept_sum-fits : (ts : List Tree) → largest ts ≤ 2 ^ 64 - 1
    → kept_sum ts ≡ within (2 ^ 64 - 1) (reserve_all (trees ts))
kept_sum-fits [] h = refl
kept_sum-fits (t ∷ ts) h =
    ap (λ s. sum_within s (kept_bytes (reserve t))) (kept_sum-fits ts (omega (arith, h))) ∙
    sum_fits (reserve_all (trees ts)) (reserve t) (omega (arith, h))

some_within : (b : Bool) (bytes : ℕ) → is_some (if b then Some bytes else None) ≡ b
some_within true bytes = refl
some_within false bytes = refl

pub sum_is_kept : (k : ℕ) (ts : List Tree) → largest ts ≤ 2 ^ 64 - 1
    → is_some (kept_sum (ending k ts)) ≡ nat_le (reserve_all (trees (ending k ts))) (2 ^ 64 - 1)
sum_is_kept k ts h =
    ap is_some (kept_sum-fits (ending k ts) (omega (arith, h, largest-drop (length ts - k) ts)))
    ∙ some_within (nat_le (reserve_all (trees (ending k ts))) (2 ^ 64 - 1))
    (reserve_all (trees (ending k ts)))

-- A single tree stays as it is.
alone : (us : List Tree) → length us ≡ 1 → us ≡ pack us ∷ []
alone [] h = absurd (omega (arith, h))
alone (u ∷ []) h = refl
alone (u ∷ v ∷ us) h = absurd (omega (arith, h))

pub one_stays : (k : ℕ) (ts : List Tree) → k ≡ 1 → k ≤ length ts
    → ts ≡ before k ts ++ pack (ending k ts) ∷ []
one_stays k ts e h =
    sym (take-append-drop (length ts - k) ts) ∙
    ap (λ us. before k ts ++ us) (alone (ending k ts) (length-ending k ts h ∙ e))
