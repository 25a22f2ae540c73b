-- The sum that a builder keeps of what its trees reserve.
use Rattle.std.proofs.Common.{◌≡◌, ◌∙◌, ℕ, ◌+◌, ◌-◌, ◌^◌, ◌≤◌, Bool, true, false, ◌&&◌, List, [], ◌∷◌, ◌++◌, length, min, refl, sym, ap}
use Rattle.std.proofs.Common.{arith, rules}
use Rattle.std.proofs.lemmas.List.{take-append-drop}
use Rattle.timefd_lang_node_list.specs.Nodes.{Fit, Fits, Part, before, ending, grown_by, kept_bytes, together}
use Rattle.timefd_lang_component.specs.Reserved.{reserve, reserve_all, reserve_first, trees_count}
use Rattle.timefd_lang_node_list.specs.Tallies.{IsSum}
use Rattle.timefd_lang_component.specs.Tree.{Tree, compound, optional, pack, trees}
use Rattle.timefd_lang_node_list.proofs.NodeListLemmas.{only_first}
use Rattle.timefd_lang_node_list.proofs.NodeLemmas.{ending-append, length-ending}
use Rattle.timefd_lang_node_list.proofs.ViewLemmas.{count_all}

reserve_all-append : (ts us : List Tree)
    → reserve_all (trees (ts ++ us)) ≡ reserve_all (trees ts) + reserve_all (trees us)
reserve_all-append [] us = omega arith
reserve_all-append (t ∷ ts) us = omega (arith, reserve_all-append ts us)

-- what is known about a sum holds for an equal one
sum_of : (ts us : List Tree) (known : Bool) (sum : ℕ)
    → reserve_all (trees ts) ≡ reserve_all (trees us) → IsSum ts known sum → IsSum us known sum
sum_of ts us known sum e h = λ k. h k ∙ ap kept_bytes e

kept_saturates : (rest bytes : ℕ)
    → min (kept_bytes rest + bytes) (2 ^ 64 - 1) ≡ kept_bytes (rest + bytes)
kept_saturates rest bytes = omega arith

pub sum-one_more : (ts us : List Tree) (t : Tree) (known : Bool) (sum bytes : ℕ)
    → us ≡ ts ++ t ∷ [] → bytes ≡ reserve t → IsSum ts known sum
    → IsSum us known (min (sum + bytes) (2 ^ 64 - 1))
sum-one_more ts us t known sum bytes e g h = λ k.
    ap (λ s. min (s + bytes) (2 ^ 64 - 1)) (h k)
    ∙ kept_saturates (reserve_all (trees ts)) bytes
    ∙ ap kept_bytes (omega (
      arith,
      g,
      ap (λ xs. reserve_all (trees xs)) e,
      reserve_all-append ts (t ∷ []),
    ))

-- the last `k` trees as one that reserves as much
made_same : (k : ℕ) (ts us : List Tree) (t : Tree) → us ≡ before k ts ++ t ∷ []
    → reserve t ≡ reserve_all (trees (ending k ts))
    → reserve_all (trees ts) ≡ reserve_all (trees us)
made_same k ts us t e g =
    omega (
      arith,
      g,
      ap (λ xs. reserve_all (trees xs)) e,
      reserve_all-append (before k ts) (t ∷ []),
      reserve_all-append (before k ts) (ending k ts),
      ap (λ xs. reserve_all (trees xs)) (take-append-drop (length ts - k) ts),
    )

pub sum-packed : (k : ℕ) (ts us : List Tree) (known : Bool) (sum : ℕ)
    → us ≡ before k ts ++ compound (trees (ending k ts)) ∷ [] → IsSum ts known sum
    → IsSum us known sum
sum-packed k ts us known sum e h = sum_of ts us known sum
    (made_same k ts us (compound (trees (ending k ts))) e refl) h

alone_all : (us : List Tree) → length us ≡ 1 → reserve_first (trees us) ≡ reserve_all (trees us)
alone_all [] h = absurd (omega (arith, h))
alone_all (u ∷ []) h = omega arith
alone_all (u ∷ v ∷ us) h = absurd (omega (arith, h))

pub sum-optional : (known format : Bool) (ts us : List Tree) (sum : ℕ) → 1 ≤ length ts
    → us ≡ before 1 ts ++ optional format (pack (ending 1 ts)) ∷ [] → IsSum ts known sum
    → IsSum us (known && format) sum
sum-optional false format ts us sum l e h = λ k. absurd (search (rules, k))
sum-optional true false ts us sum l e h = λ k. absurd (search (rules, k))
sum-optional true true ts us sum l e h =
    let one : length (ending 1 ts) ≡ 1 = length-ending 1 ts l in
    sum_of ts us true sum (made_same 1 ts us (optional true (pack (ending 1 ts))) e
    (sym (only_first (ending 1 ts) one) ∙ alone_all (ending 1 ts) one)) h

-- The node of all of them.
kept_whole : (bytes : ℕ) → bytes ≤ 2 ^ 64 - 1 → bytes ≡ kept_bytes bytes
kept_whole bytes h = omega (arith, h)

pub all_fit : (ps : List Part) (count nodes bytes : ℕ) → Fit [] ps → count ≡ length (grown_by [] ps)
    → nodes ≡ length ps → bytes ≡ reserve_all (trees (grown_by [] ps)) → bytes ≤ 2 ^ 64 - 1
    → Fits (grown_by [] ps) (record { role = together count; nodes = nodes; bytes = bytes })
all_fit ps count nodes bytes f c n b h =
    let all : ending count (grown_by [] ps) ≡ grown_by [] ps =
    ending-append [] (grown_by [] ps) count c in (
      omega (arith, c),
      n ∙ count_all ps f ∙ ap (λ us. trees_count (trees us)) (sym all),
      kept_whole bytes h ∙ ap kept_bytes (b ∙ ap (λ us. reserve_all (trees us)) (sym all)),
    )
