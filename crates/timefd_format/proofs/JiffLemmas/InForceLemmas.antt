-- The number of transitions at or before an instant determines which one is in force.
use Rattle.std.proofs.Common.{ℕ, suc, ◌≡◌, ◌∙◌, ◌+◌, ◌-◌, ◌<◌, ◌==◌, ℤ, ◌≤ℤ◌, cond, false, None, length, refl, sym, ap, subst, arith}
use Rattle.std.proofs.lemmas.Bool.Decides.{nat_tests}
use denote.Ref.{Bor}
use Rattle.jiff_core.specs.declared.Offset.{Offset}
use Rattle.jiff_tz.specs.declared.timezone.TimeZone.TheVariants.{Tzif}
use Rattle.jiff_tz.specs.declared.tzif.Tzif.{Tzif as Table}
use Rattle.jiff_tz.specs.Tzif as table
use Rattle.jiff_tz.specs.Tzif.{count_at, floor_second, rule_after, transition_at, type_after}
use Rattle.jiff_tz.specs.Zone.{offset_at}
use Rattle.jiff_tz.proofs.ZoneTheorems.{count_is}
use Rattle.timefd_format.specs.FromJiff.InForce.{BeforeAll, LastInForce}

-- a zone with a table has the table's offset
opened : (z : Bor Table) (n : ℤ) → offset_at (Tzif z) n ≡ (table.offset_at z.now n).seconds
unfolding offset_at
opened z n = refl

by_count : (z : Table) (n : ℤ) (c : ℕ) → count_at z (floor_second n) ≡ c → rule_after z c ≡ None
    → table.offset_at z n ≡ (type_after z c).offset
by_count z n c count none = rw (count, none) refl

back : (k : ℕ) → suc k - 1 ≡ k
back k = omega arith

type_is : (z : Table) (k : ℕ) → type_after z (suc k) ≡ (transition_at z k).after
type_is z k =
    let some : (suc k == 0) ≡ false = grind (arith, nat_tests) in
    subst (λ b. cond b z.first (transition_at z (suc k - 1)).after ≡ (transition_at z (suc k - 1)).after) (sym some) refl
    ∙ ap (λ i. (transition_at z i).after) (back k)

pub last_in_force : LastInForce
last_in_force z n k last none =
    let count : count_at z.now (floor_second n) ≡ suc k =
    count_is z.now (floor_second n) (suc k) (omega (arith, last.0))
    (λ some. subst (λ i. (transition_at z.now i).second ≤ℤ floor_second n) (sym (back k)) last.1)
    (λ more. last.2 (suc k) (omega arith) more) in
    opened z n ∙ ap (λ (o : Offset). o.seconds) (by_count z.now n (suc k) count none)
    ∙ ap (λ t. t.offset.seconds) (type_is z.now k)

pub before_all : BeforeAll
before_all z n later none =
    let count : count_at z.now (floor_second n) ≡ 0 =
    count_is z.now (floor_second n) 0 (omega arith) (λ some. absurd (omega (arith, some))) (λ more. later 0 more) in
    opened z n ∙ ap (λ (o : Offset). o.seconds) (by_count z.now n 0 count none)
