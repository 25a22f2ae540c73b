-- The offset that a zone's table gives at an instant: that of the last transition that is not after it.
use Rattle.std.specs.Prelude.{ℕ, suc, ◌≡◌, ◌<◌, ℤ, ◌≤ℤ◌, ◌<ℤ◌, None, length}
use denote.Ref.{Bor}
use Rattle.jiff_tz.specs.declared.timezone.TimeZone.TheVariants.{Tzif}
use Rattle.jiff_tz.specs.declared.tzif.Tzif.{Tzif as Table}
use Rattle.jiff_tz.specs.Tzif.{floor_second, rule_after, transition_at}
use Rattle.jiff_tz.specs.Zone.{offset_at}

-- This transition is not after the second, and all later ones are.
abbrev pub IsLastAt : Table → ℤ → ℕ → Type 0
IsLastAt z second k =
    (k < length z.transitions.items) × ((transition_at z k).second ≤ℤ second)
    × ((i : ℕ) → k < i → i < length z.transitions.items → second <ℤ (transition_at z i).second)

-- The last transition that is not after an instant sets the offset, unless it is the last of all and a rule
-- applies from it on.
abbrev pub LastInForce : Type 0
LastInForce = (z : Bor Table) (n : ℤ) (k : ℕ) → IsLastAt z.now (floor_second n) k
    → rule_after z.now (suc k) ≡ None → offset_at (Tzif z) n ≡ (transition_at z.now k).after.offset.seconds

-- Before all transitions, the offset is that of the zone's first type.
abbrev pub BeforeAll : Type 0
BeforeAll = (z : Bor Table) (n : ℤ)
    → ((i : ℕ) → i < length z.now.transitions.items → floor_second n <ℤ (transition_at z.now i).second)
    → rule_after z.now 0 ≡ None → offset_at (Tzif z) n ≡ z.now.first.offset.seconds
