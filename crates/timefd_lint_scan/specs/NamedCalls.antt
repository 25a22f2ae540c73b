-- Calls that take a text by a name, and whose text is looked at because another call takes it by that name too.
use Rattle.std.specs.Prelude.{ℕ, ◌≡◌, ◌≤◌, ◌<◌, ◌⊎◌, ◌||◌, ◌&&◌, Bool, true, List, codes, bytes_eq, get_or, length, Option, Some, None}
use Rattle.timefd_lint_scan.specs.declared.piece.PlacedToken.{PlacedToken}
use Rattle.timefd_lint_scan.specs.declared.known.Known.{Known}
use Rattle.timefd_lint_scan.specs.declared.uses.Use.{Use}
use Rattle.timefd_lint_scan.specs.Bytes.{Text}
use Rattle.timefd_lint_scan.specs.Flows.{names_value}
use Rattle.timefd_lint_scan.specs.Uses.{is_past, is_use_of, known_by_name}
use Rattle.timefd_lint_scan.specs.Words.{text_after, text_before}

-- A token declares a name whose text is looked for: an item, a variable, or the variable of a loop.
abbrev pub is_declaration : Text → List PlacedToken → ℕ → Bool
is_declaration source ps i =
    bytes_eq (text_before source ps i 1) (codes "fn") || names_value source ps i
    || (bytes_eq (text_before source ps i 1) (codes "for") && bytes_eq (text_after source ps i 1) (codes "in"))

-- The same is known by two uses: the language, and what it may hold.
pub record IsAlike (one other : Known) : Type 0 where
  pub dialect : one.dialect ≡ other.dialect
  pub items : one.items ≡ other.items

-- A use is of what a token declares, and by it the same is known.
pub record IsAlikeUse (source : Text) (ps : List PlacedToken) (declared : ℕ) (known : Known) (u : Use) : Type 0 where
  pub used : is_use_of source ps declared u ≡ true
  pub alike : IsAlike u.known known

-- A use that is of what a token declares, or isn't, is for the call at a position, and by it the same is known.
pub record IsAlikeCall (u : Use) (known : Known) (is_used : Bool) (n : ℕ) : Type 0 where
  pub used : is_used ≡ true
  pub alike : IsAlike u.known known
  pub call : u.known.call ≡ Some n

-- Up to a position, a name surely means what a token declares with `let` or `for`.
pub record IsSure (source : Text) (ps : List PlacedToken) (declared position : ℕ) : Type 0 where
  pub sure : (u : Use) → is_past source ps declared u ≡ true → u.name.start < position → is_use_of source ps declared u ≡ true

-- One of these uses, from an index up to another, is for the call at a position.
abbrev pub IsCalledIn : Text → List PlacedToken → List Use → ℕ → Known → ℕ → ℕ → ℕ → Type 0
IsCalledIn source ps us declared known from to n = (k : ℕ) × (d : Use) × (from ≤ k) × (k < to) × (k < length us)
    × IsAlikeUse source ps declared known (get_or us k d) × ((get_or us k d).known.call ≡ Some n)

-- The calls of these uses are added.
pub record AddsCalls (source : Text) (ps : List PlacedToken) (us : List Use) (declared : ℕ) (known : Known) (from to : ℕ)
    (before now : ℕ → Bool) : Type 0 where
  pub kept : (n : ℕ) → before n ≡ true → now n ≡ true
  pub added : (n : ℕ) → IsCalledIn source ps us declared known from to n → now n ≡ true
  pub only : (n : ℕ) → now n ≡ true → (before n ≡ true) ⊎ IsCalledIn source ps us declared known from to n

-- This call is among those with a text that is looked at.
abbrev pub IsAmong : (ℕ → Bool) → Option ℕ → Type 0
IsAmong looked None = ⊥
IsAmong looked (Some n) = looked n ≡ true

-- What a token declares is looked at for the first call that takes it, by which this is known.
pub record IsLookedAt (source : Text) (ps : List PlacedToken) (us : List Use) (looked : ℕ → Bool) (declared : ℕ) (known : Known)
    : Type 0 where
  pub declares : is_declaration source ps declared ≡ true
  pub first : known_by_name source ps declared us ≡ Some known
  pub among : IsAmong looked known.call

-- The call at a position takes what a token declares, which is looked at for another call in the same language.
abbrev pub IsNamed : Text → List PlacedToken → List Use → (ℕ → Bool) → ℕ → ℕ → Type 0
IsNamed source ps us looked declared n = (known : Known) × IsLookedAt source ps us looked declared known
    × IsCalledIn source ps us declared known 0 (length us) n

-- The calls that take what a token declares are added, if that is looked at.
pub record AddsNamed (source : Text) (ps : List PlacedToken) (us : List Use) (looked : ℕ → Bool) (declared : ℕ)
    (before now : ℕ → Bool) : Type 0 where
  pub kept : (n : ℕ) → before n ≡ true → now n ≡ true
  pub added : (n : ℕ) → IsNamed source ps us looked declared n → now n ≡ true
  pub only : (n : ℕ) → now n ≡ true → (before n ≡ true) ⊎ IsNamed source ps us looked declared n

-- These are the calls that take what the first tokens declare, if that is looked at.
pub record AreNamedBy (source : Text) (ps : List PlacedToken) (us : List Use) (looked : ℕ → Bool) (count : ℕ) (named : ℕ → Bool)
    : Type 0 where
  pub each : (n declared : ℕ) → declared < count → IsNamed source ps us looked declared n → named n ≡ true
  pub only : (n : ℕ) → named n ≡ true → (declared : ℕ) × (declared < count) × IsNamed source ps us looked declared n

-- These are the positions of calls that take by a name what is looked at for calls at other positions.
abbrev pub AreNamed : Text → List PlacedToken → List Use → (ℕ → Bool) → (ℕ → Bool) → Type 0
AreNamed source ps us looked named = AreNamedBy source ps us looked (length ps) named
