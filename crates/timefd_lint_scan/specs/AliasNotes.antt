-- What is noted about aliases, so that names are looked up among them.
use Rattle.std.specs.Prelude.{ℕ, ◌≡◌, ◌≤◌, ◌<◌, false, List, get_or, length, Option, Some, None}
use Rattle.timefd_lint_scan.specs.declared.alias.Alias.{Alias}
use Rattle.timefd_lint_scan.specs.declared.alias_notes.AliasNote.{AliasNote}
use Rattle.timefd_lint_scan.specs.declared.alias_notes.LastAlias.{LastAlias}
use Rattle.timefd_lint_scan.specs.Aliases.{is_named_so}
use Rattle.timefd_lint_scan.specs.Bytes.{Text}
use Rattle.timefd_lint_scan.specs.Layouts.{fingerprint}
use Rattle.timefd_lint_scan.specs.Words.{text_of}

abbrev pub ended_of : Option LastAlias → ℕ
ended_of None = 0
ended_of (Some last) = last.ended

-- For the name of each of the first aliases one is kept that isn't before it, and a position at which it has ended.
pub record AreLasts (source : Text) (all : List Alias) (count : ℕ) (kept : ℕ → Option LastAlias) : Type 0 where
  pub kept_for : (i : ℕ) → (d : Alias) → i < count → i < length all
      → (last : LastAlias) × (kept (fingerprint (text_of source (get_or all i d).name)) ≡ Some last) × (i ≤ last.index)
      × ((get_or all i d).until ≤ last.ended)

-- At the position that is noted for an alias, those before it have ended whose names have the same number.
pub record AreEnded (source : Text) (all : List Alias) (notes : List AliasNote) : Type 0 where
  pub ended_at : (i k : ℕ) → (d : Alias) → (e : AliasNote) → i < k → k < length notes → i < length all
      → fingerprint (text_of source (get_or all i d).name) ≡ (get_or notes k e).number
      → (get_or all i d).until ≤ (get_or notes k e).ended

-- Neither an alias, from an index on, nor one after it begins before the position that is kept for it.
pub record AreBegun (all : List Alias) (from : ℕ) (begins : List ℕ) : Type 0 where
  pub begun_at : (i k : ℕ) → (d : Alias) → from ≤ k → k ≤ i → k < length begins → i < length all
      → get_or begins k 0 ≤ (get_or all i d).name.start

-- What is noted about the first aliases.
pub record AreNoted (source : Text) (all : List Alias) (count : ℕ) (notes : List AliasNote) (kept : ℕ → Option LastAlias) : Type 0 where
  pub counted : length notes ≡ count
  pub ended : AreEnded source all notes
  pub lasts : AreLasts source all count kept

-- None of the aliases from one index up to another has the name at a position.
abbrev pub AreUnnamed : Text → Text → ℕ → ℕ → ℕ → List Alias → Type 0
AreUnnamed source name position from to all =
    (i : ℕ) → (d : Alias) → from ≤ i → i < to → i < length all → is_named_so source (get_or all i d) name position ≡ false
