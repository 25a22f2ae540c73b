-- Where uses of the same name follow each other in a list.
use Rattle.std.specs.Prelude.{ℕ, ◌≡◌, ◌≢◌, ◌≤◌, ◌<◌, List, get_or, length, nat_eq, Option, Some}
use Rattle.std.specs.HashMap.{get}
use Rattle.timefd_lint_scan.specs.declared.following.NextUses.{NextUses}
use Rattle.timefd_lint_scan.specs.declared.uses.Use.{Use}
use Rattle.timefd_lint_scan.specs.Bytes.{Text}
use Rattle.timefd_lint_scan.specs.Layouts.{fingerprint}
use Rattle.timefd_lint_scan.specs.Words.{text_of}

-- Between a use and an index no use has its name.
abbrev pub AreOthers : Text → List Use → ℕ → ℕ → Type 0
AreOthers source us index end = (k : ℕ) → (d e : Use) → index < k → k < end → k < length us
    → text_of source (get_or us k d).name ≢ text_of source (get_or us index e).name

-- For each use from an index on one is kept between which and it none has its name.
pub record AreNexts (source : Text) (us : List Use) (from : ℕ) (nexts : List ℕ) : Type 0 where
  pub next_at : (i : ℕ) → from ≤ i → i < length us → AreOthers source us i (get_or nexts i 0)

-- For the name of each of the first uses one is kept that isn't before it.
pub record AreLasts (source : Text) (us : List Use) (count : ℕ) (kept : ℕ → Option ℕ) : Type 0 where
  pub kept_for : (i : ℕ) → (d : Use) → i < count → i < length us
      → (j : ℕ) × (kept (fingerprint (text_of source (get_or us i d).name)) ≡ Some j) × (i ≤ j)

-- What is kept is so of these uses.
pub record AreFollowed (source : Text) (us : List Use) (f : NextUses) : Type 0 where
  pub nexts : AreNexts source us 0 f.nexts.items
  pub lasts : AreLasts source us (length us) (get nat_eq f.lasts)
