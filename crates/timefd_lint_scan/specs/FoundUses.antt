-- Uses of names that are found, and what is kept to look them up.
use Rattle.std.specs.Prelude.{ℕ, ◌≡◌, ◌≤◌, ◌<◌, List, get_or, length, nat_eq, Option, Some}
use Rattle.std.specs.HashMap.{get}
use Rattle.timefd_lint_scan.specs.declared.piece.PlacedToken.{PlacedToken}
use Rattle.timefd_lint_scan.specs.declared.uses.Use.{Use}
use Rattle.timefd_lint_scan.specs.declared.uses.Uses.{Uses}
use Rattle.timefd_lint_scan.specs.Bytes.{Text}
use Rattle.timefd_lint_scan.specs.Kept.{IsLayout}
use Rattle.timefd_lint_scan.specs.Layouts.{fingerprint}
use Rattle.timefd_lint_scan.specs.Uses.{AreFurthest, AreRuns}
use Rattle.timefd_lint_scan.specs.Words.{text_of}

-- For the name of each use from an index on, one is kept that isn't after it.
pub record AreFirsts (source : Text) (us : List Use) (from : ℕ) (kept : ℕ → Option ℕ) : Type 0 where
  pub kept_for : (i : ℕ) → (d : Use) → from ≤ i → i < length us
      → (j : ℕ) × (kept (fingerprint (text_of source (get_or us i d).name)) ≡ Some j) × (j ≤ i)

-- What is kept of uses and of the tokens of their source is so.
pub record IsFound (source : Text) (ps : List PlacedToken) (uses : Uses) : Type 0 where
  pub furthest : AreFurthest uses.list.now uses.furthest.now
  pub runs : AreRuns uses.list.now 0 uses.runs.now
  pub firsts : AreFirsts source uses.list.now 0 (get nat_eq uses.firsts.now)
  pub layout : IsLayout source ps uses.layout.now
