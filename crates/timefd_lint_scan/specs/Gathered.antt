-- The tokens of a source that are looked at.
use Rattle.std.specs.Prelude.{◌≡◌, List, [], ◌∷◌, length, if◌then◌else◌}
use Rattle.std.specs.List.{flat_map}
use Rattle.timefd_lint_scan.specs.declared.piece.PlacedToken.{PlacedToken}
use Rattle.timefd_lint_scan.specs.Bytes.{Text}
use Rattle.timefd_lint_scan.specs.Candidates.{significant}
use Rattle.timefd_lint_scan.specs.Marks.{is_comment}
use Rattle.timefd_lint_scan.specs.Sources.{AreTokens}

abbrev pub comment_kept : PlacedToken → List PlacedToken
comment_kept p = if is_comment p.token then p ∷ [] else []

-- those of these tokens that are comments
abbrev pub comments : List PlacedToken → List PlacedToken
comments ps = flat_map comment_kept ps

-- These are the tokens of a source that are neither white nor comments, and its comments, in order.
pub record AreGathered (source : Text) (pieces notes : List PlacedToken) : Type 0 where
  pub all : List PlacedToken
  pub tokens : AreTokens (length source) source all
  pub kept : pieces ≡ significant all
  pub noted : notes ≡ comments all

-- These are the comments of a source, in order.
pub record AreComments (source : Text) (notes : List PlacedToken) : Type 0 where
  pub all : List PlacedToken
  pub tokens : AreTokens (length source) source all
  pub noted : notes ≡ comments all
