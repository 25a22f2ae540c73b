-- Positions of a source that are character boundaries.
use Rattle.std.specs.Prelude.{ℕ, ◌≡◌, ◌<◌, false, List, length, slice_index}
use Rattle.std.specs.Str.{IsCharBoundary}
use Rattle.timefd_lint_scan.specs.declared.piece.PlacedToken.{PlacedToken}
use Rattle.timefd_lint_scan.specs.declared.token.LiteralKind.{LiteralKind}
use Rattle.timefd_lint_scan.specs.Bytes.{Text, is_continuation}
use Rattle.timefd_lint_scan.specs.Literals.{body_end}

-- Each byte of a text has a position in the source, and that of a character's first byte is a
-- character boundary.
pub record AllBetween (source text : Text) (positions : List ℕ) : Type 0 where
  pub same : length text ≡ length positions
  pub each : (k : ℕ) → k < length text → is_continuation (slice_index text k) ≡ false
      → IsCharBoundary source (slice_index positions k)

-- a position in a token, after its first byte
pub record IsInside (p : PlacedToken) (position : ℕ) : Type 0 where
  pub after : p.start < position
  pub before : position < p.end

abbrev pub AllInside : PlacedToken → List ℕ → Type 0
AllInside p positions = (k : ℕ) → k < length positions → IsInside p (slice_index positions k)

pub record IsBetween (source : Text) (p : PlacedToken) (kind : LiteralKind) (text : Text) (positions : List ℕ) : Type 0 where
  pub start : IsCharBoundary source p.start
  pub end : IsCharBoundary source p.end
  pub closing : IsCharBoundary source (body_end p kind)
  pub each : AllBetween source text positions
  pub end_inside : IsInside p (body_end p kind)
  pub inside : AllInside p positions
