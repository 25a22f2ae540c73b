-- What holds of all formats.
use Rattle.std.specs.Prelude.{ℕ, ◌≡◌, ◌⊎◌, List, Some, None}
use Rattle.timefd_lang_component.specs.Tree.{Text}
use Rattle.timefd_lang_dialect.specs.declared.dialect.Dialect.{Dialect}
use Rattle.timefd_lang_dialect.specs.declared.reason.Reason.{Reason}
use Rattle.timefd_lang_dialect.specs.declared.trapping.Found.{Found}
use Rattle.timefd_lang_dialect.specs.Asked.{AsksFor}
use Rattle.timefd_lang_dialect.specs.Back.{IsMerged, MeansText}
use Rattle.timefd_lang_dialect.specs.Reading.{Piece, Means, RefusedAt}
use Rattle.timefd_lang_dialect.specs.Readers.{pieces_of}
use Rattle.timefd_lang_dialect.specs.Traps.{AreTraps}

-- A format either means a list of pieces, or is refused.
abbrev pub HasAnswer : Dialect → Text → Type 0
HasAnswer dialect text =
    ((ps : List Piece) × Means dialect text ps)
    ⊎ ((reason : Reason) × (index : ℕ) × RefusedAt dialect text reason index)

-- A format means one list of pieces, or is refused for one reason at one index, but not both.
pub record OneAnswer (dialect : Dialect) (text : Text) : Type 0 where
  pub answer : HasAnswer dialect text
  pub one_meaning : (ps qs : List Piece) → Means dialect text ps → Means dialect text qs → ps ≡ qs
  pub one_refusal : (r s : Reason) (i j : ℕ) → RefusedAt dialect text r i
      → RefusedAt dialect text s j → (r ≡ s) × (i ≡ j)
  pub not_both : (ps : List Piece) (r : Reason) (i : ℕ) → Means dialect text ps
      → ¬ (RefusedAt dialect text r i)

-- The pieces that a format means are found, and none if a part of it is refused.
pub record OneListOfPieces (dialect : Dialect) (text : Text) : Type 0 where
  pub meant : (ps : List Piece) → Means dialect text ps → pieces_of dialect text ≡ Some ps
  pub refused : (reason : Reason) (index : ℕ) → RefusedAt dialect text reason index
      → pieces_of dialect text ≡ None

-- A format has at most one list of traps.
abbrev pub OneListOfTraps : Dialect → Text → Type 0
OneListOfTraps dialect text =
    (xs ys : List Found) → AreTraps dialect text xs → AreTraps dialect text ys → xs ≡ ys

-- A text of version 3 asks for one format at most. `Merged` is never the answer if the dialect reads that format as
-- just this text.
pub record OneFormat (dialect : Dialect) (description : Text) : Type 0 where
  pub one_format : (f g : Text) → AsksFor dialect description f → AsksFor dialect description g → f ≡ g
  pub meant : (format : Text) → AsksFor dialect description format
      → MeansText dialect format description → ¬ (IsMerged dialect description)
