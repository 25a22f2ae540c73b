-- Descriptions that are literals of a source.
use Rattle.std.specs.Prelude.{ℕ, ◌≡◌, ◌≤◌, ◌⊎◌, Bool, true, false, not, ◌&&◌, List, [], ◌∷◌, ◌++◌, Option, None, Some, length, nat_le}
use Rattle.std.specs.Prelude.{nat_lt, slice_index, if◌then◌else◌, ⊤}
use Rattle.std.specs.List.{All}
use Rattle.std.specs.Option.{option_to_list}
use Rattle.timefd_lint_scan.specs.declared.candidate.CandidateLiteral.{CandidateLiteral}
use Rattle.timefd_lint_scan.specs.declared.description.SourceDescription.{SourceDescription}
use Rattle.timefd_lint_scan.specs.declared.known.Known.{Known}
use Rattle.timefd_lint_scan.specs.Bytes.{Text}
use Rattle.timefd_lint_scan.specs.Between.{IsBetween}
use Rattle.timefd_lint_scan.specs.Dates.{is_of_dates}
use Rattle.timefd_lint_scan.specs.Escapes.{Placed, placed}
use Rattle.timefd_lint_scan.specs.Literals.{body_end, literal_text}
use Rattle.timefd_lint_scan.specs.Versions.{IsSaid, first_position}

-- The text of a description is what its literal in the source denotes, on character boundaries of the source;
-- and its version is said there.
pub record StandsIn (source : Text) (d : SourceDescription) : Type 0 where
  pub text : Some (placed d.unescaped) ≡ literal_text source d.piece d.kind
  pub between : IsBetween source d.piece d.kind d.unescaped.text.items d.unescaped.positions.items
  pub version : IsSaid source d.piece d.dialect d.version

abbrev pub AllStandIn : Text → List SourceDescription → Type 0
AllStandIn source ds = All (StandsIn source) ds

-- the first position that belongs to a description
abbrev pub begin_of : SourceDescription → ℕ
begin_of d = first_position d.version d.piece.start

-- Each begins where the one before ends, or after that.
abbrev pub AreInOrder : ℕ → List SourceDescription → Type 0
AreInOrder from [] = ⊤
AreInOrder from (d ∷ ds) = (from ≤ begin_of d) × AreInOrder d.piece.end ds

-- the description, if it doesn't begin before a position
abbrev pub begun_after : ℕ → Option SourceDescription → Option SourceDescription
begun_after from None = None
begun_after from (Some d) = if nat_le from (begin_of d) then Some d else None

abbrev pub end_after : ℕ → Option SourceDescription → ℕ
end_after from None = from
end_after from (Some d) = d.piece.end

-- A date format is wanted, and this text isn't one.
abbrev pub lacks_percent : Known → Text → Bool
lacks_percent known text = known.wants_percent && not (is_of_dates text)

-- The description of a literal that denotes a text.
pub record IsDescription (source : Text) (c : CandidateLiteral) (t : Placed) (d : SourceDescription) : Type 0 where
  pub percent : lacks_percent c.known t.text ≡ false
  pub between : IsBetween source c.piece c.kind t.text t.positions
  pub piece : d.piece ≡ c.piece
  pub kind : d.kind ≡ c.kind
  pub dialect : d.dialect ≡ c.known.dialect
  pub items : d.items ≡ c.known.items
  pub said : IsSaid source c.piece c.known.dialect d.version
  pub kept : IsSaid source c.piece c.known.dialect c.known.version → d.version ≡ c.known.version
  pub call : d.call ≡ c.known.call
  pub text : placed d.unescaped ≡ t

-- What a literal is that denotes a text: a description, unless a date format is wanted and it isn't one, or
-- it isn't on character boundaries.
abbrev pub IsOfText : Text → CandidateLiteral → Option Placed → Option SourceDescription → Type 0
IsOfText source c None None = ⊤
IsOfText source c None (Some d) = ⊥
IsOfText source c (Some t) None =
    (lacks_percent c.known t.text ≡ true) ⊎ (IsBetween source c.piece c.kind t.text t.positions → ⊥)
IsOfText source c (Some t) (Some d) = IsDescription source c t d

-- A literal with an invalid escape isn't a description.
abbrev pub IsDescribed : Text → CandidateLiteral → Option SourceDescription → Type 0
IsDescribed source c answer = IsOfText source c (literal_text source c.piece c.kind) answer

abbrev pub IsAnyDescribed : Text → Option CandidateLiteral → Option SourceDescription → Type 0
IsAnyDescribed source None answer = answer ≡ None
IsAnyDescribed source (Some c) answer = IsDescribed source c answer

-- The descriptions are those of the literals in order, without those that begin inside of another one.
abbrev pub AreDescribed : Text → ℕ → List CandidateLiteral → List SourceDescription → Type 0
AreDescribed source from [] found = found ≡ []
AreDescribed source from (c ∷ cs) found =
    (answer : Option SourceDescription) × (rest : List SourceDescription)
    × IsDescribed source c answer
    × AreDescribed source (end_after from (begun_after from answer)) cs rest
    × (found ≡ option_to_list (begun_after from answer) ++ rest)

-- the position of a byte of a description; after the last byte it is the position of the closing quote
abbrev pub index_in_source : SourceDescription → ℕ → ℕ
index_in_source d index =
    if nat_lt index (length d.unescaped.positions.items) then slice_index d.unescaped.positions.items index
    else body_end d.piece d.kind
