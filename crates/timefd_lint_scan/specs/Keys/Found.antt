-- Descriptions that are strings of a file with keys.
use Rattle.std.specs.Prelude.{ℕ, ◌≡◌, ◌<◌, ◌≤◌, ◌-◌, ◌^◌, List, [], ◌∷◌, ◌++◌, Option, None, Some, length, slice_index, ⊤}
use Rattle.std.specs.List.{All}
use Rattle.std.specs.Option.{option_to_list}
use Rattle.std.specs.Str.{IsCharBoundary}
use Rattle.timefd_lint_scan.specs.declared.description.SourceDescription.{SourceDescription}
use Rattle.timefd_lint_scan.specs.declared.known.Items.TheVariants.{Refused}
use Rattle.timefd_lint_scan.specs.declared.token.Encoding.TheVariants.{Str}
use Rattle.timefd_lint_scan.specs.declared.token.LiteralKind.TheVariants.{Escaped}
use Rattle.timefd_lint_scan.specs.declared.version.VersionPosition.TheVariants.{Elsewhere}
use Rattle.timefd_lint_scan.specs.Between.{AllBetween}
use Rattle.timefd_lint_scan.specs.Bytes.{Text}
use Rattle.timefd_lint_scan.specs.Found.{begun_after, end_after}
use Rattle.timefd_lint_scan.specs.Literals.{body_end}
use Rattle.timefd_lint_scan.specs.declared.dialect.FormatLanguage.{FormatLanguage}
use Rattle.timefd_lint_scan.specs.declared.keys.format.FileFormat.{FileFormat}
use Rattle.timefd_lint_scan.specs.declared.keys.key.DescriptionKey.{DescriptionKey}
use Rattle.timefd_lint_scan.specs.declared.keys.spot.KeySpot.{KeySpot}
use Rattle.timefd_lint_scan.specs.declared.keys.step.Step.{Step}
use Rattle.timefd_lint_scan.specs.Keys.Languages.{language_at}
use Rattle.timefd_lint_scan.specs.Keys.Strings.{Reading, string_at}
use Rattle.timefd_lint_scan.specs.Keys.Visits.{Visit, Wanted, first_spot, moved, visit_at}

-- what is known about a description: its bytes, their positions, and the position of what closes it
abbrev pub reported : SourceDescription → Reading
reported d = record {
  text = d.unescaped.text.items;
  positions = d.unescaped.positions.items;
  closing = body_end d.piece d.kind;
}

-- a position between the first byte of a string and what closes it
pub record IsWithin (start closing position : ℕ) : Type 0 where
  pub from : start ≤ position
  pub before : position < closing

abbrev pub AllWithin : ℕ → ℕ → List ℕ → Type 0
AllWithin start closing positions = (k : ℕ) → k < length positions → IsWithin start closing (slice_index positions k)

-- A string and each character that it denotes are inside of the source, on character boundaries.
pub record Lies (source : Text) (start closing : ℕ) (text : Text) (positions : List ℕ) : Type 0 where
  pub first : IsCharBoundary source start
  pub last : IsCharBoundary source closing
  pub each : AllBetween source text positions
  pub within : AllWithin start closing positions

-- A description is what the string at its position denotes, and is inside of the source.
pub record StandsIn (format : FileFormat) (source : Text) (d : SourceDescription) : Type 0 where
  pub text : Some (reported d) ≡ string_at format source d.piece.start
  pub lies : Lies source d.piece.start (body_end d.piece d.kind) d.unescaped.text.items
      d.unescaped.positions.items

-- A string at a position, in a language. It is written with escapes, no call takes it, and its version is
-- that of the language.
pub record IsString (format : FileFormat) (source : Text) (start : ℕ) (dialect : FormatLanguage) (d : SourceDescription) : Type 0 where
  pub stands : StandsIn format source d
  pub begins : d.piece.start ≡ start
  pub language : d.dialect ≡ dialect
  pub kind : d.kind ≡ Escaped Str
  pub items : d.items ≡ Refused
  pub version : d.version ≡ Elsewhere
  pub call : d.call ≡ None

-- The string isn't inside of the source, or ends after all positions that there are.
abbrev pub LiesNot : Text → ℕ → Option Reading → Type 0
LiesNot source start None = ⊤
LiesNot source start (Some r) = r.closing < 2 ^ 64 - 1 → Lies source start r.closing r.text r.positions → ⊥

-- What a string is: a description, unless it isn't inside of the source.
abbrev pub IsDescribed : FileFormat → Text → ℕ → FormatLanguage → Option SourceDescription → Type 0
IsDescribed format source start dialect None = LiesNot source start (string_at format source start)
IsDescribed format source start dialect (Some d) = IsString format source start dialect d

-- A string without a language isn't a description.
abbrev pub IsInLanguage : FileFormat → Text → ℕ → Option FormatLanguage → Option SourceDescription → Type 0
IsInLanguage format source start None answer = answer ≡ None
IsInLanguage format source start (Some dialect) answer = IsDescribed format source start dialect answer

-- what is found of a string that is wanted
abbrev pub IsFoundOf : FileFormat → Text → Option Wanted → Option SourceDescription → Type 0
IsFoundOf format source None answer = answer ≡ None
IsFoundOf format source (Some w) answer =
    IsInLanguage format source w.start (language_at format source w.start w.other) answer

-- what is done at a spot
pub record IsStep (format : FileFormat) (source : Text) (v : Visit) (step : Step) : Type 0 where
  pub found : IsFoundOf format source v.string step.found
  pub unread : step.unread ≡ v.unread
  pub next : step.next ≡ v.next

-- A step in a file: what is found, without what begins inside of another one, the position of a value that
-- isn't looked at, where the descriptions so far end, and the next spot.
pub record Stop : Type 0 where
  pub found : Option SourceDescription
  pub unread : Option ℕ
  pub end : ℕ
  pub next : KeySpot

pub record IsStop (format : FileFormat) (source : Text) (keys : List DescriptionKey) (spot : KeySpot) (end : ℕ) (stop : Stop)
    : Type 0 where
  pub within : spot.at < length source
  pub answer : Option SourceDescription
  pub is : IsFoundOf format source (visit_at format source keys spot).string answer
  pub found : stop.found ≡ begun_after end answer
  pub ends : stop.end ≡ end_after end stop.found
  pub unread : stop.unread ≡ (visit_at format source keys spot).unread
  pub next : stop.next ≡ moved source spot.at (visit_at format source keys spot).next

-- These stops lead from a spot to another.
abbrev pub IsWay : FileFormat → Text → List DescriptionKey → KeySpot → ℕ → List Stop → KeySpot → ℕ → Type 0
IsWay format source keys spot end [] last last_end = (spot ≡ last) × (end ≡ last_end)
IsWay format source keys spot end (stop ∷ stops) last last_end =
    IsStop format source keys spot end stop × IsWay format source keys stop.next stop.end stops last last_end

abbrev pub found_at : List Stop → List SourceDescription
found_at [] = []
found_at (stop ∷ stops) = option_to_list stop.found ++ found_at stops

abbrev pub unread_at : List Stop → List ℕ
unread_at [] = []
unread_at (stop ∷ stops) = option_to_list stop.unread ++ unread_at stops

-- These are the values of keys in a file, in order, and no others, and the positions of the values that aren't
-- looked at: what is found at the stops from the start of the file to its end.
pub record AreValues (format : FileFormat) (source : Text) (keys : List DescriptionKey) (found : List SourceDescription)
    (unread : List ℕ) : Type 0 where
  pub stops : List Stop
  pub last : KeySpot
  pub end : ℕ
  pub way : IsWay format source keys first_spot 0 stops last end
  pub whole : length source ≤ last.at
  pub all : found ≡ found_at stops
  pub rest : unread ≡ unread_at stops

-- These are the values of keys in a file, and no others.
abbrev pub AreAllValues : FileFormat → Text → List DescriptionKey → List SourceDescription → Type 0
AreAllValues format source keys found = (unread : List ℕ) × AreValues format source keys found unread

-- It is one of the values of keys in a file.
pub record IsValue (format : FileFormat) (source : Text) (keys : List DescriptionKey) (d : SourceDescription) : Type 0 where
  pub stands : StandsIn format source d
  pub before : List SourceDescription
  pub after : List SourceDescription
  pub unread : List ℕ
  pub values : AreValues format source keys (before ++ d ∷ after) unread

abbrev pub AllValues : FileFormat → Text → List DescriptionKey → List SourceDescription → Type 0
AllValues format source keys ds = All (IsValue format source keys) ds
