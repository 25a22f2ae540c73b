-- What is seen in a source and in the examples of its doc comments.
use Rattle.std.specs.Prelude.{ℕ, ◌≡◌, ◌+◌, ◌⊎◌, ◌==◌, Bool, true, false, length, nat_lt, if◌then◌else◌, List, [], ◌∷◌, ◌++◌, map, Option, Some, None}
use Rattle.std.specs.List.{All, flat_map}
use Rattle.std.specs.Option.{option_to_list}
use Rattle.std.specs.Str.{is_utf8}
use Rattle.timefd_lint_scan.specs.declared.candidate.CandidateLiteral.{CandidateLiteral}
use Rattle.timefd_lint_scan.specs.declared.class.ByteSet.TheVariants.{Line}
use Rattle.timefd_lint_scan.specs.declared.description.SourceDescription.{SourceDescription}
use Rattle.timefd_lint_scan.specs.declared.doc_look.example.SeenExample.{SeenExample}
use Rattle.timefd_lint_scan.specs.declared.doc_look.joining.LookPart.{LookPart}
use Rattle.timefd_lint_scan.specs.declared.doc_look.joining.LookPart.TheVariants.{OfExample, OfSource}
use Rattle.timefd_lint_scan.specs.declared.doc_tests.DocTest.{DocTest}
use Rattle.timefd_lint_scan.specs.declared.look.Look.{Look}
use Rattle.timefd_lint_scan.specs.declared.own_call.OwnCall.{OwnCall}
use Rattle.timefd_lint_scan.specs.declared.piece.PlacedToken.{PlacedToken}
use Rattle.timefd_lint_scan.specs.declared.version.VersionPosition.{VersionPosition}
use Rattle.timefd_lint_scan.specs.declared.version.VersionPosition.TheVariants.{Digit, Unsaid, Call, Elsewhere}
use Rattle.timefd_lint_scan.specs.After.{after_run}
use Rattle.timefd_lint_scan.specs.Bytes.{Text, class_test}
use Rattle.timefd_lint_scan.specs.DocTests.{test_of, tests_in}
use Rattle.timefd_lint_scan.specs.Found.{IsDescribed, begun_after, end_after}
use Rattle.timefd_lint_scan.specs.Gathered.{AreComments}
use Rattle.timefd_lint_scan.specs.Literals.{cut}
use Rattle.timefd_lint_scan.specs.Looks.{IsBlank, IsLookAlone, IsSeenAlone}
use Rattle.timefd_lint_scan.specs.Names.{HasNoName}

abbrev pub moved_version : ℕ → VersionPosition → VersionPosition
moved_version start (Digit at) = Digit (start + at)
moved_version start Unsaid = Unsaid
moved_version start Call = Call
moved_version start Elsewhere = Elsewhere

abbrev pub moved_piece : ℕ → PlacedToken → PlacedToken
moved_piece start p = record { token = p.token; start = start + p.start; end = start + p.end }

abbrev pub moved_call : ℕ → Option ℕ → Option ℕ
moved_call start None = None
moved_call start (Some at) = Some (start + at)

-- a description of an example as a literal of the source, in which the example begins at a position
abbrev pub moved : ℕ → SourceDescription → CandidateLiteral
moved start d = record {
  piece = moved_piece start d.piece;
  kind = d.kind;
  known = record {
    dialect = d.dialect;
    items = d.items;
    version = moved_version start d.version;
    wants_percent = false;
    call = moved_call start d.call;
  };
}

abbrev pub moved_all : ℕ → List ℕ → List ℕ
moved_all start positions = map (λ n. start + n) positions

-- A text has no line feed.
abbrev pub is_a_line : Option Text → Bool
is_a_line None = false
is_a_line (Some text) = length (after_run (class_test Line) text) == 0

-- A token is in one line.
abbrev pub is_in_a_line : Text → PlacedToken → Bool
is_in_a_line code p = is_a_line (cut code p)

-- the literals of an example that are looked at in the source: those in one line
abbrev pub short : DocTest → SourceDescription → List CandidateLiteral
short t d = if is_in_a_line t.code.items d.piece then moved t.start d ∷ [] else []

-- where those begin that aren't
abbrev pub long : DocTest → SourceDescription → List ℕ
long t d = if is_in_a_line t.code.items d.piece then [] else (t.start + d.piece.start) ∷ []

-- What is seen in an example is at positions of its code. This is what it gives for the source.
abbrev pub short_in : SeenExample → List CandidateLiteral
short_in s = flat_map (short s.test) s.look.descriptions.items

abbrev pub long_in : SeenExample → List ℕ
long_in s = flat_map (long s.test) s.look.descriptions.items

abbrev pub calls_in : SeenExample → List ℕ
calls_in s = moved_all s.test.start s.look.calls.items

abbrev pub comments_in : SeenExample → List ℕ
comments_in s = moved_all s.test.start s.look.comments.items

abbrev pub IsLookIf : Bool → Text → List OwnCall → Look → Type 0
IsLookIf true code own look = IsLookAlone code own look
IsLookIf false code own look = IsBlank look

-- What is seen in the code of an example, which is a source by itself; nothing if it isn't UTF-8.
abbrev pub IsLookOfCode : Text → List OwnCall → Look → Type 0
IsLookOfCode code own look = IsLookIf (is_utf8 code) code own look

abbrev pub IsSeenExample : List OwnCall → SeenExample → Type 0
IsSeenExample own s = IsLookOfCode s.test.code.items own s.look

-- These are the same examples, with what is seen in each.
pub record AreSeenIn (own : List OwnCall) (tests : List DocTest) (seen : List SeenExample) : Type 0 where
  pub same : map (λ s. s.test) seen ≡ tests
  pub each : All (IsSeenExample own) seen

-- These are the examples in the doc comments of a source, in order, and what is seen in each, with these calls of its project.
pub record AreSeenExamples (source : Text) (own : List OwnCall) (seen : List SeenExample) : Type 0 where
  pub notes : List PlacedToken
  pub noted : AreComments source notes
  pub tests : List DocTest
  pub examples : map test_of tests ≡ tests_in source notes
  pub seen_in : AreSeenIn own tests seen

-- from the front on, what passes a test; and what follows that
abbrev pub front : {X : Type 0} → (X → Bool) → List X → List X
front test [] = []
front test (x ∷ xs) = if test x then x ∷ front test xs else []

abbrev pub after_front : {X : Type 0} → (X → Bool) → List X → List X
after_front test [] = []
after_front test (x ∷ xs) = if test x then after_front test xs else x ∷ xs

abbrev pub begins_before : ℕ → CandidateLiteral → Bool
begins_before position c = nat_lt c.piece.start position

abbrev pub is_below : ℕ → ℕ → Bool
is_below limit position = nat_lt position limit

-- literals of examples and descriptions of the source itself, by where they begin
abbrev pub by_position : List CandidateLiteral → List SourceDescription → List LookPart
by_position [] ds = map OfSource ds
by_position (c ∷ cs) [] = map OfExample (c ∷ cs)
by_position (c ∷ cs) (d ∷ ds) =
    if begins_before d.piece.start c then OfExample c ∷ by_position cs (d ∷ ds) else OfSource d ∷ by_position (c ∷ cs) ds

-- what each of them is: a literal may be no description
abbrev pub IsEither : Text → LookPart → Option SourceDescription → Type 0
IsEither source (OfExample c) answer = IsDescribed source c answer
IsEither source (OfSource d) answer = answer ≡ Some d

-- The descriptions among them, without those that begin inside of another one.
abbrev pub AreJoined : Text → ℕ → List LookPart → List SourceDescription → Type 0
AreJoined source from [] all = all ≡ []
AreJoined source from (x ∷ xs) all =
    (answer : Option SourceDescription) × (rest : List SourceDescription) × IsEither source x answer
    × AreJoined source (end_after from (begun_after from answer)) xs rest
    × (all ≡ option_to_list (begun_after from answer) ++ rest)

-- two ascending lists as one
abbrev pub merged : List ℕ → List ℕ → List ℕ
merged [] ys = ys
merged (x ∷ xs) [] = x ∷ xs
merged (x ∷ xs) (y ∷ ys) = if is_below x y then y ∷ merged (x ∷ xs) ys else x ∷ merged xs (y ∷ ys)

-- What is seen in a source by itself and in its examples, as one: the descriptions, and what can't be checked. A description in
-- several lines of a comment can't be.
pub record IsTogether (source : Text) (alone : Look) (seen : List SeenExample) (look : Look) : Type 0 where
  pub descriptions : AreJoined source 0 (by_position (flat_map short_in seen) alone.descriptions.items) look.descriptions.items
  pub calls : look.calls.items ≡ merged alone.calls.items (merged (flat_map calls_in seen) (flat_map long_in seen))
  pub comments : look.comments.items ≡ merged alone.comments.items (flat_map comments_in seen)

-- What is seen in a source that is cut into tokens, with these calls of its project.
pub record IsSeenWithExamples (source : Text) (own : List OwnCall) (look : Look) : Type 0 where
  pub alone : Look
  pub by_itself : IsSeenAlone source own alone
  pub seen : List SeenExample
  pub examples : AreSeenExamples source own seen
  pub together : IsTogether source alone seen look

-- What is seen in a source with its examples. Nothing is seen if it has none of the names that descriptions come with.
abbrev pub IsLook : Text → List OwnCall → Look → Type 0
IsLook source own look = (HasNoName source own × IsBlank look) ⊎ IsSeenWithExamples source own look

-- These are the descriptions of a source with its examples, with these calls of its project.
pub record AreDescriptionsOf (source : Text) (own : List OwnCall) (found : List SourceDescription) : Type 0 where
  pub look : Look
  pub is : IsLook source own look
  pub those : found ≡ look.descriptions.items
