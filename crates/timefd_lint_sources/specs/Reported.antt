-- What the linter reports about the descriptions of a source.
use Rattle.std.specs.List.{All}
use Rattle.std.specs.Prelude.{Bool, true, false, ◌≡◌, ◌⊎◌, ◌&&◌, List, [], ◌∷◌, ◌++◌, codes, IsUtf8}
use Rattle.timefd_parse.specs.Tree.{Text}
use Rattle.timefd_lint_scan.specs.declared.description.SourceDescription.{SourceDescription}
use Rattle.timefd_lint_scan.specs.Keys.Found as keys
use Rattle.timefd_lint_scan.specs.DocLooks.{AreDescriptionsOf}
use Rattle.timefd_lint_scan.specs.Found.{AreInOrder, StandsIn}
use Rattle.timefd_lint_sources.specs.declared.remark.Remark.{Remark}
use Rattle.timefd_lint_sources.specs.declared.source.Report.{Report}
use Rattle.timefd_lint_sources.specs.declared.reported.ItemEnd.{ItemEnd}
use Rattle.timefd_lint_sources.specs.declared.reported.ItemEnd.TheVariants.{Allowed, NotText}
use Rattle.timefd_lint_sources.specs.declared.reported.Finder.{Finder}
use Rattle.timefd_lint_sources.specs.declared.reported.Finder.TheVariants.{Rust, Keys}
use Rattle.timefd_lint_sources.specs.declared.reported.SourceText.{SourceText}
use Rattle.timefd_lint_sources.specs.declared.reported.Reporting.{Reporting}
use Rattle.timefd_lint_sources.specs.Items.{AreJudgedAs, IsJudgedAs}
use Rattle.timefd_lint_sources.specs.Remarks.{AreAllRemarks, AreRemarks, ends_of, messages_of}
use Rattle.timefd_lint_sources.specs.declared.judgement.TextJudgement.{TextJudgement}
use Rattle.timefd_lint_sources.specs.Allowed.{IsLeftOf, all_allowed, count_in, is_allowed, is_covered, left_of}
use Rattle.timefd_lint_sources.specs.Judged.{text_of}
use Rattle.timefd_lint_sources.specs.Judgements.{IsJudgement, place_of}
use Rattle.timefd_lint_sources.specs.Whole.{IsDrawn, end_of, note_of}

-- If no comment is about a description, the outcome says what is wrong with it, and all of that is reported. Otherwise the
-- outcome says what is left, and that is reported.
abbrev pub IsReportedIf : Bool → Reporting → SourceText → SourceDescription → TextJudgement → ItemEnd → Text → Type 0
IsReportedIf false reporting s d judgement end message = (end ≡ end_of judgement) × IsDrawn reporting s d judgement message
IsReportedIf true reporting s d judgement end message = (left : TextJudgement) × IsLeftOf s d judgement left
    × (end ≡ Allowed (left_of (count_in judgement) left)) × IsDrawn reporting s d left message

abbrev pub IsNoTextIf : Bool → Reporting → SourceText → SourceDescription → ItemEnd → Text → Type 0
IsNoTextIf true reporting s d end message = (end ≡ Allowed all_allowed) × (message ≡ [])
IsNoTextIf false reporting s d end message = (end ≡ NotText) × (message ≡ note_of reporting.style s d)

-- A description that isn't UTF-8 is reported, unless that is allowed.
abbrev pub IsNoTextReported : Reporting → SourceText → SourceDescription → ItemEnd → Text → Type 0
IsNoTextReported reporting s d end message =
    IsNoTextIf (is_covered reporting s d && is_allowed s d (codes "not-text")) reporting s d end message

-- All that is wrong with a description where it stands is reported, or, if a comment is about it, all that the comment
-- doesn't allow.
abbrev pub IsReported : Reporting → SourceText → SourceDescription → ItemEnd → Text → Type 0
IsReported reporting s d end message =
    (IsUtf8 (text_of d) × ((judgement : TextJudgement) × IsJudgement (place_of s.finder d) reporting.levels (text_of d) judgement
    × IsReportedIf (is_covered reporting s d) reporting s d judgement end message))
    ⊎ ((¬ IsUtf8 (text_of d)) × IsNoTextReported reporting s d end message)

-- The outcome of one more description, and the messages on it, come after those of the others.
abbrev pub AddsReported : Reporting → SourceText → SourceDescription → List ItemEnd → Text → List ItemEnd → Text → Type 0
AddsReported reporting s d ends message ends' message' = (end : ItemEnd) × (one : Text)
    × IsReported reporting s d end one × (ends' ≡ ends ++ (end ∷ [])) × (message' ≡ message ++ one)

-- The outcome of each of these descriptions, and the messages on each, in order, and nothing else.
abbrev pub AreReported : Reporting → SourceText → List SourceDescription → List ItemEnd → Text → Type 0
AreReported reporting s [] [] message = message ≡ []
AreReported reporting s [] (e ∷ ends) message = ⊥
AreReported reporting s (d ∷ ds) [] message = ⊥
AreReported reporting s (d ∷ ds) (e ∷ ends) message = (one : Text) × (rest : Text)
    × IsReported reporting s d e one × AreReported reporting s ds ends rest × (message ≡ one ++ rest)

-- The outcomes of these descriptions as they are checked, and the messages on them.
pub record AreReportedAs (reporting : Reporting) (s : SourceText) (ds : List SourceDescription) (ends : List ItemEnd) (message : Text)
    : Type 0 where
  pub judged : List SourceDescription
  pub are : AreJudgedAs ds judged
  pub reported : AreReported reporting s judged ends message

-- A description is a literal of a Rust source, or the value of a key, in the key's language.
abbrev pub IsFoundBy : Finder → Text → SourceDescription → Type 0
IsFoundBy (Rust calls) source d = StandsIn source d
IsFoundBy (Keys format names) source d = keys.IsValue format source names.now d

abbrev pub IsFound : SourceText → SourceDescription → Type 0
IsFound s d = IsFoundBy s.finder s.text.now d

abbrev pub AllFound : SourceText → List SourceDescription → Type 0
AllFound s ds = All (IsFound s) ds

-- They are all that a Rust source has, or all values of its keys that are looked at.
abbrev pub AreAllBy : Finder → Text → List SourceDescription → Type 0
AreAllBy (Rust calls) source ds = AreDescriptionsOf source calls.now ds
AreAllBy (Keys format names) source ds = keys.AreAllValues format source names.now ds

abbrev pub AreAllOf : SourceText → List SourceDescription → Type 0
AreAllOf s ds = AreAllBy s.finder s.text.now ds

-- A description that is found in a source, as it is checked.
abbrev pub IsJudgedFound : SourceText → SourceDescription → Type 0
IsJudgedFound s d = (found : SourceDescription) × IsFound s found × IsJudgedAs found d

-- These are the descriptions of a source as they are checked. They are found in it, one after another.
pub record AreJudgedIn (s : SourceText) (ds : List SourceDescription) : Type 0 where
  pub found : List SourceDescription
  pub all : AreAllOf s found
  pub stand : AllFound s found
  pub in_order : AreInOrder 0 found
  pub judged : AreJudgedAs found ds

-- These are the descriptions that are found in a source, one after another, and the remarks on what else is
-- seen, but for those on the words that comments allow.
pub record AreSeenFirst (s : SourceText) (ds : List SourceDescription) (remarks : List Remark) : Type 0 where
  pub all : AreAllOf s ds
  pub stand : AllFound s ds
  pub in_order : AreInOrder 0 ds
  pub remarked : AreRemarks s ds remarks

-- The same with all remarks.
pub record AreSeen (s : SourceText) (ds : List SourceDescription) (remarks : List Remark) : Type 0 where
  pub all : AreAllOf s ds
  pub stand : AllFound s ds
  pub in_order : AreInOrder 0 ds
  pub remarked : AreAllRemarks s ds remarks

-- These are all remarks on a source.
abbrev pub AreRemarksOn : SourceText → List Remark → Type 0
AreRemarksOn s remarks = (ds : List SourceDescription) × AreAllRemarks s ds remarks

-- The report covers each description as it is checked, and then each remark.
pub record IsSourceReported (reporting : Reporting) (s : SourceText) (r : Report) : Type 0 where
  pub found : List SourceDescription
  pub remarks : List Remark
  pub seen : AreSeen s found remarks
  pub descriptions : List SourceDescription
  pub judged : AreJudgedAs found descriptions
  pub ends : List ItemEnd
  pub message : Text
  pub reported : AreReported reporting s descriptions ends message
  pub all_ends : r.ends.items ≡ ends ++ ends_of remarks
  pub all_messages : r.message.items ≡ message ++ messages_of reporting.style s remarks
