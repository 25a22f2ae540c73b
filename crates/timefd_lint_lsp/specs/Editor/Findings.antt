-- All that is wrong in a document.
use Rattle.std.specs.Prelude.{◌≡◌, ◌⊎◌, Bool, true, false, List, [], ◌++◌, Option, IsUtf8, ◌∷◌, flat_map, if◌then◌else◌}
use Rattle.timefd_parse.specs.Tree.{Text}
use Rattle.timefd_lint_diagnosis.specs.declared.diagnostic.Diagnostic.{Diagnostic}
use Rattle.timefd_lint_drawing.specs.HelpText.{help_text}
use Rattle.timefd_lint_drawing.specs.Findings.{with_help}
use Rattle.timefd_lang_fault.specs.Codes.{code_of, name_of}
use Rattle.timefd_lint_drawing.specs.Sentence.{reported_sentence}
use Rattle.timefd_lint_lsp.specs.declared.editor.finding.Finding.{Finding}
use Rattle.timefd_lint_lsp.specs.declared.editor.finding.Severity.TheVariants.{Error}
use Rattle.timefd_lint_lsp.specs.Editor.Each.{AreOf}
use Rattle.timefd_lint_lsp.specs.Editor.Finding.{AreWarnings, IsNote, IsOne}
use Rattle.timefd_lint_lsp.specs.Editor.Others.{IsRefusal, IsTrap}
use Rattle.timefd_lint_lsp.specs.Editor.Remarked.{IsRemarked}
use Rattle.timefd_lang_fault.specs.Faults.{fault_of}
use Rattle.timefd_lint_sources.specs.declared.judgement.TextJudgement.{TextJudgement}
use Rattle.timefd_lint_sources.specs.declared.judgement.TextJudgement.TheVariants.{Accepted, Faulty, Right, Refused}
use Rattle.timefd_lint_sources.specs.declared.reported.Finder.{Finder}
use Rattle.timefd_lint_sources.specs.declared.reported.SourceText.{SourceText}
use Rattle.timefd_lint_sources.specs.Allowances.Found.{AreAllowances}
use Rattle.timefd_lint_sources.specs.Allowed.{is_allowed}
use Rattle.timefd_lint_sources.specs.Judged.{text_of}
use Rattle.timefd_lint_sources.specs.Judgements.{IsJudgement, levels_of, place_of}
use Rattle.timefd_lint_sources.specs.declared.remark.Remark.{Remark}
use Rattle.timefd_lint_sources.specs.Reported.{AreJudgedIn, AreRemarksOn}
use Rattle.timefd_lint_scan.specs.declared.description.SourceDescription.{SourceDescription}
use Rattle.timefd_lint_scan.specs.Found.{index_in_source}
use Rattle.timefd_lang_warnings.specs.declared.levels.Levels.{Levels}

-- the words for a fault: the linter's sentence, and what helps
abbrev pub fault_words : Bool → Diagnostic → Text
fault_words further g = with_help (reported_sentence further (fault_of g.fault)) (help_text g.help)

-- A fault is at its bytes, with these words.
abbrev pub IsFault : Text → SourceDescription → Bool → Diagnostic → List Finding → Type 0
IsFault text d further g found =
    IsOne text (index_in_source d g.span.start) (index_in_source d g.span.end) Error
    (name_of (code_of (fault_of g.fault).kind)) (fault_words further g) found

-- the first fault, followed by the further ones
abbrev pub AreFaults : Text → SourceDescription → List Diagnostic → List Finding → Type 0
AreFaults text d [] found = found ≡ []
AreFaults text d (g ∷ further) found = (one : List Finding) × (rest : List Finding)
    × IsFault text d false g one × AreOf (IsFault text d true) further rest × (found ≡ one ++ rest)

-- What is wrong with a description, in the order in which it is reported.
abbrev pub AreBy : Text → SourceDescription → TextJudgement → List Finding → Type 0
AreBy text d (Accepted language warned) found = AreWarnings text d (levels_of warned) found
AreBy text d (Faulty faults) found = AreFaults text d faults.items found
AreBy text d (Right traps) found = AreOf (IsTrap text d) traps.items found
AreBy text d (Refused part) found = IsRefusal text d part found

-- What is wrong with a description where it stands, if it is UTF-8.
abbrev pub AreOn : Option Levels → Finder → Text → SourceDescription → List Finding → Type 0
AreOn levels finder text d found =
    (IsUtf8 (text_of d) × ((judgement : TextJudgement) × IsJudgement (place_of finder d) levels (text_of d) judgement
    × AreBy text d judgement found))
    ⊎ ((¬ IsUtf8 (text_of d)) × IsNote text d found)

-- a finding, unless a comment allows its code
abbrev pub unless_allowed : SourceText → SourceDescription → Finding → List Finding
unless_allowed s d f = if is_allowed s d f.code.now then [] else f ∷ []

-- What is wrong with a description and isn't allowed.
abbrev pub AreLeftOn : Option Levels → SourceText → SourceDescription → List Finding → Type 0
AreLeftOn levels s d found = (all : List Finding) × AreOn levels s.finder s.text.now d all
    × (found ≡ flat_map (unless_allowed s d) all)

-- All that is wrong with the descriptions in a source and that its comments don't allow, one after another, followed by
-- all that is wrong in its comments.
pub record AreFindingsLeft (levels : Option Levels) (s : SourceText) (found : List Finding) : Type 0 where
  pub descriptions : List SourceDescription
  pub judged : AreJudgedIn s descriptions
  pub remarks : List Remark
  pub remarked : AreRemarksOn s remarks
  pub on_descriptions : List Finding
  pub on_comments : List Finding
  pub reported : AreOf (AreLeftOn levels s) descriptions on_descriptions
  pub errors : AreOf (IsRemarked s.text.now) remarks on_comments
  pub all : found ≡ on_descriptions ++ on_comments

-- The comments are those of the source itself.
pub record AreFindingsOf (levels : Option Levels) (s : SourceText) (found : List Finding) : Type 0 where
  pub source : SourceText
  pub finder : source.finder ≡ s.finder
  pub text : source.text.now ≡ s.text.now
  pub allowed : AreAllowances source.finder source.text.now source.allowances.now
  pub left : AreFindingsLeft levels source found
