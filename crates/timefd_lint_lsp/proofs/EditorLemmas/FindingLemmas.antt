-- What is reported about one description.
use Rattle.std.proofs.Common.{ℕ, ◌≡◌, ◌≤◌, ◌-◌, ◌∙◌, ap, arith, drop, get_or, length, take, take_all, Bool, true, false, Option, List, [], ◌∷◌, ◌++◌, refl, sym, subst, inl, inr}
use Rattle.std.specs.Prelude.{IsUtf8, OnOk, Result, Ok, Err}
use Rattle.std.specs.declared.alloc.Global.{Global}
use Rattle.std.specs.declared.vec.Vec.{Vec}
use Rattle.timefd_parse.specs.Tree.{Text}
use Rattle.timefd_lang_dialect.specs.declared.trapping.Found.{Found}
use Rattle.timefd_language.specs.declared.description_version.Language.{Language}
use Rattle.timefd_lint_diagnosis.specs.declared.diagnostic.Diagnostic.{Diagnostic}
use Rattle.timefd_lang_fault.specs.Codes.{code_of, name_of}
use Rattle.timefd_lint_lsp.proofs.EditorLemmas.EachLemmas.{both_added, none_added}
use Rattle.timefd_lint_lsp.proofs.EditorLemmas.WarningLemmas.{in_words}
use Rattle.timefd_lint_lsp.specs.declared.editor.finding.Finding.{Finding}
use Rattle.timefd_lint_lsp.specs.declared.editor.finding.Severity.TheVariants.{Error}
use Rattle.timefd_lint_lsp.specs.Editor.Each.{Adds, AreOf}
use Rattle.timefd_lint_lsp.specs.Editor.Finding.{AreWarnings, IsNote, IsOne}
use Rattle.timefd_lint_lsp.specs.Editor.Others.{IsTrap}
use Rattle.timefd_lint_lsp.specs.Editor.Findings.{AreBy, AreFaults, AreOn, IsFault, fault_words}
use Rattle.timefd_lang_fault.specs.Faults.{fault_of}
use Rattle.timefd_lint_sources.specs.declared.reported.Finder.{Finder}
use Rattle.timefd_lint_sources.specs.declared.judgement.TextPlace.{TextPlace}
use Rattle.timefd_lint_sources.specs.declared.judgement.TextJudgement.{TextJudgement}
use Rattle.timefd_lint_sources.specs.declared.judgement.TextJudgement.TheVariants.{Accepted, Faulty, Right}
use Rattle.timefd_lint_sources.specs.Judged.{text_of}
use Rattle.timefd_lint_sources.specs.Judgements.{IsJudgement, levels_of, place_of}
use Rattle.timefd_lint_scan.specs.declared.description.SourceDescription.{SourceDescription}
use Rattle.timefd_lint_scan.specs.Found.{index_in_source}
use Rattle.timefd_lang_warnings.specs.declared.levels.Levels.{Levels}

pub no_text : {R E : Type 0} (levels : Option Levels) (finder : Finder) (text : Text) (d : SourceDescription)
    (before after : List Finding) (done : Result R E) → ¬ IsUtf8 (text_of d)
    → OnOk done (Adds (IsNote text d) before after) → OnOk done (Adds (AreOn levels finder text d) before after)
no_text levels finder text d before after (Ok x) not (found, note, added) = (found, inr (not, note), added)
no_text levels finder text d before after (Err e) not added = tt

-- A description is judged where it stands.
pub with_judgement : {R E : Type 0} (levels : Option Levels) (finder : Finder) (text : Text) (d : SourceDescription)
    (place : TextPlace) (description : Text) (judgement : TextJudgement) (before after : List Finding) (done : Result R E)
    → IsUtf8 description → description ≡ text_of d → place ≡ place_of finder d
    → IsJudgement place levels description judgement → OnOk done (Adds (AreBy text d judgement) before after)
    → OnOk done (Adds (AreOn levels finder text d) before after)
with_judgement levels finder text d place description judgement before after (Ok x) utf8 same there judged
    (more, are, added) = (
      more,
      inl (
        subst IsUtf8 same utf8,
        (
          judgement,
          subst (λ p. IsJudgement p levels (text_of d) judgement) there
              (subst (λ t. IsJudgement place levels t judgement) same judged),
          are,
        ),
      ),
      added,
    )
with_judgement levels finder text d place description judgement before after (Err e) utf8 same there judged added = tt

-- What a judgement has is handed on as levels and slices.

pub by_warnings : {R E : Type 0} (text : Text) (d : SourceDescription) (judgement : TextJudgement) (language : Language)
    (warned : Option Levels) (given : Levels) (before after : List Finding) (done : Result R E)
    → judgement ≡ Accepted language warned → given ≡ levels_of warned
    → OnOk done (Adds (AreWarnings text d given) before after) → OnOk done (Adds (AreBy text d judgement) before after)
by_warnings text d judgement language warned given before after done is same added =
    subst (λ v. OnOk done (Adds (AreBy text d v) before after)) (sym is)
    (subst (λ l. OnOk done (Adds (AreWarnings text d l) before after)) same added)

pub by_faults : {R E : Type 0} (text : Text) (d : SourceDescription) (judgement : TextJudgement)
    (faults : Vec Diagnostic Global) (given : List Diagnostic) (before after : List Finding) (done : Result R E)
    → judgement ≡ Faulty faults → given ≡ faults.items → OnOk done (Adds (AreFaults text d given) before after)
    → OnOk done (Adds (AreBy text d judgement) before after)
by_faults text d judgement faults given before after done is same added =
    subst (λ v. OnOk done (Adds (AreBy text d v) before after)) (sym is)
    (subst (λ l. OnOk done (Adds (AreFaults text d l) before after)) same added)

pub by_traps : {R E : Type 0} (text : Text) (d : SourceDescription) (judgement : TextJudgement) (traps : Vec Found Global)
    (given : List Found) (before after : List Finding) (done : Result R E) → judgement ≡ Right traps
    → given ≡ traps.items → OnOk done (Adds (AreOf (IsTrap text d) given) before after)
    → OnOk done (Adds (AreBy text d judgement) before after)
by_traps text d judgement traps given before after done is same added =
    subst (λ v. OnOk done (Adds (AreBy text d v) before after)) (sym is)
    (subst (λ l. OnOk done (Adds (AreOf (IsTrap text d) l) before after)) same added)

pub no_faults : (text : Text) (d : SourceDescription) (faults : List Diagnostic) (before : List Finding)
    → faults ≡ [] → Adds (AreFaults text d faults) before before
no_faults text d faults before none =
    none_added (AreFaults text d faults) before (subst (λ l. AreFaults text d l []) (sym none) refl)

from_first : (all : List Diagnostic) (g : Diagnostic) → 1 ≤ length all → g ≡ get_or all 0 g
    → all ≡ g ∷ take (length all - 1) (drop 1 all)
from_first [] g some is = absurd (omega (arith, some))
from_first (x ∷ xs) g some is =
    sym (ap (λ y. y ∷ take (length (x ∷ xs) - 1) xs) is
    ∙ ap (λ t. x ∷ t) (take_all (length (x ∷ xs) - 1) xs (omega arith)))

pub faults : {R E : Type 0} (text : Text) (d : SourceDescription) (all : List Diagnostic) (g : Diagnostic)
    (before middle after : List Finding) (done : Result R E) → 1 ≤ length all → g ≡ get_or all 0 g
    → Adds (IsFault text d false g) before middle
    → OnOk done (Adds (AreOf (IsFault text d true) (take (length all - 1) (drop 1 all))) middle after)
    → OnOk done (Adds (AreFaults text d all) before after)
faults text d all g before middle after (Ok x) some item first others =
    both_added (IsFault text d false g) (AreOf (IsFault text d true) (take (length all - 1) (drop 1 all)))
    (AreFaults text d all) before middle after
    (λ one rest is_one are. subst (λ l. AreFaults text d l (one ++ rest)) (sym (from_first all g some item))
    (one, rest, is_one, are, refl)) first others
faults text d all g before middle after (Err e) some item first others = tt

pub at_positions : {R E : Type 0} (text : Text) (d : SourceDescription) (further : Bool) (g : Diagnostic)
    (from to : ℕ) (name words : Text) (before after : List Finding) (done : Result R E)
    → from ≡ index_in_source d g.span.start → to ≡ index_in_source d g.span.end
    → name ≡ name_of (code_of (fault_of g.fault).kind) → words ≡ fault_words further g
    → OnOk done (Adds (IsOne text from to Error name words) before after)
    → OnOk done (Adds (IsFault text d further g) before after)
at_positions text d further g from to name words before after done begins ends named worded added =
    subst (λ i. OnOk done (Adds (IsOne text i (index_in_source d g.span.end) Error
    (name_of (code_of (fault_of g.fault).kind)) (fault_words further g)) before after)) begins
    (subst (λ i. OnOk done (Adds (IsOne text from i Error
    (name_of (code_of (fault_of g.fault).kind)) (fault_words further g)) before after)) ends
    (in_words text from to Error name (name_of (code_of (fault_of g.fault).kind)) words
    (fault_words further g) before after done named worded added))
