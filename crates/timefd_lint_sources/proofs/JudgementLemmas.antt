-- What is wrong with a text where it stands.
use Rattle.std.proofs.Common.{◌≡◌, Bool, true, Option, None, Some, List, [], ◌∷◌, Result, ap, refl, subst, sym}
use Rattle.std.specs.Prelude.{IfOk, IfSome, flat_map, is_some}
use Rattle.std.specs.declared.alloc.Global.{Global}
use Rattle.std.specs.declared.vec.Vec.{Vec}
use Rattle.timefd_parse.specs.Tree.{Text}
use Rattle.timefd_lang_dialect.specs.declared.dialect.Dialect.{Dialect}
use Rattle.timefd_lang_dialect.specs.declared.error.RefusedPart.{RefusedPart}
use Rattle.timefd_lang_dialect.specs.declared.trapping.Found.{Found}
use Rattle.timefd_parse.specs.Faults.{fault_of}
use Rattle.timefd_lang_warnings.specs.declared.levels.Levels.{Levels}
use Rattle.timefd_language.specs.Grammar.{nesting_limit}
use Rattle.timefd_language.specs.declared.description_version.Language.{Language}
use Rattle.timefd_lint_diagnosis.specs.declared.diagnostic.Diagnostic.{Diagnostic}
use Rattle.timefd_lint_diagnosis.specs.Diagnoses.{IsDiagnosis}
use Rattle.timefd_lint_diagnosis.specs.Further.{AreFurther, most_further, without}
use Rattle.timefd_lint_scan.specs.declared.description.SourceDescription.{SourceDescription}
use Rattle.timefd_lint_scan.specs.declared.known.Items.{Items}
use Rattle.timefd_lint_warnings.specs.Found.{IsFoundIn}
use Rattle.timefd_lint_sources.specs.declared.reported.SourceText.{SourceText}
use Rattle.timefd_lint_sources.specs.declared.judgement.RefusedParts.{RefusedParts}
use Rattle.timefd_lint_sources.specs.declared.judgement.TextPlace.{TextPlace}
use Rattle.timefd_lint_sources.specs.declared.judgement.TextPlace.TheVariants.{Own, Other}
use Rattle.timefd_lint_sources.specs.declared.judgement.TextJudgement.{TextJudgement}
use Rattle.timefd_lint_sources.specs.declared.judgement.TextJudgement.TheVariants.{Faulty, Right, Refused}
use Rattle.timefd_lint_sources.specs.Allowed.{IsLeftOf, IsRefusalLeft, unless_allowed, unless_trap}
use Rattle.timefd_lint_sources.specs.Search.{IsSearched}
use Rattle.timefd_lint_sources.specs.Judgements.{AreTrapsIf, IsAcceptedBy, IsJudgement, found_if, unless_item}
use Rattle.timefd_parse.specs.Language.{FaultIn}

pub in_place : {E : Type 0} (place given : TextPlace) (levels : Option Levels) (text : Text) (done : Result TextJudgement E)
    → place ≡ given → IfOk done (IsJudgement given levels text) → IfOk done (IsJudgement place levels text)
in_place place given levels text done is judged = subst (λ p. IfOk done (IsJudgement p levels text)) (sym is) judged

-- A text whose warnings were found at once is accepted, and has these warnings.
pub accepted_at_once : (language : Language) (levels : Option Levels) (asked : Levels) (text : Text) (found : Option Levels)
    → levels ≡ Some asked → IfSome found (IsFoundIn language asked text)
    → IfSome found (λ f. IsAcceptedBy language levels text (Some f))
accepted_at_once language levels asked text None is f = tt
accepted_at_once language levels asked text (Some x) is (list, spelled, are) =
    (list, spelled, subst (λ l. Some x ≡ found_if l language list) (sym is) (ap Some are))

-- The faults of a text, which was diagnosed.
pub are_faults : (language : Language) (items : Items) (levels : Option Levels) (text : Text) (found : Option Diagnostic)
    (g : Diagnostic) (faults : Vec Diagnostic Global) → found ≡ Some g
    → IfSome found (λ x. FaultIn language nesting_limit text (fault_of x.fault))
    → IfSome found (IsDiagnosis language text)
    → ((further : List Diagnostic) × AreFurther most_further language (without language text (fault_of g.fault)) further
    × (faults.items ≡ g ∷ flat_map (unless_item items) further))
    → IsJudgement (Own language items) levels text (Faulty faults)
are_faults language items levels text found g faults is faulty diagnosed (further, others, all) = (
  g,
  further,
  record {
    first = record {
      fault = subst (λ o. IfSome o (λ x. FaultIn language nesting_limit text (fault_of x.fault))) is faulty;
      diagnosis = subst (λ o. IfSome o (IsDiagnosis language text)) is diagnosed;
    };
    further = others;
  },
  all,
)

-- A format of another language or library is right, or a part of it is refused.

pub is_right : (dialect : Dialect) (parts : RefusedParts) (levels : Option Levels) (text : Text)
    (found : Option RefusedPart) (is_asked : Bool) (traps : Vec Found Global) → found ≡ None
    → IsSearched parts dialect text found → is_asked ≡ is_some levels → AreTrapsIf is_asked dialect text traps.items
    → IsJudgement (Other dialect parts) levels text (Right traps)
is_right dialect parts levels text found is_asked traps none searched asked are = (
  subst (IsSearched parts dialect text) none searched,
  subst (λ b. AreTrapsIf b dialect text traps.items) asked are,
)

pub is_refused : (dialect : Dialect) (parts : RefusedParts) (levels : Option Levels) (text : Text)
    (found : Option RefusedPart) (part : RefusedPart) → found ≡ Some part → IsSearched parts dialect text found
    → IsJudgement (Other dialect parts) levels text (Refused part)
is_refused dialect parts levels text found part is searched = subst (IsSearched parts dialect text) is searched

-- What comments leave.

pub faulty_left : (s : SourceText) (d : SourceDescription) (faults rest : Vec Diagnostic Global)
    → rest.items ≡ flat_map (unless_allowed s d) faults.items → IsLeftOf s d (Faulty faults) (Faulty rest)
faulty_left s d faults rest are = (rest, refl, are)

pub traps_left : (s : SourceText) (d : SourceDescription) (traps rest : Vec Found Global)
    → rest.items ≡ flat_map (unless_trap s d) traps.items → IsLeftOf s d (Right traps) (Right rest)
traps_left s d traps rest are = (rest, refl, are)

pub refusal_allowed : (is_allowed : Bool) (part : RefusedPart) (none : Vec Found Global) → is_allowed ≡ true
    → none.items ≡ [] → IsRefusalLeft is_allowed part (Right none)
refusal_allowed is_allowed part none is are =
    subst (λ b. IsRefusalLeft b part (Right none)) (sym is) (none, refl, are)
