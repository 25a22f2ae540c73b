-- From the parts of a report to the report.
use Rattle.std.proofs.Common.{ℕ, ◌≡◌, List, Option, Result, IfOk, inl, inr}
use Rattle.std.proofs.lemmas.Result.{IfOk-weaker}
use Rattle.std.specs.declared.alloc.AllocError.{AllocError}
use Rattle.std.specs.declared.alloc.Global.{Global}
use Rattle.std.specs.declared.string.String.{String}
use Rattle.std.specs.declared.vec.Vec.{Vec}
use Rattle.timefd_parse.specs.Placed.{IsPlaced}
use Rattle.timefd_parse.specs.Reserved.{reserve_all}
use Rattle.timefd_parse.specs.Tree.{Text, Tree, trees}
use Rattle.timefd_lint_diagnosis.specs.declared.diagnostic.Diagnostic.{Diagnostic}
use Rattle.timefd_lint_diagnosis.specs.Diagnoses.{IsDiagnosis}
use Rattle.timefd_lint_explain.specs.Examples.{Examples}
use Rattle.timefd_lint_explain.specs.Parts.{AreParts, all_parts}
use Rattle.timefd_lint_explain.specs.Stands.{NodesStand}
use Rattle.timefd_lint_explain.specs.declared.explain.Explanation.{Explanation}
use Rattle.timefd_parse.specs.Faults.{fault_of}
use Rattle.timefd_date_format.specs.Written.{written_all}
use Rattle.timefd_parse.specs.Grammar.{nesting_limit}
use Rattle.timefd_date_moment.specs.declared.moment.Moment.{Moment}
use Rattle.timefd_lang_node_list.specs.Nodes.{kept_bytes}
use Rattle.timefd_parse.specs.LanguageType.{Language}
use Rattle.timefd_parse.specs.Language.{SpellsIn, FaultIn}
use Rattle.timefd_web.specs.declared.later.Later.{Later}
use Rattle.timefd_web.specs.Objects.{accepted_object, refused_object}
use Rattle.timefd_web.specs.Reports.{IsAccepted, IsLater, IsWritten, Reports}

module _ (language : Language) (moment : Moment) (text : Text) (r : Result (Vec ℕ Global) AllocError) where
  pub refused_report : (d : Diagnostic) → FaultIn language nesting_limit text (fault_of d.fault)
      → IsPlaced text (fault_of d.fault) → IsDiagnosis language text d
      → IfOk r (λ object. object.items ≡ refused_object d)
      → IfOk r (λ object. Reports language moment text object.items)
  refused_report d fault position diagnosis is =
      IfOk-weaker r _ _ (λ object said. inr (record {
        diagnostic = d;
        fault = fault;
        position = position;
        diagnosis = diagnosis;
        said = said;
      })) is

  pub accepted_report : (list : List Tree) → SpellsIn language nesting_limit text list
      → ((l : List Tree) → SpellsIn language nesting_limit text l
      → IfOk r (λ object. IsAccepted language moment text l object.items))
      → IfOk r (λ object. Reports language moment text object.items)
  accepted_report list spells is =
      IfOk-weaker r _ _ (λ object says. inl (record { list = list; spells = spells; says = says }))
      (is list spells)

  pub accepted_by : (list : List Tree) (e : Explanation) (w : Option (String Global)) (l : Later)
      → e.bytes ≡ kept_bytes (reserve_all (trees list))
      → AreParts (all_parts 0 (trees list)) e.nodes.items
      → NodesStand language (trees list) text e.nodes.items → Examples e.nodes.items
      → IsWritten (written_all moment (trees list)) w → IsLater language text l
      → IfOk r (λ object. object.items ≡ accepted_object e w l)
      → IfOk r (λ object. IsAccepted language moment text list object.items)
  accepted_by list e w l reserved parts positions examples written later is =
      IfOk-weaker r _ _ (λ object said. record {
        explanation = e;
        shown = w;
        later = l;
        reserved = reserved;
        parts = parts;
        positions = positions;
        examples = examples;
        written = written;
        is_later = later;
        said = said;
      }) is
