-- The report on a text.
use Rattle.std.specs.Prelude.{◌≡◌, ◌⊎◌, List, Option, Some, None, Result, Ok, Err, IsUtf8, string_bytes, ⊤}
use Rattle.std.specs.declared.alloc.Global.{Global}
use Rattle.std.specs.declared.string.String.{String}
use Rattle.timefd_parse.specs.Placed.{IsPlaced}
use Rattle.timefd_parse.specs.Reserved.{reserve_all}
use Rattle.timefd_parse.specs.Tree.{Text, Tree, trees}
use Rattle.timefd_lang_convert.specs.Answers.{IsNormalOf, IsPrintedOf}
use Rattle.timefd_lint_diagnosis.specs.declared.diagnostic.Diagnostic.{Diagnostic}
use Rattle.timefd_lint_diagnosis.specs.Diagnoses.{IsDiagnosis}
use Rattle.timefd_lint_explain.specs.Examples.{Examples}
use Rattle.timefd_lint_explain.specs.Parts.{AreParts, all_parts}
use Rattle.timefd_lint_explain.specs.Stands.{NodesStand}
use Rattle.timefd_lint_explain.specs.declared.explain.Explanation.{Explanation}
use Rattle.timefd_parse.specs.Faults.{fault_of}
use Rattle.timefd_date_format.specs.declared.field.Unshown.{Unshown}
use Rattle.timefd_date_format.specs.Written.{written_all}
use Rattle.timefd_parse.specs.DescriptionVersion.TheVariants.{One, Two, Three}
use Rattle.timefd_parse.specs.Grammar.{nesting_limit}
use Rattle.timefd_lift.specs.Answers.{IsRewritten}
use Rattle.timefd_lift.specs.Modernized.{IsWrittenOf}
use Rattle.timefd_date_moment.specs.declared.moment.Moment.{Moment}
use Rattle.timefd_lang_node_list.specs.Nodes.{kept_bytes}
use Rattle.timefd_parse.specs.LanguageType.{Language}
use Rattle.timefd_parse.specs.LanguageType.TheVariants.{Version, Strftime}
use Rattle.timefd_parse.specs.Language.{SpellsIn, FaultIn}
use Rattle.timefd_web.specs.declared.later.Later.{Later}
use Rattle.timefd_web.specs.Objects.{accepted_object, refused_object}

-- the bytes as text, or nothing if they aren't UTF-8
abbrev pub IsTextOf : Text → Option (String Global) → Type 0
IsTextOf bytes (Some text) = string_bytes text ≡ bytes
IsTextOf bytes None = ¬ (IsUtf8 bytes)

-- What is to be written, or nothing if a component shows nothing.
abbrev pub IsWritten : Result Text Unshown → Option (String Global) → Type 0
IsWritten (Ok text) shown = IsTextOf text shown
IsWritten (Err u) None = ⊤
IsWritten (Err u) (Some text) = ⊥

-- for a text of version 1: what it is converted to in version 2, and what that is in version 3
abbrev pub IsLaterThanOne : Text → Option (String Global) → Text → Type 0
IsLaterThanOne text (Some two) three =
    IsRewritten text (string_bytes two) × IsWrittenOf (string_bytes two) three
IsLaterThanOne text None three = ⊥

-- the texts in later versions
abbrev pub IsLater : Language → Text → Later → Type 0
IsLater (Version One) text l = IsLaterThanOne text l.version_2 (string_bytes l.version_3)
IsLater (Version Two) text l =
    (l.version_2 ≡ None) × IsWrittenOf text (string_bytes l.version_3)
IsLater (Version Three) text l =
    (l.version_2 ≡ None) × IsNormalOf text (string_bytes l.version_3)
IsLater Strftime text l = (l.version_2 ≡ None) × IsPrintedOf text (string_bytes l.version_3)

-- The object says that the text is accepted: how many bytes it reserves, its nodes, one for each part of
-- what it spells, with their positions and examples, what it writes of the moment, and its texts in later
-- versions.
pub record IsAccepted (language : Language) (moment : Moment) (text : Text) (list : List Tree)
    (object : Text) : Type 0 where
  pub explanation : Explanation
  pub shown : Option (String Global)
  pub later : Later
  pub reserved : explanation.bytes ≡ kept_bytes (reserve_all (trees list))
  pub parts : AreParts (all_parts 0 (trees list)) explanation.nodes.items
  pub positions : NodesStand language (trees list) text explanation.nodes.items
  pub examples : Examples explanation.nodes.items
  pub written : IsWritten (written_all moment (trees list)) shown
  pub is_later : IsLater language text later
  pub said : object ≡ accepted_object explanation shown later

-- The text spells a list, and the object says that the text is accepted.
pub record Accepts (language : Language) (moment : Moment) (text object : Text) : Type 0 where
  pub list : List Tree
  pub spells : SpellsIn language nesting_limit text list
  pub says : IsAccepted language moment text list object

-- The text has a fault, and the object says that it is refused for that fault, with the fault's name, its
-- sentence, its span and what helps.
pub record Refuses (language : Language) (text object : Text) : Type 0 where
  pub diagnostic : Diagnostic
  pub fault : FaultIn language nesting_limit text (fault_of diagnostic.fault)
  pub position : IsPlaced text (fault_of diagnostic.fault)
  pub diagnosis : IsDiagnosis language text diagnostic
  pub said : object ≡ refused_object diagnostic

-- The report says that the text is accepted, or why it is refused.
abbrev pub Reports : Language → Moment → Text → Text → Type 0
Reports language moment text object =
    Accepts language moment text object ⊎ Refuses language text object
