-- The answer to C about nodes that a moment is written by.
use Rattle.std.specs.Prelude.{ℕ, ◌≡◌, ◌≢◌, ◌≤◌, ◌<◌, ◌++◌, List, Some, None, Result, Ok, Err, length, drop}
use Rattle.timefd_c.specs.declared.answer.TheConstants.{ACCEPTED, NO_MEMORY}
use Rattle.timefd_c.specs.declared.format_answer.FormatAnswer.{FormatAnswer}
use Rattle.timefd_c.specs.declared.format_answer.TheConstants.{NO_DESCRIPTION}
use Rattle.timefd_c.specs.declared.moment.MomentFields.{MomentFields}
use Rattle.timefd_c.specs.Formats.{range_answer, silent, unshown_answer}
use Rattle.timefd_c.specs.Moments.{IsMoment, range_fault}
use Rattle.timefd_c_nodes.specs.Formatting.Nodes.{node_fault, node_trees}
use Rattle.timefd_c_nodes.specs.declared.node.RawNode.{RawNode}
use Rattle.timefd_lang_component.specs.Tree.{Text, trees}
use Rattle.timefd_date_format.specs.declared.field.Unshown.{Unshown}
use Rattle.timefd_date_format.specs.Written.{written_all}
use Rattle.timefd_date_moment.specs.declared.component_range.ComponentRange.{ComponentRange}
use Rattle.timefd_date_moment.specs.declared.moment.Moment.{Moment}
use Rattle.timefd_lang_node_list.specs.Nodes.{kept_bytes}

-- The buffer begins with the text if all of it fits, and is otherwise unchanged. The answer has the length,
-- at most the greatest `usize`.
pub record IsReportedOf (text before after : Text) (answer : FormatAnswer) : Type 0 where
  pub reported : answer ≡ record (silent ACCEPTED (kept_bytes (length text))) { written = answer.written }
  pub whole : length text ≤ length before
      → (after ≡ text ++ drop (length text) before) × (answer.written ≡ length text)
  pub too_short : length before < length text → (after ≡ before) × (answer.written ≡ 0)

-- The answer has the text, or the first component that shows nothing.
abbrev pub ShowsBy : Result Text Unshown → Text → Text → FormatAnswer → Type 0
ShowsBy (Ok text) before after answer = IsReportedOf text before after answer
ShowsBy (Err u) before after answer = (answer ≡ unshown_answer u) × (after ≡ before)

-- The answer says what the nodes write of the moment, or which node is not part of a description. The
-- buffer held `before` and holds `after`.
pub record FormatsNodesBy (nodes : List RawNode) (literals : Text) (m : Moment) (before after : Text)
    (answer : FormatAnswer) : Type 0 where
  pub no_description : (at : ℕ) → node_fault literals nodes ≡ Some at
      → (answer ≡ silent NO_DESCRIPTION at) × (after ≡ before)
  pub shows : node_fault literals nodes ≡ None
      → ShowsBy (written_all m (trees (node_trees literals nodes))) before after answer
  -- Writing takes no memory, so it can't run out.
  pub memory : answer.status ≢ NO_MEMORY

-- The answer says what the nodes write of the moment with these numbers. If one of them is out of its
-- range, the answer says so, whatever the nodes are.
pub record FormatsNodes (nodes : List RawNode) (literals : Text) (fields : MomentFields)
    (before after : Text) (answer : FormatAnswer) : Type 0 where
  pub out_of_range : (e : ComponentRange) → range_fault fields ≡ Some e
      → (answer ≡ range_answer e) × (after ≡ before)
  pub formats : range_fault fields ≡ None
      → (m : Moment) × IsMoment fields m × FormatsNodesBy nodes literals m before after answer
  pub memory : answer.status ≢ NO_MEMORY
