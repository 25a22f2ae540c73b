-- The answer to C about nodes that a date is read by.
use Rattle.std.specs.List.{list_all}
use Rattle.std.specs.Prelude.{ℕ, ◌≡◌, IsUtf8, List, Bool, true, false, Some, None}
use Rattle.timefd_c.specs.Dates.{ReadsBy, silent}
use Rattle.timefd_c.specs.declared.answer.TheConstants.{NOT_UTF8}
use Rattle.timefd_c.specs.declared.date_answer.DateAnswer.{DateAnswer}
use Rattle.timefd_c.specs.declared.date_answer.TheConstants.{DATE_NOT_UTF8}
use Rattle.timefd_c.specs.declared.format_answer.TheConstants.{NO_DESCRIPTION}
use Rattle.timefd_c_nodes.specs.Formatting.Literals.{is_text}
use Rattle.timefd_c_nodes.specs.Formatting.Nodes.{node_fault, node_trees}
use Rattle.timefd_c_nodes.specs.Formatting.Parts.{role_in}
use Rattle.timefd_c_nodes.specs.declared.node.RawNode.{RawNode}
use Rattle.timefd_lang_component.specs.Tree.{Text}

-- whether each literal of nodes is UTF-8 by itself
abbrev pub are_texts : Text → List RawNode → Bool
are_texts literals nodes = list_all (λ n. is_text (role_in literals n)) nodes

-- The answer says what the date shows by the nodes, or which node is not part of a description, or that a
-- literal or the date isn't UTF-8.
pub record ReadsNodes (nodes : List RawNode) (literals date : Text) (answer : DateAnswer) : Type 0 where
  pub no_description : (at : ℕ) → node_fault literals nodes ≡ Some at → answer ≡ silent NO_DESCRIPTION at
  pub not_utf8 : node_fault literals nodes ≡ None → are_texts literals nodes ≡ false
      → answer ≡ silent NOT_UTF8 0
  pub date_not_utf8 : node_fault literals nodes ≡ None → are_texts literals nodes ≡ true
      → ¬ (IsUtf8 date) → answer ≡ silent DATE_NOT_UTF8 0
  pub reads : node_fault literals nodes ≡ None → are_texts literals nodes ≡ true → IsUtf8 date
      → ReadsBy (node_trees literals nodes) date answer
