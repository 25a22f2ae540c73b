-- Dates that are read by nodes at once.
use Rattle.std.proofs.Common.{List, Result, Ok, map, sym, subst}
use Rattle.timefd_c.specs.Dates.{IsRead, ReadsBy}
use Rattle.timefd_c.specs.NodeDates.{ReadsNodes}
use Rattle.timefd_c.specs.declared.date_answer.DateAnswer.{DateAnswer}
use Rattle.timefd_c_nodes.specs.Dates.Shown.{IsShown}
use Rattle.timefd_c_nodes.specs.Formatting.Nodes.{node_trees}
use Rattle.timefd_c_nodes.specs.declared.node.RawNode.{RawNode}
use Rattle.timefd_date_moment.specs.declared.moment.Moment.{Moment}
use Rattle.timefd_description.specs.ReadAnswers.{IsReadAs, fields_in}
use Rattle.timefd_description.specs.declared.read_error.ReadTextError.{ReadTextError}
use Rattle.timefd_c_nodes.specs.Formatting.Flat.{ReadAs}
use Rattle.timefd_lang_component.specs.Tree.{Text, Tree}
use Rattle.timefd_lang_node_list.specs.LeafMeaning.{leaf_tree}
use Rattle.timefd_lang_node_list.specs.declared.leaves.Leaf.{Leaf}

pub read_at_once : (nodes : List RawNode) (literals date : Text) (m : Moment) (answer : DateAnswer)
    → IsShown nodes literals date m → IsRead m answer → ReadsNodes nodes literals date answer
read_at_once nodes literals date m answer shown read =
    let answered : Result Moment ReadTextError = Ok m in
    let is : IsReadAs (fields_in (node_trees literals nodes) date) answered =
    subst (λ r. IsReadAs r answered) (sym shown.are.shown) shown.moment in
    record {
      no_description = λ at e. absurd (cc (e, shown.are.sound));
      not_utf8 = λ sound e. absurd (cc (e, shown.are.texts));
      date_not_utf8 = λ sound texts no. absurd (no shown.utf8);
      reads = λ sound texts utf8. (answered, is, read);
    }

-- What is read by leaves is read by the trees that read the same.
pub read_as : (ts : List Tree) (leaves : List Leaf) (date : Text) (answer : DateAnswer) → ReadAs ts leaves
    → ReadsBy (map leaf_tree leaves) date answer → ReadsBy ts date answer
read_as ts leaves date answer same reads =
    (reads.0, subst (λ r. IsReadAs r reads.0) (sym (same date)) reads.1, reads.2)
