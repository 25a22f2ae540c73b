-- The answer to C about a text of strftime in which a composite letter is one node.
use Rattle.std.specs.Prelude.{◌≡◌, ◌≢◌, ◌≤◌, IsFalse, List, Some, length}
use Rattle.timefd_lang_component.specs.Tree.{Text, Tree}
use Rattle.timefd_language.specs.Grammar.{nesting_limit}
use Rattle.timefd_language.specs.declared.description_version.Language.TheVariants.{Strftime}
use Rattle.timefd_c_nodes.specs.declared.node.RawNode.{RawNode}
use Rattle.timefd_c_nodes.specs.Reading.Pieces.{IsReportOfPieces}
use Rattle.timefd_c.specs.declared.answer.TheConstants.{ACCEPTED, NO_MEMORY, REFUSED}
use Rattle.timefd_c.specs.declared.answer.ReadAnswer.{ReadAnswer}
use Rattle.timefd_c.specs.Answers.{Describes, IsAnswer}
use Rattle.timefd_c.specs.Reading.{IsLongest, report_in}

-- The answer says what the bytes are as a text of strftime, and what was written to the buffers, which held
-- `nodes_before` and `before` and hold `nodes_after` and `after`: each item is one node.
pub record ReadsComposites (bytes : Text) (nodes_before nodes_after : List RawNode) (before after : Text)
    (answer : ReadAnswer) : Type 0 where
  pub answers : IsAnswer (Some Strftime) nesting_limit bytes (List Tree) (Describes (Some Strftime) bytes)
      (λ list. IsReportOfPieces list nodes_before nodes_after before after (report_in answer))
      answer.status answer.value
  -- There are as many nodes as items. Neither the nodes nor the bytes of literals are more than the bytes
  -- of the text.
  pub nodes : answer.status ≡ ACCEPTED → answer.nodes ≡ answer.value
  pub nodes_within : answer.nodes ≤ length bytes
  pub literals_within : answer.literals ≤ length bytes
  pub longest : answer.status ≡ ACCEPTED → (list : List Tree) → Describes (Some Strftime) bytes list
      → IsLongest list answer.bytes
  -- If the bytes aren't a text, nothing is written.
  pub nodes_kept : answer.status ≢ ACCEPTED → answer.status ≢ REFUSED → answer.status ≢ NO_MEMORY
      → nodes_after ≡ nodes_before
  pub literals_kept : answer.status ≢ ACCEPTED → answer.status ≢ REFUSED
      → answer.status ≢ NO_MEMORY → after ≡ before
  pub none_counted : answer.status ≢ ACCEPTED → (answer.nodes ≡ 0) × (answer.literals ≡ 0)
      × IsFalse answer.written × (answer.bytes ≡ 0)
  -- Reading takes no memory, so it can't run out.
  pub memory : answer.status ≢ NO_MEMORY
