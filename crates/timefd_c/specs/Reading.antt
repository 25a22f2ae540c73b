-- The answer to C about a text that is read as nodes.
use Rattle.std.specs.Prelude.{ℕ, ◌≡◌, ◌≢◌, ◌+◌, ◌-◌, ◌*◌, ◌^◌, ◌<◌, ◌≤◌, IsFalse, IsTrue, List, Option, Some, None, length, take}
use Rattle.timefd_lang_component.specs.Texts.{RendersAll}
use Rattle.timefd_lang_component.specs.Tree.{Text, Tree, trees}
use Rattle.timefd_language.specs.declared.description_version.DescriptionVersion.TheVariants.{One, Two, Three}
use Rattle.timefd_language.specs.declared.description_version.Language.{Language}
use Rattle.timefd_language.specs.declared.description_version.Language.TheVariants.{Version, Strftime}
use Rattle.timefd_c_nodes.specs.declared.node.RawNode.{RawNode}
use Rattle.timefd_c.specs.declared.answer.TheConstants.{ACCEPTED, NO_MEMORY, REFUSED}
use Rattle.timefd_c.specs.declared.answer.ReadAnswer.{ReadAnswer}
use Rattle.timefd_c_nodes.specs.declared.reading.report.ReadReport.{ReadReport}
use Rattle.timefd_c.specs.Answers.{DescribesWithin, IsAnswer}
use Rattle.timefd_c_nodes.specs.Decoding.{read_nodes}
use Rattle.timefd_c_nodes.specs.Reading.Reports.{IsReport, TakesNone, tops}

-- what the answer reports
abbrev pub report_in : ReadAnswer → ReadReport
report_in answer =
    record {
      value = answer.value;
      bytes = answer.bytes;
      nodes = answer.nodes;
      literals = answer.literals;
      written =
          answer.written;
    }

-- The answer reports the list. If both buffers have room, they begin with its nodes and literals.
abbrev pub Gives : Option Language → List Tree → List RawNode → List RawNode → Text → Text → ReadAnswer
    → Type 0
Gives (Some language) list nodes_before nodes_after before after answer =
    IsReport language list nodes_before nodes_after before after (report_in answer)
Gives None list nodes_before nodes_after before after answer = ⊥

-- The written nodes, with the written literals, read as the list.
abbrev pub ReadAs : Option Language → List Tree → List RawNode → Text → ReadAnswer → Type 0
ReadAs (Some language) list nodes literals answer =
    read_nodes (take answer.literals literals) (take answer.nodes nodes) ≡ Some (tops language list)
ReadAs None list nodes literals answer = ⊥

-- A text of `len` bytes has at most this many nodes. Strftime's `%c` has fourteen.
abbrev pub most_nodes : Option Language → ℕ → ℕ
most_nodes None len = 0
most_nodes (Some (Version One)) len = len
most_nodes (Some (Version Two)) len = len
most_nodes (Some (Version Three)) len = len + 1
most_nodes (Some Strftime) len = 7 * len

-- The literals of a text of `len` bytes have at most this many bytes. In versions 1, 2 and 3 they are in
-- the text; strftime's `%c` has six.
abbrev pub most_literals : Option Language → ℕ → ℕ
most_literals None len = 0
most_literals (Some (Version v)) len = len
most_literals (Some Strftime) len = 3 * len

-- A rendering of the list has `bytes` bytes, and none has more. If that is more than a `usize` counts,
-- `bytes` is the greatest one, and a rendering has at least that many.
pub record IsLongest (list : List Tree) (bytes : ℕ) : Type 0 where
  pub reached : (text : Text) × RendersAll (trees list) text × (bytes ≤ length text)
  pub most : bytes < 2 ^ 64 - 1 → (text : Text) → RendersAll (trees list) text
      → length text ≤ bytes

-- The answer says what the bytes are in the language, if there is one, with at most `limit` nested
-- descriptions around one another, and what was written to the buffers, which held `nodes_before` and
-- `before` and hold `nodes_after` and `after`.
pub record Reads (language : Option Language) (limit : ℕ) (bytes : Text)
    (nodes_before nodes_after : List RawNode) (before after : Text) (answer : ReadAnswer) : Type 0 where
  pub answers : IsAnswer language limit bytes (List Tree) (DescribesWithin language limit bytes)
      (λ list. Gives language list nodes_before nodes_after before after answer)
      answer.status answer.value
  -- What is written reads as what the text spells.
  pub read : answer.status ≡ ACCEPTED → IsTrue answer.written → (list : List Tree)
      → DescribesWithin language limit bytes list
      → ReadAs language list nodes_after after answer
  -- A text of version 3 has at most one node more than bytes.
  pub within : answer.status ≡ ACCEPTED → language ≡ Some (Version Three)
      → answer.nodes ≤ length bytes + 1
  -- This much room is always enough.
  pub nodes_within : answer.nodes ≤ most_nodes language (length bytes)
  pub literals_within : answer.literals ≤ most_literals language (length bytes)
  -- In every language the answer has the length of the longest rendering. In version 3 it is the value.
  pub longest : answer.status ≡ ACCEPTED → (list : List Tree)
      → DescribesWithin language limit bytes list → IsLongest list answer.bytes
  pub reserved : answer.status ≡ ACCEPTED → language ≡ Some (Version Three)
      → answer.bytes ≡ answer.value
  -- If the language is unknown or the bytes aren't UTF-8, nothing is written.
  pub nodes_kept : answer.status ≢ ACCEPTED → answer.status ≢ REFUSED → answer.status ≢ NO_MEMORY
      → nodes_after ≡ nodes_before
  pub literals_kept : answer.status ≢ ACCEPTED → answer.status ≢ REFUSED
      → answer.status ≢ NO_MEMORY → after ≡ before
  pub none_counted : answer.status ≢ ACCEPTED → (answer.nodes ≡ 0) × (answer.literals ≡ 0)
      × IsFalse answer.written × (answer.bytes ≡ 0)
  -- Only nested descriptions of version 3 take memory.
  pub memory : (l : Language) → language ≡ Some l → TakesNone l (length bytes) → answer.status ≢ NO_MEMORY
