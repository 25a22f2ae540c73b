-- The result for nodes that a moment is written by.
use Rattle.std.specs.Prelude.{◌≡◌, ◌<◌, ◌≤◌, ◌++◌, length, drop, Result, Ok, Err}
use Rattle.timefd_lang_component.specs.Tree.{Text}
use Rattle.timefd_lang_node_list.specs.Nodes.{kept_bytes}
use Rattle.timefd_date_format.specs.declared.field.Unshown.{Unshown}
use Rattle.timefd_c_nodes.specs.declared.formatting.format.NodesText.{NodesText}
use Rattle.timefd_c_nodes.specs.declared.formatting.format.NodesError.{NodesError}
use Rattle.timefd_c_nodes.specs.declared.formatting.format.NodesError.TheVariants as fails

-- The buffer begins with the text if all of it fits, and is otherwise unchanged. The answer has the length,
-- at most the greatest `usize`.
pub record IsShown (text before after : Text) (answer : NodesText) : Type 0 where
  pub len : answer.len ≡ kept_bytes (length text)
  pub whole : length text ≤ length before
      → (after ≡ text ++ drop (length text) before) × (answer.written ≡ length text)
  pub too_short : length before < length text → (after ≡ before) × (answer.written ≡ 0)

-- The text is written; or the answer names the first component that shows nothing, and the buffer is
-- unchanged.
abbrev pub ShowsNodes : Result Text Unshown → Text → Text → Result NodesText NodesError → Type 0
ShowsNodes (Ok text) before after (Ok answer) = IsShown text before after answer
ShowsNodes (Ok text) before after (Err e) = ⊥
ShowsNodes (Err v) before after (Ok answer) = ⊥
ShowsNodes (Err v) before after (Err (fails.Unshown u)) = (u ≡ v) × (after ≡ before)
ShowsNodes (Err v) before after (Err (fails.NoDescription at)) = ⊥
