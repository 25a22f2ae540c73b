-- What was read and written of a text so far.
use Rattle.std.specs.Prelude.{ℕ, ◌≡◌, ◌+◌, List, length}
use Rattle.timefd_lang_component.specs.Reserved.{reserve_all}
use Rattle.timefd_lang_component.specs.Tree.{Text, Tree, trees}
use Rattle.timefd_lang_node_list.specs.Nodes.{kept_bytes}
use Rattle.timefd_lang_node_list.specs.Views.{walked_all}
use Rattle.timefd_c_nodes.specs.declared.node.RawNode.{RawNode}
use Rattle.timefd_c_nodes.specs.declared.position.TheConstants.{START}
use Rattle.timefd_c_nodes.specs.declared.position.Written.{Written}
use Rattle.timefd_c_nodes.specs.Encoding.{node_for, own_text}
use Rattle.timefd_c_nodes.specs.Writing.{WritesParts}
use Rattle.timefd_c_nodes.specs.declared.reading.progress.ReadProgress.{ReadProgress}

-- These parts were written one after another, as far as there is room; `list` is what was read.
pub record HasWrittenParts {A : Type 0} (node : ℕ → ℕ → A → RawNode) (own : A → Text) (parts : List A)
    (list : List Tree) (nodes_before nodes_after : List RawNode) (before after : Text) (p : ReadProgress)
    : Type 0 where
  pub within : WritesParts node own parts START p.end nodes_before nodes_after before after
  pub count : p.count ≡ length list
  pub bytes : p.bytes ≡ kept_bytes (reserve_all (trees list))

-- These trees were read, and their parts were written one after another, as far as there is room.
abbrev pub HasWritten : List Tree → List RawNode → List RawNode → Text → Text → ReadProgress → Type 0
HasWritten list nodes_before nodes_after before after p =
    HasWrittenParts node_for own_text (walked_all (trees list)) list nodes_before nodes_after before
    after p

-- one more item was written
abbrev pub one_more : ReadProgress → Written → ReadProgress
one_more p w = record {
  count = p.count + 1;
  bytes = kept_bytes (p.bytes + w.bytes);
  end =
      w.end;
}
