-- The literal that a description expects where a text fails to match it.
use Rattle.std.specs.Prelude.{ℕ, suc, ◌≡◌, ◌<◌, Bool, true, false, List, length, map, take, get_or, Result, Ok, Err}
use denote.Ref.{Bor}
use Rattle.timefd_lang_component.specs.Tree.{Text, Tree, Trees, compound, literal, no_trees, trees}
use Rattle.timefd_lang_node_list.specs.Item.Meaning.{item_tree}
use Rattle.timefd_lang_node_list.specs.LeafMeaning.{leaf_tree}
use Rattle.timefd_parse.specs.declared.parsing.BorrowedOutput.{BorrowedOutput}
use Rattle.timefd_date_moment.specs.declared.fields.fault.ReadError.{ReadError}
use Rattle.timefd_date_moment.specs.declared.fields.fault.UnreadReason.{UnreadReason}
use Rattle.timefd_date_moment.specs.declared.fields.fault.UnreadReason.TheVariants as for
use Rattle.timefd_date_moment.specs.Fields.Reads.{fields_of}
use Rattle.timefd_format.specs.declared.expected.Parts.{Parts}
use Rattle.timefd_format.specs.declared.expected.Parts.TheVariants as parts
use Rattle.timefd_format.specs.declared.source.MomentSource.{MomentSource}
use Rattle.timefd_format.specs.declared.source.SourceKind.{SourceKind}
use Rattle.timefd_format.specs.declared.source.SourceKind.TheVariants as kinds
use Rattle.timefd_format.specs.ReadBack.{tree_of}

abbrev pub part_trees : Parts → List Tree
part_trees (parts.Leaves leaves) = map leaf_tree leaves.now
part_trees (parts.Items items) = map item_tree items.now

abbrev pub is_literal : UnreadReason → Bool
is_literal (for.Unread c) = false
is_literal (for.Contradiction c) = false
is_literal for.Literal = true
is_literal for.Trailing = false

-- the text fails at a literal
abbrev pub is_stop : {A : Type 0} → Result A ReadError → Bool
is_stop (Ok a) = false
is_stop (Err u) = is_literal u.reason

-- a text, read by these parts in order, fails at a literal
abbrev pub stops : List Tree → Text → Bool
stops ts text = is_stop (fields_of (compound (trees ts)) text)

-- The text matches this many parts, and fails at the literal after them.
abbrev pub IsStop : List Tree → Text → ℕ → Type 0
IsStop ts text n =
    (n < length ts) × (stops (take n ts) text ≡ false) × (stops (take (suc n) ts) text ≡ true)

abbrev pub IsLiteral : List Tree → ℕ → Text → Type 0
IsLiteral ts n bytes = get_or ts n (compound no_trees) ≡ literal bytes

-- These are the bytes of that literal.
abbrev pub IsExpected : List Tree → Text → Text → Type 0
IsExpected ts text bytes = (n : ℕ) × IsStop ts text n × IsLiteral ts n bytes

abbrev pub IsExpectedBy : BorrowedOutput → Text → Text → Type 0
IsExpectedBy o text bytes =
    (ts : List Tree) × (tree_of o ≡ compound (trees ts)) × IsExpected ts text bytes

abbrev pub IsExpectedOfKind : SourceKind → Text → Text → Type 0
IsExpectedOfKind (kinds.Names n) text bytes = ⊥
IsExpectedOfKind (kinds.Texts o) text bytes = IsExpectedBy o text bytes

-- The description has this literal where the text fails to match it.
abbrev pub IsExpectedIn : MomentSource → Text → Text → Type 0
IsExpectedIn source text bytes = IsExpectedOfKind source.kind text bytes
