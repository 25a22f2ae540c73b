-- The trees of strftime: literals, components, and compounds of these.
use Rattle.std.specs.Prelude.{List, [], ◌∷◌, IsTrue, ⊤}
use Rattle.timefd_lang_component.specs.Tree.{Tree, component, literal, compound, optional, first, Trees, no_trees, more_trees}
use Rattle.timefd_lang_node_list.specs.declared.item.borrowed_format_item.BorrowedFormatItem.{BorrowedFormatItem}
use Rattle.timefd_lang_node_list.specs.Item.Meaning.{item_tree}
use Rattle.timefd_language.specs.Strings.{is_of_strings}
use Rattle.timefd_lift.specs.Plain.{IsCounted}

-- a literal of at least one byte, or a component whose count fits 16 bits
abbrev pub IsLeaf : Tree → Type 0
IsLeaf (component c) = IsCounted c
IsLeaf (literal []) = ⊥
IsLeaf (literal (b ∷ bytes)) = ⊤
IsLeaf (compound ts) = ⊥
IsLeaf (optional format t) = ⊥
IsLeaf (first ts) = ⊥

abbrev pub AreLeaves : Trees → Type 0
AreLeaves no_trees = ⊤
AreLeaves (more_trees t ts) = IsLeaf t × AreLeaves ts

abbrev pub IsShallow : Tree → Type 0
IsShallow (component c) = IsLeaf (component c)
IsShallow (literal bytes) = IsLeaf (literal bytes)
IsShallow (compound ts) = AreLeaves ts
IsShallow (optional format t) = ⊥
IsShallow (first ts) = ⊥

abbrev pub AreShallow : Trees → Type 0
AreShallow no_trees = ⊤
AreShallow (more_trees t ts) = IsShallow t × AreShallow ts

-- Items whose literals are strings.

abbrev pub IsLeafItem : BorrowedFormatItem → Type 0
IsLeafItem item = IsLeaf (item_tree item) × IsTrue (is_of_strings item)

abbrev pub IsShallowItem : BorrowedFormatItem → Type 0
IsShallowItem item = IsShallow (item_tree item) × IsTrue (is_of_strings item)

-- each item of the list
abbrev pub Every : (BorrowedFormatItem → Type 0) → List BorrowedFormatItem → Type 0
Every P [] = ⊤
Every P (item ∷ items) = P item × Every P items

abbrev pub AreLeafItems : List BorrowedFormatItem → Type 0
AreLeafItems items = Every IsLeafItem items

abbrev pub AreShallowItems : List BorrowedFormatItem → Type 0
AreShallowItems items = Every IsShallowItem items
