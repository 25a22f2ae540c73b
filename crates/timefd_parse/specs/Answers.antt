-- How the answer of a public call relates to the text.
use Rattle.std.specs.Prelude.{ℕ, ◌≡◌, ◌≤◌, List, map, IsTrue, ⊤}
use Rattle.timefd_lang_component.specs.Tree.{Text, Tree, pack}
use Rattle.timefd_lang_node_list.specs.Item.Meaning.{item_tree}
use Rattle.timefd_items.specs.Description.{description_tree}
use Rattle.timefd_lang_fault.specs.Faults.{fault_of}
use Rattle.timefd_lang_component.specs.Reserved.{reserve}
use Rattle.timefd_language.specs.declared.description_version.DescriptionVersion.{DescriptionVersion}
use Rattle.timefd_language.specs.declared.description_version.DescriptionVersion.TheVariants.{One, Two, Three}
use Rattle.timefd_parse.specs.declared.parsing.BorrowedOutput.{BorrowedOutput}
use Rattle.timefd_parse.specs.declared.parsing.BorrowedOutput.TheVariants.{Items, Description}
use Rattle.timefd_lang_fault.specs.declared.borrowed_parse_error.ParseError.{ParseError}
use Rattle.timefd_lang_fault.specs.declared.borrowed_parse_error.ParseError.TheVariants.{Invalid, Memory}
use Rattle.timefd_language.specs.Broken.{FaultOf}
use Rattle.timefd_language.specs.Strings.{are_of_strings}

-- In versions 1 and 2 the output has the items of the list; in version 3 it is the description that
-- the list is packed into.
abbrev pub IsOutput : DescriptionVersion → List Tree → BorrowedOutput → Type 0
IsOutput One list (Items items) = map item_tree items.items ≡ list
IsOutput Two list (Items items) = map item_tree items.items ≡ list
IsOutput Three list (Items items) = ⊥
IsOutput One list (Description d) = ⊥
IsOutput Two list (Description d) = ⊥
IsOutput Three list (Description d) = description_tree d ≡ pack list

-- a fault that the rules assign to the text, or out of memory
abbrev pub IsAssigned : DescriptionVersion → ℕ → Text → ParseError → Type 0
IsAssigned v limit text (Invalid f) = FaultOf v limit text (fault_of f)
IsAssigned v limit text (Memory e) = ⊤

-- a description reserves at most this many bytes
abbrev pub ReservesAtMost : ℕ → BorrowedOutput → Type 0
ReservesAtMost most (Items items) = ⊤
ReservesAtMost most (Description d) = reserve (description_tree d) ≤ most

-- the literals of items are strings
abbrev pub HasStrings : BorrowedOutput → Type 0
HasStrings (Items items) = IsTrue (are_of_strings items.items)
HasStrings (Description d) = ⊤
