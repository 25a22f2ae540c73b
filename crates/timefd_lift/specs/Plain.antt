-- Lists of literals and components.
use Rattle.std.specs.Prelude.{◌≤◌, List, [], ◌∷◌, IsTrue, ⊤}
use Rattle.timefd_lang_node_list.specs.declared.item.borrowed_format_item.BorrowedFormatItem.{BorrowedFormatItem}
use Rattle.timefd_lang_component.specs.declared.component.Component.{Component}
use Rattle.timefd_lang_component.specs.declared.component.Component.TheVariants.{Ignore}
use Rattle.timefd_lang_node_list.specs.Item.Meaning.{item_tree}
use Rattle.timefd_lang_component.specs.Tree.{Tree, component, literal}
use Rattle.timefd_language.specs.Strings.{is_of_strings}

abbrev pub IsPlain : Tree → Type 0
IsPlain (component c) = ⊤
IsPlain (literal bytes) = ⊤
IsPlain _ = ⊥

-- a component, or a literal that is a string
abbrev pub IsPlainItem : BorrowedFormatItem → Type 0
IsPlainItem item = IsPlain (item_tree item) × IsTrue (is_of_strings item)

abbrev pub ArePlainItems : List BorrowedFormatItem → Type 0
ArePlainItems [] = ⊤
ArePlainItems (item ∷ items) = IsPlainItem item × ArePlainItems items

-- a count fits into 16 bits
abbrev pub IsCounted : Component → Type 0
IsCounted (Ignore m) = m.count.value ≤ 65535
IsCounted _ = ⊤
