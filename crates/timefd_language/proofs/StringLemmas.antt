-- One more item after items whose literals are strings.
use Rattle.std.proofs.Common.{true, List, [], ◌∷◌, ◌++◌, refl, IsTrue}
use Rattle.std.proofs.lemmas.Bool.{and_from, and_parts}
use Rattle.timefd_lang_node_list.specs.declared.item.borrowed_format_item.BorrowedFormatItem.{BorrowedFormatItem}
use Rattle.timefd_language.specs.Strings.{is_of_strings, are_of_strings}

pub more_strings : (items : List BorrowedFormatItem) (item : BorrowedFormatItem)
    → IsTrue (are_of_strings items) → IsTrue (is_of_strings item)
    → IsTrue (are_of_strings (items ++ item ∷ []))
more_strings [] item are is = and_from (is_of_strings item) true is refl
more_strings (first ∷ items) item are is =
    let p = and_parts (is_of_strings first) (are_of_strings items) are in
    and_from (is_of_strings first) (are_of_strings (items ++ item ∷ [])) p.0
    (more_strings items item p.1 is)
