-- The parts of what a text spells.
use Rattle.std.proofs.Common.{◌≡◌, List, ap, ◌∙◌}
use Rattle.timefd_parse.specs.Tree.{Tree, trees}
use Rattle.timefd_parse.specs.DescriptionVersion.{DescriptionVersion}
use Rattle.timefd_parse.specs.DescriptionVersion.TheVariants.{One, Two, Three}
use Rattle.timefd_lang_node_list.specs.Leaves.{leaves, leaves_all, leaves_in}
use Rattle.timefd_parse.specs.Answers.{IsOutput}
use Rattle.timefd_parse.specs.declared.parsing.BorrowedOutput.{BorrowedOutput}
use Rattle.timefd_parse.specs.declared.parsing.BorrowedOutput.TheVariants.{Items, Description}
use Rattle.timefd_lang_node_list.specs.declared.item.borrowed_format_item.BorrowedFormatItem.{BorrowedFormatItem}
use Rattle.timefd_lang_node_list.specs.Item.Meaning.{item_trees}
use Rattle.timefd_lang_node_list.proofs.LeafLemmas.{leaves_packed}
use Rattle.timefd_lang_warnings.specs.declared.levels.Levels.{Levels}
use Rattle.timefd_lang_warnings.specs.declared.warned.LanguageStyle.{LanguageStyle}
use Rattle.timefd_lang_warnings.specs.Levels.{found}
use Rattle.timefd_lint_warnings.specs.Found.{output_parts}

pub parts_of_output : (version : DescriptionVersion) (list : List Tree) (output : BorrowedOutput)
    → IsOutput version list output → output_parts output ≡ leaves_in list
parts_of_output One list (Items items) is = ap (λ ts. leaves_all (trees ts)) is
parts_of_output Two list (Items items) is = ap (λ ts. leaves_all (trees ts)) is
parts_of_output Three list (Items items) is = absurd is
parts_of_output One list (Description d) is = absurd is
parts_of_output Two list (Description d) is = absurd is
parts_of_output Three list (Description d) is = ap leaves is ∙ leaves_packed list

pub found_as_spelled : (version : DescriptionVersion) (list : List Tree) (output : BorrowedOutput)
    (levels reported : Levels) → reported ≡ found levels LanguageStyle.Brackets (output_parts output)
    → IsOutput version list output → reported ≡ found levels LanguageStyle.Brackets (leaves_in list)
found_as_spelled version list output levels reported are is =
    are ∙ ap (found levels LanguageStyle.Brackets) (parts_of_output version list output is)

pub items_as_spelled : (items : List BorrowedFormatItem) (list : List Tree) (levels reported : Levels)
    → reported ≡ found levels LanguageStyle.Percents (leaves_all (trees (item_trees items)))
    → item_trees items ≡ list → reported ≡ found levels LanguageStyle.Percents (leaves_in list)
items_as_spelled items list levels reported are is =
    are ∙ ap (λ ts. found levels LanguageStyle.Percents (leaves_in ts)) is
