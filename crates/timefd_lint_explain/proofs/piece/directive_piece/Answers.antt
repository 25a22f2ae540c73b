use Rattle.std.proofs.Common.{◌∙◌, ◌∷◌, [], IsTrue, ap, subst, sym}
use Rattle.timefd_lang_node_list.specs.Item.Meaning.{item_trees}
use Rattle.timefd_language.specs.Strings.{are_of_strings}
use Rattle.timefd_parse.specs.Reported.{MemoryAlone}
use Rattle.timefd_lint_explain.proofs.piece.directive_piece.Goals as goal

pub items_piece-requires : goal.items_piece-requires
items_piece-requires c = record {
  one = (
    c.requires.0,
    ap item_trees c.deref.ensures.value ∙
        c.in-Ok.ensures.spelled (c.requires.0 ∷ []) c.requires.1,
  );
  strings = subst (λ items. IsTrue (are_of_strings items)) (sym c.deref.ensures.value)
      c.in-Ok.ensures.strings;
}

pub returns-in-Ok : goal.returns-in-Ok
returns-in-Ok c = λ tree s.
    c.items_piece.ensures tree (ap item_trees c.deref.ensures.value ∙
    c.in-Ok.ensures.spelled (tree ∷ []) s)

-- A text that is spelled has no fault.
pub unreachable-requires : goal.unreachable-requires
unreachable-requires c =
    subst MemoryAlone c.in-Err-Invalid.field-0-is
    (c.in-Err-Invalid.ensures.spelled (c.requires.0 ∷ []) c.requires.1)
