use Rattle.std.proofs.Common.{◌∙◌, ◌∷◌, [], IfOk, IsTrue, ap, subst, sym}
use Rattle.timefd_lang_node_list.specs.Item.Meaning.{item_trees}
use Rattle.timefd_language.specs.Strings.{are_of_strings}
use Rattle.timefd_parse.specs.Reported.{MemoryAlone}
use Rattle.timefd_parse.specs.Answers.{HasStrings}
use Rattle.timefd_lint_explain.specs.Shown.{ShowsOne}
use Rattle.timefd_lint_explain.proofs.ShownLemmas.{description_of, items_of}
use Rattle.timefd_lint_explain.proofs.piece.version_piece.Goals as goal

pub returns-in-Ok-Description : goal.returns-in-Ok-Description
returns-in-Ok-Description c = λ tree s.
    subst (λ t. IfOk c.view_piece.result (λ shown. ShowsOne c.args.text.now shown t))
    (c.view.ensures ∙ description_of c.args.version (tree ∷ []) _ _
    c.in-Ok-Description.field-0-is (c.in-Ok-Description.ensures.spelled (tree ∷ []) s))
    c.view_piece.ensures

pub items_piece-requires : goal.items_piece-requires
items_piece-requires c = record {
  one = (
    c.requires.0,
    ap item_trees c.deref.ensures.value ∙
        items_of c.args.version (c.requires.0 ∷ []) _ _ c.in-Ok-Items.field-0-is
        (c.in-Ok-Items.ensures.spelled (c.requires.0 ∷ []) c.requires.1),
  );
  strings = subst (λ items. IsTrue (are_of_strings items)) (sym c.deref.ensures.value)
      (subst HasStrings c.in-Ok-Items.field-0-is c.in-Ok-Items.ensures.strings);
}

pub returns-in-Ok-Items : goal.returns-in-Ok-Items
returns-in-Ok-Items c = λ tree s.
    c.items_piece.ensures tree (ap item_trees c.deref.ensures.value ∙
    items_of c.args.version (tree ∷ []) _ _ c.in-Ok-Items.field-0-is
    (c.in-Ok-Items.ensures.spelled (tree ∷ []) s))

-- A text that is spelled has no fault.
pub unreachable-requires : goal.unreachable-requires
unreachable-requires c =
    subst MemoryAlone c.in-Err-Invalid.field-0-is
    (c.in-Err-Invalid.ensures.spelled (c.requires.0 ∷ []) c.requires.1)
