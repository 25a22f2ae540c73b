use Rattle.std.proofs.Common.{◌∙◌, ap}
use Rattle.timefd_lang_node_list.specs.Item.Meaning.{item_trees}
use Rattle.timefd_lint_warnings.proofs.FoundLemmas.{items_as_spelled}
use Rattle.timefd_lint_warnings.proofs.found.found_in_strftime.Goals as goal

pub returns-in-Ok : goal.returns-in-Ok
returns-in-Ok c = record {
  accepted = (
    _,
    c.in-Ok.ensures.found,
    items_as_spelled c.deref.result.now _ c.args.levels c.found.result c.found.ensures
        (ap item_trees c.deref.ensures.value),
  );
  spelled = λ list s.
      items_as_spelled c.deref.result.now list c.args.levels c.found.result c.found.ensures
      (ap item_trees c.deref.ensures.value ∙ c.in-Ok.ensures.spelled list s);
}
