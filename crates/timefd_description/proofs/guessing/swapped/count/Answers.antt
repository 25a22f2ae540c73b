use Rattle.std.proofs.Common.{length, rules, arith}
use Rattle.std.proofs.lemmas.List.{nil_from_length}
use Rattle.timefd_description.specs.Guessing.Found.{texts}
use Rattle.timefd_description.proofs.GuessingLemmas.FoundLemmas.{all_counted, bound_more, first_counted}
use Rattle.timefd_lang_node_list.specs.Views.{view_tree}
use Rattle.timefd_description.proofs.guessing.swapped.count.Goals as goal

pub texts-preserved : goal.texts-preserved
texts-preserved c = (
  first_counted (view_tree c.args.view) (texts c.args.texts.now) c.texts.rest.now _ _ c.texts.count
      c.counted-count.result c.in_ok-yes.yes (search rules) c.in-len1-up.len_at_least
      c.in_ok-yes.ensures c.counted-count.ensures c.texts.invariant.0,
  bound_more c.texts.rest.now _ c.texts.count c.counted-count.result (length c.args.texts.now)
      c.in_ok-yes.yes (search rules) c.in-len1-up.len_at_least c.counted-count.ensures
      c.texts.invariant.1,
)

pub returns : goal.returns
returns c =
    all_counted (view_tree c.args.view) (texts c.args.texts.now) c.texts.rest.now c.texts.count
    (nil_from_length c.texts.rest.now (omega (arith, c.in_default.len_below)))
    c.texts.invariant.0
