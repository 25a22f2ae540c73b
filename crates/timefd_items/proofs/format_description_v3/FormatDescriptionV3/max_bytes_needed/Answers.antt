use Rattle.std.proofs.Common.{◌∙◌, arith}
use Rattle.timefd_items.specs.Description.{description_tree}
use Rattle.timefd_lang_node_list.specs.NodeTrees.{list_trees}
use Rattle.timefd_lang_component.proofs.Greatest.{reached_at, longest_at}
use Rattle.timefd_lang_node_list.proofs.NodeListLemmas.{kept_of_one}
use Rattle.timefd_items.proofs.format_description_v3.FormatDescriptionV3.max_bytes_needed.Goals as goal

pub returns-clause-reserved : goal.returns-clause-reserved
returns-clause-reserved c =
    c.last_bytes.ensures ∙ kept_of_one (list_trees c.args.self.now.list) c.args.self.now.one
    (omega (arith, c.args.self.now.fits))

pub returns-clause-reached : goal.returns-clause-reached
returns-clause-reached c =
    reached_at (description_tree c.args.self.now) _ (c.last_bytes.ensures ∙
    kept_of_one (list_trees c.args.self.now.list) c.args.self.now.one
    (omega (arith, c.args.self.now.fits)))

pub returns-clause-longest : goal.returns-clause-longest
returns-clause-longest c =
    longest_at (description_tree c.args.self.now) _ (c.last_bytes.ensures ∙
    kept_of_one (list_trees c.args.self.now.list) c.args.self.now.one
    (omega (arith, c.args.self.now.fits)))
