use Rattle.std.proofs.Common.{rules, ◌≡◌, Ok, map}
use Rattle.timefd_lang_component.specs.Tree.{compound, trees}
use Rattle.timefd_lang_node_list.specs.LeafMeaning.{leaf_tree}
use Rattle.timefd_date_moment.specs.Fields.Reads.{fields_of}
use Rattle.timefd_date_moment.specs.Fields.Short.{fields_with}
use Rattle.timefd_format.specs.ReadBack.{IsMadeOf}
use Rattle.timefd_format.proofs.ReadBackLemmas.{by_numbers}
use Rattle.timefd_format.proofs.fast.day.date_shown.Goals as goal

pub returns : goal.returns
returns c =
    let leaves = c.in_ok-leaves.field-0.now in
    let made : IsMadeOf c.args.description.now leaves = search rules in
    let read : fields_of (compound (trees (map leaf_tree leaves))) c.args.text.now ≡ Ok (fields_with c.in_ok-numbers.numbers) =
    search rules in
    by_numbers c.args.description.now leaves c.args.text.now c.in_ok-numbers.numbers c.moment_of_numbers.result made read
    c.moment_of_numbers.ensures
