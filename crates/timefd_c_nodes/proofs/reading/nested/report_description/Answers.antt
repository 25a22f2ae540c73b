use Rattle.std.proofs.Common.{subst}
use Rattle.timefd_lang_component.specs.Reserved.{reserve}
use Rattle.timefd_items.specs.Description.{description_tree}
use Rattle.timefd_lang_node_list.specs.Views.{walked}
use Rattle.timefd_c_nodes.specs.declared.position.TheConstants.{START}
use Rattle.timefd_c_nodes.specs.Writing.{WritesWithin}
use Rattle.timefd_c_nodes.proofs.ReadingLemmas.ReportLemmas.{reports_within}
use Rattle.timefd_c_nodes.proofs.reading.nested.report_description.Goals as goal

pub returns : goal.returns
returns c =
    reports_within (walked (description_tree c.args.description.now))
    (reserve (description_tree c.args.description.now))
    (reserve (description_tree c.args.description.now))
    c.max_bytes_needed-bytes.result c.max_bytes_needed-bytes.result c.in_ok-end.end c.args.nodes.now
    c.write_view.new.nodes c.args.literals.now c.write_view.new.literals c.has_room.result
    c.report_of.result
    (subst (λ t. WritesWithin (walked t) START c.in_ok-end.end c.args.nodes.now
    c.write_view.new.nodes c.args.literals.now c.write_view.new.literals) c.view.ensures
    c.in_ok-end.ensures.some)
    c.has_room.ensures c.max_bytes_needed-bytes.ensures.reserved
    c.max_bytes_needed-bytes.ensures.reserved c.report_of.ensures
