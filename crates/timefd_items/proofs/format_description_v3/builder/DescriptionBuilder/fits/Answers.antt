use Rattle.std.proofs.Common.{◌∙◌, [], ap, is_some}
use Rattle.timefd_items.specs.Builder.{built}
use Rattle.timefd_lang_node_list.specs.Nodes.{ending, grown_by}
use Rattle.timefd_lang_node_list.specs.Tallies.{kept_sum}
use Rattle.timefd_items.proofs.BuilderLemmas.{sum_is_kept}
use Rattle.timefd_items.proofs.format_description_v3.builder.DescriptionBuilder.fits.Goals as goal

pub returns : goal.returns
returns c =
    c.is_some.ensures
    ∙ ap is_some c.ending_tally.ensures.bytes
    ∙ ap (λ ps. is_some (kept_sum (ending c.args.count (grown_by [] ps)))) c.nodes.ensures.parts
    ∙ sum_is_kept c.args.count (built c.args.self.now) c.args.self.now.each_fits
