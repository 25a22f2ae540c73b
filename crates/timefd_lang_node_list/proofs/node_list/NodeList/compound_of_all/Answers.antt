use Rattle.std.proofs.Common.{arith}
use Rattle.timefd_lang_node_list.specs.NodeTrees.{list_parts}
use Rattle.timefd_lang_node_list.proofs.NodeLemmas.{length-parts}
use Rattle.timefd_lang_node_list.proofs.SumLemmas.{all_fit}
use Rattle.timefd_lang_node_list.proofs.node_list.NodeList.compound_of_all.Goals as goal

pub push-requires-clause-fits : goal.push-requires-clause-fits
push-requires-clause-fits c =
    all_fit (list_parts c.args.self.now) c.args.count c.len-nodes.result c.args.bytes
    c.args.self.now.fit c.requires.all
    (omega (
      arith,
      c.len-nodes.ensures,
      length-parts c.args.self.now.nodes.items,
      c.args.self.now.nodes.ok.0,
    ))
    c.requires.bytes (omega (arith, c.ranges.bytes.fits))
