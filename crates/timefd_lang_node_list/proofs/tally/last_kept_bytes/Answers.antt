use Rattle.std.proofs.Common.{◌∙◌, arith}
use Rattle.timefd_lang_node_list.proofs.NodeLemmas.{last_node_kept}
use Rattle.timefd_lang_node_list.proofs.tally.last_kept_bytes.Goals as goal

pub returns : goal.returns
returns c =
    c.bytes.ensures ∙ last_node_kept c.args.nodes.now c.index-nodes-count.result c.requires
    (omega (arith, c.if-count-eq0.false)) c.index-nodes-count.is
