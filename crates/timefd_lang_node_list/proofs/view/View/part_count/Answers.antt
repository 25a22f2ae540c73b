use Rattle.std.proofs.Common.{rules}
use Rattle.timefd_lang_node_list.proofs.ViewLemmas.{one_count}
use Rattle.timefd_lang_node_list.proofs.view.View.part_count.Goals as goal

pub returns : goal.returns
returns c = search (rules, one_count c.args.self.nodes.now c.args.self.fit c.args.self.one)
