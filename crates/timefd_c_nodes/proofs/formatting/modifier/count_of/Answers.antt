use Rattle.timefd_c_nodes.proofs.FormattingLemmas.CountLemmas.{counted}
use Rattle.timefd_c_nodes.proofs.formatting.modifier.count_of.Goals as goal

pub returns : goal.returns
returns c = counted c.args.number c.new.result c.new.ensures
