use Rattle.timefd_c_nodes.proofs.DecodeLemmas.{trees_back}
use Rattle.timefd_c_nodes.proofs.laws.read_back.Goals as goal

pub returns : goal.returns
returns c = trees_back
