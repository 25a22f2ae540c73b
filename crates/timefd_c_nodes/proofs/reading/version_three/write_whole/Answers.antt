use Rattle.timefd_c_nodes.proofs.ReadingLemmas.WholeLemmas.{whole_written}
use Rattle.timefd_c_nodes.proofs.reading.version_three.write_whole.Goals as goal

pub returns-clause-some : goal.returns-clause-some
returns-clause-some c = λ list before text after all. whole_written list c.args.all before _ _ text
    after c.compound-node.result c.put.result all c.if-all-eq1.false c.compound-node.ensures
    c.put.ensures.some
