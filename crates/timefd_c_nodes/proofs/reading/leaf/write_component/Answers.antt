use Rattle.std.proofs.Common.{refl}
use Rattle.timefd_c_nodes.proofs.WithinLemmas.{written_component}
use Rattle.timefd_c_nodes.proofs.reading.leaf.write_component.Goals as goal

pub returns-clause-some : goal.returns-clause-some
returns-clause-some c = λ literals. written_component c.args.component c.args.at _
    c.put_component.result _ _ literals refl c.put_component.ensures.some
