use Rattle.std.proofs.Common.{arith, refl}
use Rattle.timefd_c_nodes.proofs.ReadingLemmas.AsciiLemmas.{low_more}
use Rattle.timefd_c_nodes.proofs.reading.text.front_of_ascii.Goals as goal

pub vectors-preserved : goal.vectors-preserved
vectors-preserved g c = (
  omega (arith, c.vectors-test.true, c.vectors.invariant.0),
  low_more c.args.bytes.now c.vectors.at g.row.N c.vectors.invariant.1
      (c.if-not-are_ascii.ensures refl),
)
