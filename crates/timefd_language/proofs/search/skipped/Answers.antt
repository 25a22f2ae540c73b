use Rattle.std.proofs.Common.{arith}
use Rattle.std.proofs.lemmas.List.Sums.{prefix_len-le-length}
use Rattle.timefd_language.specs.Cut.{is_none_of}
use Rattle.timefd_language.proofs.search.skipped.Goals as goal

pub overflow_sub-bytes : goal.overflow_sub-bytes
overflow_sub-bytes g c = omega (
  arith,
  c.vectors.invariant,
  prefix_len-le-length (is_none_of c.args.first c.args.second c.args.third) c.args.bytes.now,
)

pub returns-clause-near : goal.returns-clause-near
returns-clause-near g c = omega (
  arith,
  c.vectors-test.false,
  c.vectors.invariant,
  prefix_len-le-length (is_none_of c.args.first c.args.second c.args.third) c.args.bytes.now,
)
