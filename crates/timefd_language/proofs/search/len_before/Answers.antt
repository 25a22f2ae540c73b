use Rattle.std.proofs.Common.{arith}
use Rattle.std.proofs.lemmas.List.Sums.{prefix_len-le-length}
use Rattle.timefd_language.specs.Cut.{is_none_of}
use Rattle.timefd_language.proofs.search.len_before.Goals as goal

pub returns : goal.returns
returns c =
    let front = prefix_len-le-length (is_none_of c.args.first c.args.second c.args.third)
    c.args.bytes.now in
    omega (
      arith,
      front,
      c.if-len-lt16.false,
      c.skipped-near.ensures.near,
      c.min-last.ensures,
      c.len_in.ensures,
    )
