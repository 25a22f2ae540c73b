use Rattle.std.proofs.Common.{arith}
use Rattle.timefd_language.proofs.SearchLemmas.{high_front}
use Rattle.std.proofs.Math.Nat.{le_trans}
use Rattle.std.proofs.lemmas.List.Sums.{prefix_len-le-length}
use Rattle.timefd_language.specs.Cut.{is_high}
use Rattle.timefd_language.proofs.search.high_len.Goals as goal

pub returns-else-marks-eq0-clause-front : goal.returns-else-marks-eq0-clause-front
returns-else-marks-eq0-clause-front c = high_front c.args.bytes.now
    (omega (arith, c.if-bytes-lt16.false)) (omega (arith, c.if-marks-eq0.false))

pub returns-else-marks-eq0-clause-within : goal.returns-else-marks-eq0-clause-within
returns-else-marks-eq0-clause-within c =
    let front = high_front c.args.bytes.now
    (omega (arith, c.if-bytes-lt16.false)) (omega (arith, c.if-marks-eq0.false)) in
    le_trans front (prefix_len-le-length is_high c.args.bytes.now)
