use Rattle.std.proofs.Common.{◌-◌, length, refl, arith}
use Rattle.timefd_parse.proofs.BeginLemmas.{both_ends}
use Rattle.timefd_parse.proofs.fast.begins.begins_by.Goals as goal

pub returns-then-same_at : goal.returns-then-same_at
returns-then-same_at g c = λ is.
    both_ends (length c.args.word.now - g.row.N) g.row.N (length c.args.word.now) c.args.word.now
    c.args.bytes.now (omega (arith, c.requires.front)) refl (omega (arith, c.requires.end))
    (c.same_at.ensures c.if-same_at.true) (c.same_at-then-same_at.ensures is)
