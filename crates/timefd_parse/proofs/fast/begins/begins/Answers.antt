use Rattle.std.proofs.Common.{length, take, sym, ◌∙◌}
use Rattle.timefd_language.proofs.Lookup.{equal-true}
use Rattle.timefd_parse.proofs.fast.begins.begins.Goals as goal

pub returns : goal.returns
returns c = λ is.
    equal-true c.args.word.now (take (length c.args.word.now) c.args.bytes.now)
    (sym c.equal.ensures ∙ is)
