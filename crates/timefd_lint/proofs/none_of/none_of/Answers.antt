use Rattle.std.proofs.Common.{◌∙◌, option_map}
use Rattle.timefd_lint.proofs.NoneOfLemmas.{is_none_of}
use Rattle.timefd_lint.proofs.none_of.none_of.Goals as goal

pub returns : goal.returns
returns c =
    is_none_of c.sentence.result c.args.what.now c.args.name.now c.deref.result.now
    (option_map (λ w. w.now) c.in_ok-nearest.nearest) c.args.all.now
    c.in_ok-nearest.ensures (c.deref.ensures ∙ c.in_ok-words.ensures.ok) c.sentence.ensures
