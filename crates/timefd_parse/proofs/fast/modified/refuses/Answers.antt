use Rattle.std.proofs.Common.{sym, ◌∙◌}
use Rattle.timefd_parse.proofs.CheckLemmas.{no_fault, none_shown}
use Rattle.timefd_parse.proofs.fast.modified.refuses.Goals as goal

pub returns : goal.returns
returns c = λ is total ps shows.
    none_shown total _ _ (c.combination_fault.ensures.fault total ps shows)
    (no_fault _ (sym c.is_some.ensures ∙ is))
