use Rattle.std.proofs.Common.{drop, ap, sym, ◌∙◌}
use Rattle.timefd_lint_sources.proofs.ItemLemmas.{never_closed, same_closing}
use Rattle.timefd_lint_sources.proofs.item.after_closing.Goals as goal

pub returns-in-Closing-clause-all : goal.returns-in-Closing-clause-all
returns-in-Closing-clause-all c = λ rest is.
    ap (drop 1) (sym c.in-Closing.ensures ∙ same_closing _ _ _ rest c.cut.ensures.parts is)

pub returns-in_default : goal.returns-in_default
returns-in_default c = record {
  found = tt;
  all = λ rest is.
      never_closed c.start_of.result _ rest c.start_of.ensures c.in_default.not-Closing
      (same_closing _ _ _ rest c.cut.ensures.parts is);
}
