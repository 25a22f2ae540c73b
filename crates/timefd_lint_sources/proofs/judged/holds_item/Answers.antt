use Rattle.std.proofs.Common.{sym, ◌∙◌}
use Rattle.timefd_lint_sources.specs.Items.{taking}
use Rattle.timefd_lint_sources.proofs.JudgedLemmas.{holds_none}
use Rattle.timefd_lint_sources.proofs.judged.holds_item.Goals as goal

pub returns-in-Some-clause-none : goal.returns-in-Some-clause-none
returns-in-Some-clause-none c =
    holds_none (taking c.args.description.now.items c.args.description.now.dialect) c.in-Some.version
    c.args.text.now c.has_item.result (sym c.taking.ensures ∙ c.in-Some.is) c.has_item.ensures.none
