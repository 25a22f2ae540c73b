use Rattle.std.proofs.Common.{None, codes, subst}
use Rattle.memchr.specs.Find.{FindsNeedle}
use Rattle.timefd_lint_sources.proofs.allowances.found.has_mark.Goals as goal

pub returns-in-None : goal.returns-in-None
returns-in-None c same = record {
  nowhere = subst (λ text. FindsNeedle text (codes "timefd:") 0 None) c.as_bytes.ensures.value c.in-None.ensures;
}
