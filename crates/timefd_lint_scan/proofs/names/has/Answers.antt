use Rattle.std.proofs.Common.{None, subst}
use Rattle.memchr.specs.Find.{FindsNeedle}
use Rattle.timefd_lint_scan.proofs.names.has.Goals as goal

pub returns-in-None : goal.returns-in-None
returns-in-None c same = record {
  nowhere = subst (λ word. FindsNeedle c.args.source.now word 0 None) c.as_bytes.ensures.value c.in-None.ensures;
}
