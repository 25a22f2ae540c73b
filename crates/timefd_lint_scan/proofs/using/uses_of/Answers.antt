use Rattle.std.proofs.Common.{◌∙◌, subst, sym}
use Rattle.std.specs.HashMap.{get}
use Rattle.std.specs.Prelude.{nat_eq}
use Rattle.timefd_lint_scan.specs.FoundUses.{AreFirsts}
use Rattle.timefd_lint_scan.specs.Uses.{AreFurthest, AreRuns}
use Rattle.timefd_lint_scan.proofs.using.uses_of.Goals as goal

pub in_loops-requires : goal.in_loops-requires
in_loops-requires c = record {
  furthest = subst (λ us. AreFurthest us c.deref-5.result.now) (c.deref.ensures.value ∙ sym c.deref-4.ensures.value)
      (subst (AreFurthest c.deref.result.now) (sym c.deref-5.ensures.value) c.in_ok-furthest.ensures);
  runs = subst (λ us. AreRuns us 0 c.deref-6.result.now) (c.deref-2.ensures.value ∙ sym c.deref-4.ensures.value)
      (subst (AreRuns c.deref-2.result.now 0) (sym c.deref-6.ensures.value) c.in_ok-runs.ensures);
  firsts = subst (λ us. AreFirsts c.args.source.now us 0 (get nat_eq c.in_ok-firsts.firsts))
      (c.deref-3.ensures.value ∙ sym c.deref-4.ensures.value) c.in_ok-firsts.ensures;
  layout = c.requires.layout;
}
