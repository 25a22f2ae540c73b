use Rattle.std.proofs.Common.{◌∙◌, subst, sym}
use Rattle.std.specs.HashMap.{get}
use Rattle.std.specs.Prelude.{nat_eq}
use Rattle.timefd_lint_scan.specs.FoundUses.{AreFirsts}
use Rattle.timefd_lint_scan.specs.Kept.{IsLayout}
use Rattle.timefd_lint_scan.specs.Uses.{AreFurthest, AreRuns}
use Rattle.timefd_lint_scan.proofs.look.seen_in.Goals as goal

pub described_by-requires-clause-found : goal.described_by-requires-clause-found
described_by-requires-clause-found c = record {
  furthest = subst (λ us. AreFurthest us c.deref-7.result.now) (c.deref-3.ensures.value ∙ sym c.deref-6.ensures.value)
      (subst (AreFurthest c.deref-3.result.now) (sym c.deref-7.ensures.value) c.in_ok-furthest.ensures);
  runs = subst (λ us. AreRuns us 0 c.deref-8.result.now) (c.deref-4.ensures.value ∙ sym c.deref-6.ensures.value)
      (subst (AreRuns c.deref-4.result.now 0) (sym c.deref-8.ensures.value) c.in_ok-runs.ensures);
  firsts = subst (λ source. AreFirsts source c.deref-6.result.now 0 (get nat_eq c.in_ok-firsts.firsts)) c.as_bytes-bytes.ensures.value
      (subst (λ us. AreFirsts c.as_bytes-bytes.result.now us 0 (get nat_eq c.in_ok-firsts.firsts))
      (c.deref-5.ensures.value ∙ sym c.deref-6.ensures.value) c.in_ok-firsts.ensures);
  layout = subst (λ source. IsLayout source c.args.pieces.now c.in_ok-layout.layout) c.as_bytes-bytes.ensures.value
      c.in_ok-layout.ensures;
}

pub unread_calls-requires : goal.unread_calls-requires
unread_calls-requires c = record {
  furthest = subst (λ us. AreFurthest us c.deref-7.result.now) (c.deref-3.ensures.value ∙ sym c.deref-6.ensures.value)
      (subst (AreFurthest c.deref-3.result.now) (sym c.deref-7.ensures.value) c.in_ok-furthest.ensures);
  runs = subst (λ us. AreRuns us 0 c.deref-8.result.now) (c.deref-4.ensures.value ∙ sym c.deref-6.ensures.value)
      (subst (AreRuns c.deref-4.result.now 0) (sym c.deref-8.ensures.value) c.in_ok-runs.ensures);
  firsts = subst (λ us. AreFirsts c.as_bytes-bytes.result.now us 0 (get nat_eq c.in_ok-firsts.firsts))
      (c.deref-5.ensures.value ∙ sym c.deref-6.ensures.value) c.in_ok-firsts.ensures;
  layout = c.in_ok-layout.ensures;
}
