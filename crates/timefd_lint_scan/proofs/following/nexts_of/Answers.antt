use Rattle.std.proofs.Common.{◌-◌, ◌∙◌, ap, arith}
use Rattle.std.proofs.lemmas.List.{length-set}
use Rattle.std.specs.HashMap.{get}
use Rattle.std.specs.Prelude.{nat_eq}
use Rattle.timefd_lint_scan.specs.Layouts.{fingerprint}
use Rattle.timefd_lint_scan.proofs.FirstsLemmas as firsts
use Rattle.timefd_lint_scan.proofs.FollowingLemmas as nexts
use Rattle.timefd_lint_scan.proofs.following.nexts_of.Goals as goal

pub uses-preserved : goal.uses-preserved
uses-preserved c = record {
  count = length-set c.uses.nexts.items (c.uses.left - 1) c.next_of.result ∙ c.uses.invariant.count;
  within = omega arith;
  nexts = nexts.one_back c.args.source.now c.args.uses.now (c.uses.left - 1) c.uses.left c.next_of.result c.uses.nexts.items
      (omega arith) (omega (arith, c.uses.invariant.count, c.uses.invariant.within)) c.next_of.ensures c.uses.invariant.nexts;
  kept = firsts.one_back c.args.source.now c.args.uses.now (c.uses.left - 1) c.uses.left c.fingerprint.result _
      (get nat_eq c.uses.firsts) (get nat_eq c.insert.new.self) (omega arith)
      (c.fingerprint.ensures ∙ ap fingerprint c.text_of.ensures) c.in_ok-insert.ensures.updates.0 c.uses.invariant.kept;
}
