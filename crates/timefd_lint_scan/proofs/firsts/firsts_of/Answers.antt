use Rattle.std.proofs.Common.{◌∙◌, ◌-◌, ap, arith}
use Rattle.std.specs.HashMap.{get}
use Rattle.std.specs.Prelude.{nat_eq}
use Rattle.timefd_lint_scan.specs.Layouts.{fingerprint}
use Rattle.timefd_lint_scan.proofs.FirstsLemmas.{one_back}
use Rattle.timefd_lint_scan.proofs.firsts.firsts_of.Goals as goal

pub uses-preserved : goal.uses-preserved
uses-preserved c = record {
  within = omega arith;
  kept = one_back c.args.source.now c.args.uses.now (c.uses.left - 1) c.uses.left c.fingerprint.result _
      (get nat_eq c.uses.firsts) (get nat_eq c.insert.new.self) (omega arith)
      (c.fingerprint.ensures ∙ ap fingerprint c.text_of-name.ensures) c.in_ok-insert.ensures.updates.0 c.uses.invariant.kept;
}
