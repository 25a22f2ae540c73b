use Rattle.timefd_lint_scan.proofs.LookLemmas.{all_seen, seen_in_order, seen_stand}
use Rattle.timefd_lint_scan.proofs.doc_look.descriptions_of.Goals as goal

pub returns-clause-all : goal.returns-clause-all
returns-clause-all c = all_seen c.args.source.now c.args.own.now _ c.in_ok-seen.ensures

pub returns-clause-stand : goal.returns-clause-stand
returns-clause-stand c = seen_stand c.args.source.now c.args.own.now _ c.in_ok-seen.ensures

pub returns-clause-in_order : goal.returns-clause-in_order
returns-clause-in_order c = seen_in_order c.args.source.now c.args.own.now _ c.in_ok-seen.ensures
