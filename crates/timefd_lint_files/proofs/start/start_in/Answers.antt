use Rattle.timefd_lint_files.specs.Starts.{start_in}
use Rattle.timefd_lint_files.proofs.StartLemmas.{goes_on}
use Rattle.timefd_lint_files.proofs.start.start_in.Goals as goal

pub names-preserved : goal.names-preserved
names-preserved c =
    goes_on c.names.front.now c.names.rest.now c.next.result c.in-Some.start
    (start_in c.args.front.now c.args.name.now) c.next.ensures.next c.in-Some.is c.names.invariant
