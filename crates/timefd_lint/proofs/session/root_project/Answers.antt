use Rattle.std.proofs.lemmas.Result.{IfErr-weaker}
use Rattle.timefd_lint.proofs.SessionLemmas.{root_unset}
use Rattle.timefd_lint.proofs.session.root_project.Goals as goal

pub returns-in-Some-clause-error : goal.returns-in-Some-clause-error
returns-in-Some-clause-error g c =
    IfErr-weaker c.project_for.result _ _
    (λ failure is. root_unset (g.S.FileSystem.holds c.args.system.now) (g.S.FileSystem.fails c.args.system.now)
    (g.S.FileSystem.folders c.args.system.now) c.args.here.now c.deref.result.now c.args.root.now c.in_ok-path.field-0
    c.in-Some.path failure c.in_ok-path.ensures c.in-Some.is c.deref.ensures is)
    c.project_for.ensures.error
