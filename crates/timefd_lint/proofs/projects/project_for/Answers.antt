use Rattle.std.proofs.Common.{refl}
use Rattle.std.proofs.lemmas.Result.{IfErr-weaker, IfOk-weaker}
use Rattle.timefd_lint.proofs.ProjectLemmas.{name_unread, name_wrong, project_found}
use Rattle.timefd_lint.proofs.projects.project_for.Goals as goal

pub returns-in-Ok-clause-project : goal.returns-in-Ok-clause-project
returns-in-Ok-clause-project g c =
    IfOk-weaker c.project_of.result _ _
    (λ project is. project_found (g.S.FileSystem.holds c.args.system.now) (g.S.FileSystem.fails c.args.system.now)
    (g.S.FileSystem.folders c.args.system.now) c.args.here.now c.args.name.now c.in_ok-front.front.items
    c.deref.result.now c.in-Ok.found c.in-Ok.found project c.in_ok-front.ensures c.deref.ensures.value
    c.in-Ok.ensures.found refl is)
    c.project_of.ensures.project

pub returns-in-Ok-clause-error : goal.returns-in-Ok-clause-error
returns-in-Ok-clause-error g c =
    IfErr-weaker c.project_of.result _ _
    (λ failure is. name_wrong (g.S.FileSystem.holds c.args.system.now) (g.S.FileSystem.fails c.args.system.now)
    (g.S.FileSystem.folders c.args.system.now) c.args.here.now c.args.name.now c.in_ok-front.front.items
    c.deref.result.now c.in-Ok.found failure c.in_ok-front.ensures c.deref.ensures.value c.in-Ok.ensures.found is)
    c.project_of.ensures.error

pub returns-clause-error : goal.returns-clause-error
returns-clause-error g c =
    name_unread (g.S.FileSystem.holds c.args.system.now) (g.S.FileSystem.fails c.args.system.now)
    (g.S.FileSystem.folders c.args.system.now) c.args.here.now c.args.name.now c.in_ok-front.front.items
    c.deref.result.now c.in-Err.error c.unfound.result c.in_ok-front.ensures c.deref.ensures.value c.in-Err.ensures.error
    c.unfound.ensures
