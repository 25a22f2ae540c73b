use Rattle.std.proofs.lemmas.Result.{IfErr-weaker, IfOk-weaker}
use Rattle.timefd_lint.proofs.ProjectLemmas.{names_unread, names_wrong, projects_found}
use Rattle.timefd_lint.proofs.projects.projects_of.Goals as goal

pub returns-in-Ok-clause-all : goal.returns-in-Ok-clause-all
returns-in-Ok-clause-all g c =
    IfOk-weaker c.named_by.result _ _
    (λ all named. projects_found (g.S.FileSystem.holds c.args.system.now) (g.S.FileSystem.fails c.args.system.now)
    (g.S.FileSystem.folders c.args.system.now) c.args.here.now c.in_ok-front.front.items c.deref.result.now
    c.args.names.now c.in-Ok.groups.items c.deref-in-Ok.result.now all.items c.in_ok-front.ensures
    c.deref.ensures.value c.in-Ok.ensures.all c.deref-in-Ok.ensures.value named)
    c.named_by.ensures.all

pub returns-in-Ok-clause-error : goal.returns-in-Ok-clause-error
returns-in-Ok-clause-error g c =
    IfErr-weaker c.named_by.result _ _
    (λ failure one. names_wrong (g.S.FileSystem.holds c.args.system.now) (g.S.FileSystem.fails c.args.system.now)
    (g.S.FileSystem.folders c.args.system.now) c.args.here.now c.in_ok-front.front.items c.deref.result.now
    c.args.names.now c.in-Ok.groups.items c.deref-in-Ok.result.now failure c.in_ok-front.ensures c.deref.ensures.value
    c.in-Ok.ensures.all c.deref-in-Ok.ensures.value one)
    c.named_by.ensures.error

pub returns-clause-error : goal.returns-clause-error
returns-clause-error g c =
    names_unread (g.S.FileSystem.holds c.args.system.now) (g.S.FileSystem.fails c.args.system.now)
    (g.S.FileSystem.folders c.args.system.now) c.args.here.now c.in_ok-front.front.items c.deref.result.now
    c.args.names.now c.in-Err.error c.unfound.result c.in_ok-front.ensures c.deref.ensures.value c.in-Err.ensures.error
    c.unfound.ensures
