use Rattle.std.proofs.Common.{rules, arith, ◌≡◌}
use Rattle.std.proofs.lemmas.Grind.{common_steps}
use Rattle.std.proofs.lemmas.Result.{on_ok_weaker}
use Rattle.timefd_lint_files.specs.Walks.{texts}
use Rattle.timefd_lint_files.proofs.NameLemmas.{walked_but}
use Rattle.timefd_lint_files.proofs.names.expand_folder.Goals as goal

pub returns-clause-names : goal.returns-clause-names
returns-clause-names g c =
    let borrowed : c.deref.result.now ≡ c.in_ok-excluded.excluded.items =
    first_of (search rules, cc, grind (arith, common_steps)) in
    on_ok_weaker c.walk_folder.result
    (walked_but c.args.sought.endings.now c.args.sought.excluded (g.S.FileSystem.lists c.args.system.now)
    (g.S.FileSystem.holds c.args.system.now) c.args.folder.now c.in_ok-excluded.excluded.items c.deref.result.now
    c.args.walk.now.ignores.items (texts c.args.walk.now.names.items) (texts c.walk_folder.new.walk.names.items)
    c.in_ok-excluded.ensures borrowed c.requires)
    c.walk_folder.ensures.found
