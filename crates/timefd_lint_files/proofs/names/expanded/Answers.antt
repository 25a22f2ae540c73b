use Rattle.std.proofs.Common.{rules, arith, ◌≡◌, ◌<◌, length}
use Rattle.std.proofs.lemmas.Grind.{common_steps}
use Rattle.timefd_lint_files.specs.Walks.{IsKept, IsWalkBut, texts}
use Rattle.std.proofs.lemmas.Result.{err_from_is_err_and}
use Rattle.timefd_lint_files.proofs.ErrorLemmas.{below_any}
use Rattle.timefd_lint_files.proofs.NameLemmas.{at_last, one_more}
use Rattle.timefd_lint_files.proofs.names.expanded.Goals as goal

pub loop-name-preserved : goal.loop-name-preserved
loop-name-preserved g c =
    let lt : c.loop-name.name-index < length c.args.names.now = first_of (omega arith, search rules) in record {
      outside = c.in_ok-expand.ensures.ignores;
      so_far = one_more
          (IsWalkBut c.args.sought.endings.now c.args.sought.excluded (g.S.FileSystem.lists c.args.system.now) (g.S.FileSystem.holds c.args.system.now))
          (IsKept c.args.sought.excluded) (g.S.FileSystem.folders c.args.system.now) c.args.names.now c.loop-name.name-index _
          (texts c.loop-name.walk.names.items) (texts c.expand.new.walk.names.items) lt
          c.loop-name.invariant.so_far c.in_ok-expand.ensures.names;
    }

pub returns-clause-all : goal.returns-clause-all
returns-clause-all g c =
    let end : c.loop-name.name-index ≡ length c.args.names.now = first_of (omega arith, search rules) in
    let same : texts c.into_names.result.items ≡ texts c.loop-name.walk.names.items =
    first_of (cc, search rules, grind (arith, common_steps)) in
    at_last (IsWalkBut c.args.sought.endings.now c.args.sought.excluded (g.S.FileSystem.lists c.args.system.now) (g.S.FileSystem.holds c.args.system.now))
    (IsKept c.args.sought.excluded) (g.S.FileSystem.folders c.args.system.now) c.args.names.now c.loop-name.name-index
    (texts c.loop-name.walk.names.items) (texts c.into_names.result.items) end same
    c.loop-name.invariant.so_far

pub returns-in_err-expand-clause-error : goal.returns-in_err-expand-clause-error
returns-in_err-expand-clause-error g c =
    let lt : c.loop-name.name-index < length c.args.names.now = first_of (omega arith, search rules) in
    let p = err_from_is_err_and c.from_residual.result c.from_residual.ensures.1 in
    rw (p.1, p.2) (below_any (g.S.FileSystem.fails c.args.system.now) c.args.names.now c.loop-name.name-index _
    c.in_err-expand.field-0.0 lt c.in_err-expand.ensures.error)
