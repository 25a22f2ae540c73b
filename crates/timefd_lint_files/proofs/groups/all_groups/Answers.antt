use Rattle.std.proofs.Common.{rules}
use Rattle.std.proofs.lemmas.Result.{err_from_is_err_and}
use Rattle.timefd_lint_files.specs.Groups.{IsFoundFor}
use Rattle.timefd_lint_files.proofs.GroupLemmas.{all_groups, no_group, no_memory, none_left, one_group, split_names, unread_first, unread_later}
use Rattle.timefd_lint_files.proofs.OneOfLemmas.{after_some}
use Rattle.timefd_lint_files.proofs.groups.all_groups.Goals as goal

pub groups-init : goal.groups-init
groups-init g c = record {
  so_far = no_group (IsFoundFor (g.S.FileSystem.holds c.args.system.now) (g.S.FileSystem.fails c.args.system.now)
      (g.S.FileSystem.folders c.args.system.now) c.args.file.now c.args.here.now) c.args.names.now _ (search rules);
  unread = λ error is. is;
}

pub groups-preserved : goal.groups-preserved
groups-preserved g c = record {
  so_far = one_group _ _ c.groups.rest.now _ _ _ _ _ _ _ _
      (split_names c.groups.rest.now _ _ (search rules) c.in-len1-up.len_at_least) c.in_ok-found.ensures.found
      c.in_ok-left.ensures.same c.all_but.ensures c.last_of-rest.ensures c.in_ok-push_group.ensures.added
      c.groups.invariant.so_far;
  unread = λ error. after_some _ _ c.groups.rest.now _ _ c.last_of-rest.ensures (c.groups.invariant.unread error);
}

pub returns-clause-all : goal.returns-clause-all
returns-clause-all g c =
    all_groups (IsFoundFor (g.S.FileSystem.holds c.args.system.now) (g.S.FileSystem.fails c.args.system.now)
    (g.S.FileSystem.folders c.args.system.now) c.args.file.now c.args.here.now) c.args.names.now c.groups.rest.now
    c.groups.groups.items (none_left c.groups.rest.now c.in_default.len_below) c.groups.invariant.so_far

-- For the first of the remaining names.
pub returns-in_err-found-clause-error : goal.returns-in_err-found-clause-error
returns-in_err-found-clause-error g c =
    let p = err_from_is_err_and c.from_residual.result c.from_residual.ensures.1 in
    rw (p.1, p.2) (unread_first (g.S.FileSystem.fails c.args.system.now) (g.S.FileSystem.folders c.args.system.now)
    c.args.file.now c.args.here.now c.args.names.now c.groups.rest.now _ _ c.in-len1-up.len_at_least
    c.in_err-found.ensures.error (c.groups.invariant.unread _))

-- For one of those after it.
pub returns-in_err-left-clause-error : goal.returns-in_err-left-clause-error
returns-in_err-left-clause-error g c =
    let p = err_from_is_err_and c.from_residual-in_err-left.result c.from_residual-in_err-left.ensures.1 in
    rw (p.1, p.2) (unread_later (g.S.FileSystem.fails c.args.system.now) (g.S.FileSystem.folders c.args.system.now)
    c.args.file.now c.args.here.now c.args.names.now c.groups.rest.now _ _ c.in_err-left.ensures.error
    (c.groups.invariant.unread _))

-- Memory ran out.
pub returns-in_err-push_group-clause-error : goal.returns-in_err-push_group-clause-error
returns-in_err-push_group-clause-error g c =
    let p = err_from_is_err_and c.from_residual-in_err-push_group.result c.from_residual-in_err-push_group.ensures.1 in
    rw (p.1, p.2) (no_memory (g.S.FileSystem.fails c.args.system.now) (g.S.FileSystem.folders c.args.system.now)
    c.args.file.now c.args.here.now c.args.names.now c.groups.rest.now _ c.in-len1-up.len_at_least
    c.in_err-push_group.ensures.memory (c.groups.invariant.unread _))
