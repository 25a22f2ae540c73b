use Rattle.std.proofs.Common.{rules}
use Rattle.std.proofs.lemmas.Result.{err_from_is_err_and}
use Rattle.timefd_lint_files.proofs.GroupLemmas.{none_yet, one_more, split_names, unread_first}
use Rattle.timefd_lint_files.proofs.OneOfLemmas.{after_first}
use Rattle.timefd_lint_files.proofs.groups.left_after.Goals as goal

pub names-init : goal.names-init
names-init g c = record { same = none_yet _ _ _; unread = λ error is. is }

pub names-preserved : goal.names-preserved
names-preserved g c = record {
  same = one_more _ _ _ _ c.names.rest.now _ _
      (split_names c.names.rest.now _ _ (search rules) c.in-len1-up.len_at_least) (search rules)
      c.in_ok-other.ensures.found c.names.invariant.same;
  unread = λ error. after_first _ _ c.names.rest.now _ (c.names.invariant.unread error);
}

pub names-preserved-else-not-is_same : goal.names-preserved-else-not-is_same
names-preserved-else-not-is_same g c = record {
  same = one_more _ _ _ _ c.names.rest.now _ _
      (split_names c.names.rest.now _ _ (search rules) c.in-len1-up.len_at_least) (search rules)
      c.in_ok-other.ensures.found c.names.invariant.same;
  unread = λ error. after_first _ _ c.names.rest.now _ (c.names.invariant.unread error);
}

pub returns-in_err-other-clause-error : goal.returns-in_err-other-clause-error
returns-in_err-other-clause-error g c =
    let p = err_from_is_err_and c.from_residual.result c.from_residual.ensures.1 in
    rw (p.1, p.2) (unread_first (g.S.FileSystem.fails c.args.system.now) (g.S.FileSystem.folders c.args.system.now)
    c.args.file.now c.args.here.now c.args.names.now c.names.rest.now _ _ c.in-len1-up.len_at_least
    c.in_err-other.ensures.error (c.names.invariant.unread _))
