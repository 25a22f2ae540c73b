use Rattle.std.proofs.Common.{rules, length, refl}
use Rattle.std.proofs.lemmas.Result.{err_from_is_err_and}
use Rattle.timefd_lint_files.proofs.OneOfLemmas.{after_first}
use Rattle.timefd_lint.proofs.ProjectLemmas.{all_named, none_kept, none_left, none_named, one_named, wrong_first}
use Rattle.timefd_lint.proofs.SplitLemmas.{split_item}
use Rattle.timefd_lint.proofs.projects.named_by.Goals as goal

pub groups-init : goal.groups-init
groups-init c = record {
  so_far = none_named c.args.here.now c.args.groups.now _ (search rules);
  wrong = λ sentence is. is;
}

pub groups-preserved : goal.groups-preserved
groups-preserved c = record {
  so_far = one_named c.args.here.now c.args.groups.now c.groups.rest.now _ c.group-item.result _ c.groups.all.items _
      (split_item c.groups.rest.now c.group-item.result _ (search rules) c.in-len1-up.len_at_least c.group-item.is)
      (search rules) c.in_ok-project.ensures.project c.in_ok-push_named.ensures.added c.groups.invariant.so_far;
  wrong = λ sentence. after_first _ _ c.groups.rest.now _ (c.groups.invariant.wrong sentence);
}

pub returns-clause-all : goal.returns-clause-all
returns-clause-all c =
    all_named c.args.here.now c.args.groups.now c.groups.rest.now c.groups.all.items
    (none_left c.groups.rest.now c.in_default.len_below) c.groups.invariant.so_far

pub returns-in_err-project-clause-error : goal.returns-in_err-project-clause-error
returns-in_err-project-clause-error c =
    let p = err_from_is_err_and c.from_residual.result c.from_residual.ensures.1 in
    rw (p.1, p.2) (wrong_first c.args.groups.now c.groups.rest.now _ c.group-item.result _
    (split_item c.groups.rest.now c.group-item.result (length c.groups.rest.now) refl c.in-len1-up.len_at_least
    c.group-item.is)
    c.in_err-project.ensures.error c.groups.invariant.wrong)

pub returns-in_err-push_named-clause-error : goal.returns-in_err-push_named-clause-error
returns-in_err-push_named-clause-error c =
    let p = err_from_is_err_and c.from_residual-in_err-push_named.result c.from_residual-in_err-push_named.ensures.1 in
    rw (p.1, p.2) (none_kept c.args.groups.now _ c.in_err-push_named.ensures.memory)
