use Rattle.std.proofs.Common.{rules, length, refl}
use Rattle.std.proofs.lemmas.Result.{err_from_is_err_and}
use Rattle.timefd_lint_files.proofs.OneOfLemmas.{after_first}
use Rattle.timefd_lint.proofs.PartLemmas.{all_made, none_left, none_made, not_kept, one_made, unwalked_first}
use Rattle.timefd_lint.proofs.SplitLemmas.{split_item}
use Rattle.timefd_lint.proofs.parts.parts_of.Goals as goal

pub projects-init : goal.projects-init
projects-init g c = record {
  so_far = none_made (g.S.FileSystem.lists c.args.system.now) (g.S.FileSystem.holds c.args.system.now)
      (g.S.FileSystem.folders c.args.system.now) c.args.settings c.args.keys.now c.args.projects.now _ (search rules);
  unwalked = λ error is. is;
}

pub projects-preserved : goal.projects-preserved
projects-preserved g c = record {
  so_far = one_made (g.S.FileSystem.lists c.args.system.now) (g.S.FileSystem.holds c.args.system.now)
      (g.S.FileSystem.folders c.args.system.now) c.args.settings c.args.keys.now c.args.projects.now
      c.projects.rest.now _ c.named-item.result _ c.projects.parts.items _
      (split_item c.projects.rest.now c.named-item.result _ (search rules) c.in-len1-up.len_at_least c.named-item.is)
      c.in_ok-part.ensures.part c.in_ok-push_part.ensures.added c.projects.invariant.so_far;
  unwalked = λ error. after_first _ _ c.projects.rest.now _ (c.projects.invariant.unwalked error);
}

pub returns-clause-all : goal.returns-clause-all
returns-clause-all g c =
    all_made (g.S.FileSystem.lists c.args.system.now) (g.S.FileSystem.holds c.args.system.now)
    (g.S.FileSystem.folders c.args.system.now) c.args.settings c.args.keys.now c.args.projects.now c.projects.rest.now
    c.projects.parts.items (none_left c.projects.rest.now c.in_default.len_below) c.projects.invariant.so_far

pub returns-in_err-part-clause-error : goal.returns-in_err-part-clause-error
returns-in_err-part-clause-error g c =
    let p = err_from_is_err_and c.from_residual.result c.from_residual.ensures.1 in
    rw (p.1, p.2) (unwalked_first (g.S.FileSystem.fails c.args.system.now) c.args.projects.now c.projects.rest.now _
    c.named-item.result _
    (split_item c.projects.rest.now c.named-item.result (length c.projects.rest.now) refl c.in-len1-up.len_at_least
    c.named-item.is)
    c.in_err-part.ensures.error (c.projects.invariant.unwalked _))

pub returns-in_err-push_part-clause-error : goal.returns-in_err-push_part-clause-error
returns-in_err-push_part-clause-error g c =
    let p = err_from_is_err_and c.from_residual-in_err-push_part.result c.from_residual-in_err-push_part.ensures.1 in
    rw (p.1, p.2) (not_kept (g.S.FileSystem.fails c.args.system.now) c.args.projects.now c.projects.rest.now _
    c.named-item.result _
    (split_item c.projects.rest.now c.named-item.result (length c.projects.rest.now) refl c.in-len1-up.len_at_least
    c.named-item.is)
    c.in_err-push_part.ensures.memory (c.projects.invariant.unwalked _))
