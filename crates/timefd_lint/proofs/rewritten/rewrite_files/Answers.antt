use Rattle.std.proofs.Common.{rules}
use Rattle.timefd_lint.proofs.FilesLemmas.{split_names}
use Rattle.timefd_lint.proofs.StoreLemmas.{no_name, one_name}
use Rattle.timefd_lint.proofs.rewritten.rewrite_files.Goals as goal

pub names-init : goal.names-init
names-init g c = no_name _ _ _ _ _ _ c.new-met.ensures.items c.new-tally.ensures

pub names-preserved : goal.names-preserved
names-preserved g c =
    one_name _ _ _ _ _ _ _ _ _ c.in_ok-one.one _ _ _ _
    (split_names c.names.rest.now _ _ (search rules) c.in-len1-up.len_at_least) c.and-tally.ensures
    c.names.invariant c.in_ok-one.ensures.named
