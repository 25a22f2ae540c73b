use Rattle.std.proofs.Common.{refl}
use Rattle.timefd_lint_files.specs.Walks.{texts}
use Rattle.timefd_lint_files.proofs.OutLemmas.{out}
use Rattle.timefd_lint_files.proofs.names.expand_file.Goals as goal

pub returns-then-branch-clause-names : goal.returns-then-branch-clause-names
returns-then-branch-clause-names c =
    out c.args.sought.excluded c.args.name.now c.in_ok-path.path.items c.deref-2.result.now
    c.in_ok-excluded.excluded.items c.deref.result.now c.in_ok-is_out.field-0 (texts c.args.walk.now.names.items)
    (texts c.args.walk.now.names.items) c.in_ok-excluded.ensures c.deref.ensures.value c.deref-2.ensures.value
    c.in_ok-path.ensures c.in_ok-is_out.ensures c.if-branch.true refl
