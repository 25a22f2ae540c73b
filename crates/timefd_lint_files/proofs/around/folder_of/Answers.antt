use Rattle.std.proofs.lemmas.Result.{IfOk-weaker}
use Rattle.timefd_lint_files.proofs.AroundLemmas.{folder_before}
use Rattle.timefd_lint_files.proofs.around.folder_of.Goals as goal

pub returns-in-Some : goal.returns-in-Some
returns-in-Some c =
    IfOk-weaker c.joined.result _ _
    (λ made. folder_before c.args.path.now c.in-Some.front.now c.in-Some.field-0-1.now _ c.in-Some.ensures.cases)
    c.joined.ensures
