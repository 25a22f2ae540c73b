use Rattle.std.proofs.lemmas.Result.{IfOk-weaker}
use Rattle.timefd_lint_files.proofs.PatternLemmas.{as_stated}
use Rattle.timefd_lint_files.proofs.pattern.Pattern.applies.Goals as goal

pub returns-clause-exact : goal.returns-clause-exact
returns-clause-exact c =
    IfOk-weaker c.applies_to.result _ _
    (λ answer is. as_stated answer c.args.self.now c.args.path.now c.args.is_folder is) c.applies_to.ensures
