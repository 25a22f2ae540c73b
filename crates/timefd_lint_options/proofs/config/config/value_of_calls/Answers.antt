use Rattle.toml.proofs.Views.{table_get}
use Rattle.std.specs.Prelude.{codes}
use Rattle.timefd_lint_options.proofs.config.config.value_of_calls.Goals as goal

pub returns : goal.returns
returns c = table_get c.get.result (codes "calls") c.args.document.now.entries c.get.ensures.value
