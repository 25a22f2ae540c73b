use Rattle.std.proofs.Common.{◌++◌, ◌∙◌, ap}
use Rattle.timefd_lint_options.specs.Config.Config as configs
use Rattle.timefd_lint_options.specs.Config.Over.{with_levels}
use Rattle.timefd_lint_scan.specs.Keys.Keys.{named_all}
use Rattle.timefd_lint.specs.Roots.{levels_of}
use Rattle.timefd_lint.proofs.session.served.Goals as goal

pub returns-clause-served : goal.returns-clause-served
returns-clause-served g c = record {
  project = c.in_ok-project.project;
  found = c.in_ok-project.ensures.project;
  served = record { keys = c.deref.result; calls = c.deref-2.result; levels = c.reported_levels.result };
  keys_are = ap named_all c.deref.ensures.value
      ∙ (c.in_ok-keys.ensures ∙ ap (λ k. named_all c.args.keys.now ++ configs.named_all k) c.counted_keys.ensures);
  calls_are = c.deref-2.ensures.value;
  levels_are = c.reported_levels.ensures
      ∙ ap levels_of (c.with_levels-settings.ensures ∙ ap (with_levels c.args.settings) c.counted_levels.ensures);
  session = c.serve_on.ensures.served;
}
