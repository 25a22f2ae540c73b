use Rattle.std.proofs.Common.{◌≡◌, ◌++◌, [], ◌∷◌, arith}
use Rattle.std.proofs.lemmas.Grind.{common_steps}
use Rattle.toml.specs.View.{members_view}
use Rattle.toml.proofs.Views.{Entry}
use Rattle.timefd_lint_options.specs.Config.Calls.{calls_in}
use Rattle.timefd_lint_options.proofs.ConfigLemmas.CallLemmas.{pushed}
use Rattle.timefd_lint_options.proofs.config.calls.calls_in.Goals as goal

pub calls-preserved : goal.calls-preserved
calls-preserved c =
    let (can, finite, same) = c.calls.invariant in
    let e : Entry = (c.in-Some.key.now, c.in-Some.value.now) in
    let iter : c.calls.key-iterator ≡ e ∷ c.next.new.self = grind (arith, common_steps) in
    let items : c.push.new.self.items ≡ c.calls.calls.items ++ c.in_ok-call.call ∷ [] = grind (arith, common_steps) in
    (tt, tt, pushed c.calls.calls.items c.push.new.self.items c.in_ok-call.call e c.next.new.self c.calls.key-iterator (calls_in (members_view c.args.table.now.entries)) items iter c.in_ok-call.ensures.call same)
