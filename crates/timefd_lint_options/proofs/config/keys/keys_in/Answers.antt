use Rattle.std.proofs.Common.{◌≡◌, ◌++◌, [], ◌∷◌, arith}
use Rattle.std.proofs.lemmas.Grind.{common_steps}
use Rattle.toml.specs.View.{members_view}
use Rattle.toml.proofs.Views.{Entry}
use Rattle.timefd_lint_options.specs.Config.Config.{keys_in}
use Rattle.timefd_lint_options.proofs.ConfigLemmas.ConfigLemmas.{pushed}
use Rattle.timefd_lint_options.proofs.config.keys.keys_in.Goals as goal

pub keys-preserved : goal.keys-preserved
keys-preserved c =
    let (can, finite, same) = c.keys.invariant in
    let e : Entry = (c.in-Some.name.now, c.in-Some.value.now) in
    let iter : c.keys.name-iterator ≡ e ∷ c.next.new.self = grind (arith, common_steps) in
    let items : c.push.new.self.items ≡ c.keys.keys.items ++ c.in_ok-key.key ∷ [] = grind (arith, common_steps) in
    (tt, tt, pushed c.keys.keys.items c.push.new.self.items c.in_ok-key.key e c.next.new.self c.keys.name-iterator (keys_in (members_view c.args.table.now.entries)) items iter c.in_ok-key.ensures.key same)
