use Rattle.std.proofs.Common.{rules, ◌∙◌}
use Rattle.timefd_lang_node_list.proofs.WalkLemmas.{walked_one}
use Rattle.timefd_lang_node_list.proofs.view.View.walk.Goals as goal

pub returns : goal.returns
returns c = c.new-2.ensures ∙ walked_one c.args.self.nodes.now c.args.self.fit c.args.self.one
    (search rules)
