use Rattle.std.proofs.Common.{ap}
use Rattle.timefd_lang_node_list.specs.Views.{shape_tree}
use Rattle.timefd_lint_explain.proofs.piece.shape_what.Goals as goal

pub returns-in-Compound : goal.returns-in-Compound
returns-in-Compound c = (_, ap shape_tree c.in-Compound.is)

pub returns-in-Optional : goal.returns-in-Optional
returns-in-Optional c = (_, ap shape_tree c.in-Optional.is)

pub returns-in-First : goal.returns-in-First
returns-in-First c = (_, ap shape_tree c.in-First.is)
