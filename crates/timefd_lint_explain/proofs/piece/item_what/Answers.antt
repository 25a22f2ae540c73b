use Rattle.std.proofs.Common.{◌∙◌, ap}
use Rattle.timefd_lang_node_list.specs.Item.Meaning.{item_tree}
use Rattle.timefd_items.proofs.BytesLemmas.{first_tree}
use Rattle.timefd_lint_explain.proofs.ShownLemmas.{compound_tree, no_bytes, optional_tree}
use Rattle.timefd_lint_explain.proofs.piece.item_what.Goals as goal

pub unreachable-requires : goal.unreachable-requires
unreachable-requires c = no_bytes _ c.in-Literal.field-0 c.in-Literal.is c.requires

pub returns-in-Compound : goal.returns-in-Compound
returns-in-Compound c = (_, ap item_tree c.in-Compound.is ∙ compound_tree c.in-Compound.field-0)

pub returns-in-Optional : goal.returns-in-Optional
returns-in-Optional c = (_, ap item_tree c.in-Optional.is ∙ optional_tree c.in-Optional.field-0)

pub returns-in-First : goal.returns-in-First
returns-in-First c = (_, ap item_tree c.in-First.is ∙ first_tree c.in-First.field-0)
