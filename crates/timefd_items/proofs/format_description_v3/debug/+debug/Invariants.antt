use Rattle.std.proofs.Common.{◌+◌, ◌*◌, map}
use Rattle.timefd_items.specs.Content.{content_tree}
use Rattle.timefd_items.specs.Meaning.{inner_tree}
use Rattle.timefd_lang_component.specs.Reserved.{tree_count, trees_count}
use Rattle.timefd_lang_component.specs.Tree.{trees}
use Rattle.timefd_items.proofs.format_description_v3.debug.+debug.Given as goal

-- a list is one step before its first member
abbrev pub decreases-write_content : goal.decreases-write_content
decreases-write_content g l = 2 * tree_count (content_tree l.content)

abbrev pub decreases-write_members : goal.decreases-write_members
decreases-write_members g l = 2 * trees_count (trees (map inner_tree l.items.now)) + 1
