-- The tree of a description whose parts are borrowed, and how many of them are owned.
use Rattle.std.specs.Prelude.{ℕ, ◌≡◌, ◌+◌, map, sum}
use Rattle.timefd_items.specs.declared.format_description_v3.content.Content.{Content}
use Rattle.timefd_items.specs.declared.format_description_v3.content.Content.TheVariants as content
use Rattle.timefd_items.specs.Meaning.{inner_tree, owned_parts}
use Rattle.timefd_lang_component.specs.Modern.{modern}
use Rattle.timefd_lang_component.specs.Tree.{Tree, component, literal, compound, optional, first, trees}

abbrev pub content_tree : Content → Tree
content_tree (content.Component c) = component (modern c)
content_tree (content.Literal text) = literal text.now
content_tree (content.Compound items) = compound (trees (map inner_tree items.now))
content_tree (content.Optional format item) = optional format (inner_tree item.now)
content_tree (content.First items) = first (trees (map inner_tree items.now))

-- what an owned part is that has this many owned parts, itself included
abbrev pub IsOwned : Content → ℕ → Type 0
IsOwned (content.Component c) count = ⊥
IsOwned (content.Literal text) count = count ≡ 1
IsOwned (content.Compound items) count = count ≡ 1 + sum (map owned_parts items.now)
IsOwned (content.Optional format item) count = count ≡ 1 + owned_parts item.now
IsOwned (content.First items) count = count ≡ 1 + sum (map owned_parts items.now)
