use Rattle.std.proofs.Common.{length, map, ◌≤◌, IsTrue}
use denote.Text.{Utf8}
use denote.Shadow.{shadow}
use Rattle.timefd_lang_node_list.specs.Item.Meaning.{item_tree}
use Rattle.timefd_language.specs.Strings.{are_of_strings}
use Rattle.timefd_language.proofs.DirectiveLemmas.DirectiveLemmas.{Continues}
use Rattle.timefd_language.proofs.strftime.parsing.items.Given as goal

-- says that each `&str` the loop changes is text: keep it, and add clauses with ×
abbrev pub invariant-pieces : goal.invariant-pieces
invariant-pieces l =
    shadow (Utf8 l.rest) × (length l.rest ≤ length l.text)
    × Continues l.text (map item_tree l.items.items) l.rest
    × IsTrue (are_of_strings l.items.items)

abbrev pub decreases-pieces : goal.decreases-pieces
decreases-pieces l = length l.rest
