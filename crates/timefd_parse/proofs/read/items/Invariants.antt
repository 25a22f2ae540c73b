use Rattle.std.proofs.Common.{◌≤◌, length, map, IsTrue, IsUtf8}
use Rattle.timefd_lang_node_list.specs.Item.Meaning.{item_tree}
use Rattle.timefd_language.specs.Strings.{are_of_strings}
use Rattle.timefd_parse.proofs.ReadLemmas.{Continues}
use Rattle.timefd_parse.proofs.read.items.Given as goal

-- the pieces so far
abbrev pub invariant-pieces : goal.invariant-pieces
invariant-pieces l = record {
  text : IsUtf8 l.rest;
  within : length l.rest ≤ length l.text;
  before : Continues l.version l.limit 0 l.text (map item_tree l.items.items) l.rest;
  strings : IsTrue (are_of_strings l.items.items);
}

abbrev pub decreases-pieces : goal.decreases-pieces
decreases-pieces l = length l.rest
