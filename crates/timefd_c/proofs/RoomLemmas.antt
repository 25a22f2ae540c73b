-- How many nodes, and how many bytes of literals, a text has.
use Rattle.std.proofs.Common.{ℕ, ◌≡◌, ◌≤◌, List, Some, length, arith}
use Rattle.timefd_lang_component.specs.Tree.{Text, Tree, trees, pack}
use Rattle.timefd_language.specs.declared.description_version.DescriptionVersion.TheVariants.{One, Two, Three}
use Rattle.timefd_language.specs.declared.description_version.Language.{Language}
use Rattle.timefd_language.specs.declared.description_version.Language.TheVariants.{Version, Strftime}
use Rattle.timefd_parse.specs.Language.{SpellsIn}
use Rattle.timefd_c_nodes.specs.Encoding.{literals_of}
use Rattle.timefd_c_nodes.proofs.TreeLemmas.{walked_length, walked_all_length}
use Rattle.timefd_c_nodes.specs.Reading.Reports.{parts}
use Rattle.timefd_c_nodes.proofs.ReadingLemmas.RoomLemmas.{all_walked_bytes, pack_bytes, pack_count, spelled_within, strftime_within, walked_bytes}
use Rattle.timefd_c.specs.Reading.{most_nodes, most_literals}

-- What is reported of a text that spells the list.

pub nodes_within : (language : Language) (limit : ℕ) (bytes : Text) (list : List Tree) (nodes : ℕ)
    → SpellsIn language limit bytes list → nodes ≡ length (parts language list)
    → nodes ≤ most_nodes (Some language) (length bytes)
nodes_within (Version One) limit bytes list nodes spelled is =
    omega (arith, is, walked_all_length (trees list), (spelled_within One limit bytes list spelled).nodes)
nodes_within (Version Two) limit bytes list nodes spelled is =
    omega (arith, is, walked_all_length (trees list), (spelled_within Two limit bytes list spelled).nodes)
nodes_within (Version Three) limit bytes list nodes spelled is = omega (
  arith,
  is,
  walked_length (pack list),
  pack_count list,
  (spelled_within Three limit bytes list spelled).nodes,
)
nodes_within Strftime limit bytes list nodes spelled is =
    omega (arith, is, walked_all_length (trees list), (strftime_within bytes list spelled).nodes)

pub literals_within : (language : Language) (limit : ℕ) (bytes : Text) (list : List Tree)
    (literals : ℕ) → SpellsIn language limit bytes list
    → literals ≡ length (literals_of (parts language list))
    → literals ≤ most_literals (Some language) (length bytes)
literals_within (Version One) limit bytes list literals spelled is =
    let within = spelled_within One limit bytes list spelled in
    omega (arith, is, all_walked_bytes (trees list), within.literals)
literals_within (Version Two) limit bytes list literals spelled is =
    let within = spelled_within Two limit bytes list spelled in
    omega (arith, is, all_walked_bytes (trees list), within.literals)
literals_within (Version Three) limit bytes list literals spelled is = omega (
  arith,
  is,
  walked_bytes (pack list),
  pack_bytes list,
  (spelled_within Three limit bytes list spelled).literals,
)
literals_within Strftime limit bytes list literals spelled is =
    omega (arith, is, all_walked_bytes (trees list), (strftime_within bytes list spelled).literals)
