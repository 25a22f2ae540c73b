-- The composite letters of strftime, each as one node.
use Rattle.std.specs.Prelude.{ℕ, ◌≡◌, List, [], ◌∷◌, drop, length, map, take}
use Rattle.timefd_lang_component.specs.Reserved.{reserve}
use Rattle.timefd_lang_component.specs.Tree.{Text, Tree, compound, trees}
use Rattle.timefd_language.specs.Strftime.{SpellsStrftime}
use Rattle.timefd_lang_node_list.specs.Views.{walked_all}
use Rattle.timefd_language.specs.declared.strftime.letter.Composite.{Composite}
use Rattle.timefd_language.specs.declared.strftime.letter.Composite.TheVariants.{DateAndTime, ShortDate, IsoDate, TimeOf12, HourAndMinute, TimeOf24, Offset}
use Rattle.timefd_language.specs.declared.strftime.piece.StrftimePiece.{StrftimePiece}
use Rattle.timefd_language.specs.declared.strftime.piece.StrftimePiece.TheVariants as piece
use Rattle.timefd_language.specs.Directives.LetterMeaning.{composite_list}
use Rattle.timefd_language.specs.Directives.PieceMeaning.{piece_tree}
use Rattle.timefd_c_nodes.specs.declared.node.RawNode.{RawNode}
use Rattle.timefd_c_nodes.specs.Encoding.{component_node, composite_node, literal_node, own_text}
use Rattle.timefd_c_nodes.specs.declared.reading.composite.CompositeList.{CompositeList}
use Rattle.timefd_c_nodes.specs.declared.reading.composite.TheConstants.{COMPOSITES}

-- the item of a composite letter
abbrev pub composite_tree : Composite → Tree
composite_tree c = compound (trees (composite_list c))

-- the composite letters, in the order of their lists
abbrev pub all_composites : List Composite
all_composites =
    DateAndTime ∷ ShortDate ∷ IsoDate ∷ TimeOf12 ∷ HourAndMinute ∷ TimeOf24 ∷ Offset ∷ []

-- the items of these letters, which one text spells
abbrev pub composite_items : List Tree
composite_items = map composite_tree all_composites

-- the index of the first part of each list among the parts of these items, where each part follows its
-- members
abbrev pub start_of : Composite → ℕ
start_of DateAndTime = 0
start_of ShortDate = 14
start_of IsoDate = 20
start_of TimeOf12 = 26
start_of HourAndMinute = 34
start_of TimeOf24 = 38
start_of Offset = 44

-- where a list is, how many members it has, and how many bytes they reserve
abbrev pub list_of : Composite → CompositeList
list_of c = record {
  start = start_of c;
  len = length (composite_list c);
  bytes = reserve (composite_tree c);
}

-- the one node of a composite letter
abbrev pub node_of : Composite → RawNode
node_of c = composite_node (start_of c) (length (composite_list c)) (reserve (composite_tree c))

-- the bytes that a piece of one node adds to the literals
abbrev pub piece_text : StrftimePiece → Text
piece_text p = own_text (piece_tree p)

-- the one node of a piece, which has the index `at` and has `used` bytes of literals before it
abbrev pub piece_node : ℕ → ℕ → StrftimePiece → RawNode
piece_node at used (piece.Literal text) = literal_node used (length text.now)
piece_node at used (piece.Component c) = component_node c at
piece_node at used (piece.Composite c) = node_of c

-- `COMPOSITES` spells the items of all composite letters, and the list of each letter is among their parts
-- where the one node of the letter says.
pub record ListsStand : Type 0 where
  pub spelled : SpellsStrftime COMPOSITES.now composite_items
  pub stand : (c : Composite)
      → take (length (composite_list c)) (drop (start_of c) (walked_all (trees composite_items)))
      ≡ composite_list c
