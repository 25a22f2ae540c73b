-- What the code's pieces of a text of strftime mean.
use Rattle.timefd_lang_component.specs.Tree.{Tree, component, compound, literal, trees}
use Rattle.timefd_language.specs.declared.strftime.piece.StrftimePiece.{StrftimePiece}
use Rattle.timefd_language.specs.declared.strftime.piece.StrftimePiece.TheVariants.{Literal, Component, Composite}
use Rattle.timefd_language.specs.Directives.LetterMeaning.{composite_list}

-- the tree of a piece
abbrev pub piece_tree : StrftimePiece → Tree
piece_tree (Literal text) = literal text.now
piece_tree (Component c) = component c
piece_tree (Composite c) = compound (trees (composite_list c))
