-- What is written for a text of strftime, where a composite letter is one node, or its members and a node
-- after them.
use Rattle.std.specs.Prelude.{◌≡◌, Bool, true, false, List, [], ◌∷◌, length, map}
use Rattle.timefd_lang_component.specs.Reserved.{reserve, reserve_all}
use Rattle.timefd_lang_component.specs.Tree.{Text, Tree, trees}
use Rattle.timefd_lang_node_list.specs.Nodes.{kept_bytes}
use Rattle.timefd_lang_node_list.specs.Views.{walked}
use Rattle.timefd_language.specs.declared.description_version.Language.TheVariants.{Strftime}
use Rattle.timefd_language.specs.declared.strftime.piece.StrftimePiece.{StrftimePiece}
use Rattle.timefd_language.specs.Directives.PieceMeaning.{piece_tree}
use Rattle.timefd_c_nodes.specs.declared.node.RawNode.{RawNode}
use Rattle.timefd_c_nodes.specs.declared.position.WritePosition.{WritePosition}
use Rattle.timefd_c_nodes.specs.declared.position.Written.{Written}
use Rattle.timefd_c_nodes.specs.Writing.{ArePast, IsPast, IsWritten, WritesParts}
use Rattle.timefd_c_nodes.specs.declared.reading.progress.ReadProgress.{ReadProgress}
use Rattle.timefd_c_nodes.specs.declared.reading.report.ReadReport.{ReadReport}
use Rattle.timefd_c_nodes.specs.Reading.Composites.{piece_node, piece_text}
use Rattle.timefd_c_nodes.specs.Reading.Progress.{HasWritten, HasWrittenParts}
use Rattle.timefd_c_nodes.specs.Reading.Reports.{IsReport, ReportsParts}

-- the one node of a piece is written at a position, as far as there is room
pub record IsOneNode (p : StrftimePiece) (at : WritePosition) (nodes_before nodes_after : List RawNode)
    (before after : Text) (w : Written) : Type 0 where
  pub within : WritesParts piece_node piece_text (p ∷ []) at w.end nodes_before nodes_after before
      after
  pub bytes : w.bytes ≡ kept_bytes (reserve (piece_tree p))

-- a piece is written, as one node or not
abbrev pub PieceIsWritten : Bool → StrftimePiece → WritePosition → List RawNode → List RawNode → Text → Text
    → Written → Type 0
PieceIsWritten true p at nodes_before nodes_after before after w =
    IsOneNode p at nodes_before nodes_after before after w
PieceIsWritten false p at nodes_before nodes_after before after w =
    IsWritten (walked (piece_tree p)) (reserve (piece_tree p)) at nodes_before nodes_after before after
    w

-- a `usize` can't count the position after a piece
abbrev pub PieceIsPast : Bool → StrftimePiece → WritePosition → Type 0
PieceIsPast true p at = ArePast piece_text (p ∷ []) at
PieceIsPast false p at = IsPast (walked (piece_tree p)) at

-- the pieces of these items were read and written one after another, each as one node or not
abbrev pub PiecesAreWritten : Bool → List Tree → List RawNode → List RawNode → Text → Text → ReadProgress
    → Type 0
PiecesAreWritten true list nodes_before nodes_after before after p =
    (pieces : List StrftimePiece) × (map piece_tree pieces ≡ list)
    × HasWrittenParts piece_node piece_text pieces list nodes_before nodes_after before after p
PiecesAreWritten false list nodes_before nodes_after before after p =
    HasWritten list nodes_before nodes_after before after p

-- The report on a text of strftime that spells the list, where a composite letter is one node.
abbrev pub IsReportOfPieces : List Tree → List RawNode → List RawNode → Text → Text → ReadReport → Type 0
IsReportOfPieces list nodes_before nodes_after before after r =
    (pieces : List StrftimePiece) × (map piece_tree pieces ≡ list)
    × ReportsParts piece_node piece_text pieces (length list) (kept_bytes (reserve_all (trees list)))
    nodes_before nodes_after before after r

-- the report on a text of strftime, where a composite letter is one node or not
abbrev pub IsStrftimeReport : Bool → List RawNode → List RawNode → Text → Text → List Tree → ReadReport → Type 0
IsStrftimeReport true nodes_before nodes_after before after list r =
    IsReportOfPieces list nodes_before nodes_after before after r
IsStrftimeReport false nodes_before nodes_after before after list r =
    IsReport Strftime list nodes_before nodes_after before after r
