-- One piece of strftime after another is read and written, as one node or not.
use Rattle.std.proofs.Common.{◌≡◌, ◌∙◌, ◌<◌, ◌↔◌, Bool, true, false, IsTrue, Option, Some, None, IfSome, List, [], ◌∷◌, ◌++◌, length, refl, sym, ap, subst, arith, length-append}
use Rattle.std.proofs.lemmas.List.{length-map, map-append}
use Rattle.timefd_lang_component.specs.Reserved.{reserve, reserve_all}
use Rattle.timefd_lang_component.specs.Tree.{Text, Tree, trees}
use Rattle.timefd_lang_node_list.specs.Nodes.{kept_bytes}
use Rattle.timefd_lang_node_list.specs.Views.{walked}
use Rattle.timefd_language.specs.declared.strftime.letter.Composite.{Composite as CompositeLetter}
use Rattle.timefd_language.specs.declared.strftime.letter.Composite.TheVariants.{DateAndTime, ShortDate, IsoDate, TimeOf12, HourAndMinute, TimeOf24, Offset}
use Rattle.timefd_language.specs.declared.strftime.piece.StrftimePiece.{StrftimePiece}
use Rattle.timefd_language.specs.declared.strftime.piece.StrftimePiece.TheVariants.{Literal, Component, Composite}
use Rattle.timefd_language.specs.Directives.PieceMeaning.{piece_tree}
use Rattle.timefd_c_nodes.specs.declared.node.RawNode.{RawNode}
use Rattle.timefd_c_nodes.specs.declared.position.WritePosition.{WritePosition}
use Rattle.timefd_c_nodes.specs.declared.position.TheConstants.{START}
use Rattle.timefd_c_nodes.specs.declared.position.Written.{Written}
use Rattle.timefd_c_nodes.specs.Writing.{IsWritten, Puts}
use Rattle.timefd_c_nodes.proofs.WithinLemmas.{part_node, parts_both, parts_none}
use Rattle.timefd_c_nodes.specs.declared.reading.progress.ReadProgress.{ReadProgress}
use Rattle.timefd_c_nodes.specs.declared.reading.progress.TheConstants.{NOTHING}
use Rattle.timefd_c_nodes.specs.declared.reading.report.ReadReport.{ReadReport}
use Rattle.timefd_c_nodes.specs.Reading.Composites.{composite_tree, node_of, piece_node, piece_text}
use Rattle.timefd_c_nodes.specs.Reading.Pieces.{IsOneNode, IsStrftimeReport, PieceIsWritten, PiecesAreWritten}
use Rattle.timefd_c_nodes.specs.Reading.Progress.{HasWrittenParts, one_more}
use Rattle.timefd_c_nodes.proofs.ReadingLemmas.ProgressLemmas.{counted_below, nothing_written, reserve_more, written_more}
use Rattle.timefd_c_nodes.proofs.ReadingLemmas.ReportLemmas.{Fit, items_report, report, reports_parts}

-- One piece.

abbrev pub HasNoMembers : StrftimePiece → Type 0
HasNoMembers (Literal text) = Unit {0}
HasNoMembers (Component c) = Unit {0}
HasNoMembers (Composite c) = ⊥

-- a piece without members, which has one node either way
leaf_written : (one : Bool) (p : StrftimePiece) (at : WritePosition) (ns ms : List RawNode) (a b : Text)
    (w : Written) → HasNoMembers p
    → IsWritten (walked (piece_tree p)) (reserve (piece_tree p)) at ns ms a b w
    → PieceIsWritten one p at ns ms a b w
leaf_written false p at ns ms a b w leaf is = is
leaf_written true (Literal text) at ns ms a b w leaf is = record {
  within = record {
    node_at = is.within.node_at;
    literal_at = is.within.literal_at;
    node_room = is.within.node_room;
    literal_room = is.within.literal_room;
    nodes = is.within.nodes;
    literals = is.within.literals;
  };
  bytes = is.bytes;
}
leaf_written true (Component c) at ns ms a b w leaf is = record {
  within = record {
    node_at = is.within.node_at;
    literal_at = is.within.literal_at;
    node_room = is.within.node_room;
    literal_room = is.within.literal_room;
    nodes = is.within.nodes;
    literals = is.within.literals;
  };
  bytes = is.bytes;
}
leaf_written true (Composite c) at ns ms a b w leaf is = absurd leaf

pub leaf_some : (one : Bool) (p : StrftimePiece) (at : WritePosition) (ns ms : List RawNode) (a b : Text)
    (r : Option Written) → HasNoMembers p
    → IfSome r (IsWritten (walked (piece_tree p)) (reserve (piece_tree p)) at ns ms a b)
    → IfSome r (PieceIsWritten one p at ns ms a b)
leaf_some one p at ns ms a b None leaf is = is
leaf_some one p at ns ms a b (Some w) leaf is = leaf_written one p at ns ms a b w leaf is

few_bytes : (c : CompositeLetter) → reserve (composite_tree c) ≡ kept_bytes (reserve (composite_tree c))
few_bytes DateAndTime = refl
few_bytes ShortDate = refl
few_bytes IsoDate = refl
few_bytes TimeOf12 = refl
few_bytes HourAndMinute = refl
few_bytes TimeOf24 = refl
few_bytes Offset = refl

-- a composite letter as one node
pub composite_written : (c : CompositeLetter) (at : WritePosition) (ns ms : List RawNode) (a : Text)
    (r : Option Written) → IfSome r (Puts (node_of c) (reserve (composite_tree c)) at ns ms)
    → IfSome r (PieceIsWritten true (Composite c) at ns ms a a)
composite_written c at ns ms a None puts = puts
composite_written c at ns ms a (Some w) puts = record {
  within = part_node piece_node piece_text (Composite c) at (node_of c) (reserve (composite_tree c)) w
      ns ms a refl refl puts;
  bytes = puts.bytes ∙ few_bytes c;
}

-- Pieces, one after another.

pub no_pieces : (one : Bool) (ns : List RawNode) (a : Text) → PiecesAreWritten one [] ns ns a a NOTHING
no_pieces true ns a = (
  [],
  refl,
  record {
    within = parts_none piece_node piece_text START ns a;
    count = refl;
    bytes = omega arith;
  },
)
no_pieces false ns a = nothing_written ns a

one_node_more : (pieces : List StrftimePiece) (list : List Tree) (piece : StrftimePiece)
    (p : ReadProgress) (w : Written) (ns ms ks : List RawNode) (a b c : Text)
    → HasWrittenParts piece_node piece_text pieces list ns ms a b p
    → IsOneNode piece p.end ms ks b c w
    → HasWrittenParts piece_node piece_text (pieces ++ piece ∷ []) (list ++ piece_tree piece ∷ []) ns
    ks a c (one_more p w)
one_node_more pieces list piece p w ns ms ks a b c before is = record {
  within = parts_both piece_node piece_text pieces (piece ∷ []) START p.end w.end ns ms ks a b c
      before.within is.within;
  count = omega (arith, before.count, length-append list (piece_tree piece ∷ []));
  bytes = omega (arith, before.bytes, is.bytes, reserve_more list (piece_tree piece));
}

pub pieces_more : (one : Bool) (list : List Tree) (piece : StrftimePiece) (p q : ReadProgress)
    (w : Written) (ns ms ks : List RawNode) (a b c : Text) → PiecesAreWritten one list ns ms a b p
    → PieceIsWritten one piece p.end ms ks b c w → q ≡ one_more p w
    → PiecesAreWritten one (list ++ piece_tree piece ∷ []) ns ks a c q
pieces_more true list piece p q w ns ms ks a b c before is more = (
  before.0 ++ piece ∷ [],
  map-append piece_tree before.0 (piece ∷ []) ∙
      ap (λ ts. ts ++ piece_tree piece ∷ []) before.1,
  subst (HasWrittenParts piece_node piece_text (before.0 ++ piece ∷ [])
      (list ++ piece_tree piece ∷ []) ns ks a c) (sym more)
      (one_node_more before.0 list piece p w ns ms ks a b c before.2 is),
)
pieces_more false list piece p q w ns ms ks a b c before is more =
    written_more list (piece_tree piece) p q w ns ms ks a b c before is more

pub piece_counted : (one : Bool) (list : List Tree) (piece : StrftimePiece) (p : ReadProgress)
    (w : Written) (ns ms ks : List RawNode) (a b c : Text) → PiecesAreWritten one list ns ms a b p
    → PieceIsWritten one piece p.end ms ks b c w → p.count < w.end.nodes
piece_counted true list piece p w ns ms ks a b c before is = omega (
  arith,
  before.2.count,
  before.2.within.node_at,
  is.within.node_at,
  ap length before.1,
  length-map before.0 piece_tree,
)
piece_counted false list piece p w ns ms ks a b c before is =
    counted_below list (piece_tree piece) p w ns ms ks a b c before is

-- The report.

pub pieces_report : (one : Bool) (list : List Tree) (p : ReadProgress) (ns ms : List RawNode) (a b : Text)
    (t : Bool) (r : ReadReport) → PiecesAreWritten one list ns ms a b p → (IsTrue t ↔ Fit p.end ms b)
    → r ≡ report p.count p.bytes p.end t → IsStrftimeReport one ns ms a b list r
pieces_report true list p ns ms a b t r all fits is = (
  all.0,
  all.1,
  reports_parts piece_node piece_text all.0 (length list) (kept_bytes (reserve_all (trees list)))
      p.count p.bytes p.end ns ms a b t r all.2.within fits all.2.count all.2.bytes is,
)
pieces_report false list p ns ms a b t r all fits is =
    items_report list p ns ms a b t r all fits is
