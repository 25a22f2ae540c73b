-- A `usize` counts the nodes of a text, and the bytes of its literals, if each item has one node.
use Rattle.std.proofs.Common.{ℕ, ◌≡◌, ◌+◌, ◌*◌, ◌<◌, ◌≤◌, ◌^◌, ◌⊎◌, inl, inr, Bool, true, false, List, [], ◌∷◌, ◌++◌, length, length-append, refl, sym, ap, subst, arith}
use Rattle.timefd_lang_fault.specs.declared.borrowed_parse_error.BorrowedParseError.{BorrowedParseError}
use Rattle.timefd_lang_fault.specs.declared.borrowed_parse_error.BorrowedParseError.TheVariants as reported
use Rattle.timefd_lang_fault.specs.BorrowedFaults.{IsBorrowed, IsRefusal}
use Rattle.timefd_lang_component.specs.Tree.{Text, Tree, component, literal, compound, optional, first}
use Rattle.timefd_lang_fault.specs.Faults.{Fault}
use Rattle.timefd_language.specs.declared.description_version.DescriptionVersion.{DescriptionVersion}
use Rattle.timefd_lang_fault.specs.declared.read_error.ReadError.{ReadError}
use Rattle.timefd_lang_fault.specs.declared.read_error.ReadError.TheVariants as errors
use Rattle.timefd_language.specs.Broken.{FaultOf, broken_fault}
use Rattle.timefd_language.specs.Fault.{raised}
use Rattle.timefd_lang_fault.specs.ReadErrors.{MemoryOr}
use Rattle.timefd_language.specs.Grammar.{no_pieces, spelling}
use Rattle.timefd_lang_fault.specs.ReadErrors.{IsInvalid}
use Rattle.timefd_language.specs.Strftime.{StrftimeFaultOf, directives_text, ill_fault, no_directives}
use Rattle.timefd_lang_node_list.specs.Views.{walked}
use Rattle.timefd_lang_component.specs.Reserved.{reserve}
use Rattle.timefd_language.specs.declared.description_version.Language.TheVariants.{Version}
use Rattle.timefd_parse.specs.declared.piece.Piece.{Piece}
use Rattle.timefd_parse.specs.declared.piece.Piece.TheVariants as pieces
use Rattle.timefd_parse.specs.Pieces.{IsLeafTree}
use Rattle.timefd_parse.specs.Read.{IsFaultIn, Leads}
use Rattle.timefd_language.specs.declared.strftime.piece.StrftimePiece.{StrftimePiece}
use Rattle.timefd_language.specs.Directives.PieceMeaning.{piece_tree}
use Rattle.timefd_language.specs.Directives.StrftimeReading.{BeginsWithPiece, IsStrftimeFaultIn}
use Rattle.timefd_c_nodes.specs.declared.node.RawNode.{RawNode}
use Rattle.timefd_c_nodes.specs.declared.position.WritePosition.{WritePosition}
use Rattle.timefd_c_nodes.specs.declared.position.Written.{Written}
use Rattle.timefd_c_nodes.specs.Encoding.{literals_of, own_text}
use Rattle.timefd_c_nodes.proofs.TreeLemmas.{walked_length}
use Rattle.timefd_c_nodes.specs.Writing.{IsPast, IsWritten}
use Rattle.timefd_c_nodes.specs.Reading.Pieces.{PieceIsPast, PieceIsWritten}
use Rattle.timefd_c_nodes.specs.Reading.Reports.{IsCounted}
use Rattle.timefd_c_nodes.proofs.ReadingLemmas.RoomLemmas.{bytes_in, items_within, spelled_within, strftime_within, walked_bytes}

-- The position is within what was read of a text, of which `rest` remains.
pub record Fits (end : WritePosition) (text rest : Text) : Type 0 where
  pub nodes : end.nodes + length rest ≤ length text
  pub literals : end.literals + length rest ≤ length text

-- the same with the members of composite letters
pub record FitsMembers (end : WritePosition) (text rest : Text) : Type 0 where
  pub nodes : end.nodes + 7 * length rest ≤ 7 * length text
  pub literals : end.literals + 3 * length rest ≤ 3 * length text

-- if a piece is one node, or not
abbrev pub FitsIf : Bool → WritePosition → Text → Text → Type 0
FitsIf true end text rest = Fits end text rest
FitsIf false end text rest = FitsMembers end text rest

-- In front of the rest is a piece, which has no fewer bytes than it adds to the literals.
pub record IsFront (text : Text) (tree : Tree) (rest : Text) : Type 0 where
  pub front : Text
  pub whole : text ≡ front ++ rest
  pub some : 1 ≤ length front
  pub own : length (own_text tree) ≤ length front

-- Strftime.

directive_front : (text : Text) (piece : StrftimePiece) (rest : Text) → BeginsWithPiece text piece rest
    → IsFront text (piece_tree piece) rest
directive_front text piece rest begins =
    let led = begins.leads no_directives rest tt refl in
    let few = items_within (directives_text led.0) (piece_tree piece ∷ []) (led.0, led.1, refl, sym led.3) in
    record {
      front = directives_text led.0;
      whole = led.2;
      some = few.nodes;
      own = omega (arith, few.literals, length-append (own_text (piece_tree piece)) []);
    }

-- what a piece adds with its members
record IsMembersFront (text : Text) (tree : Tree) (rest : Text) : Type 0 where
  front : Text
  whole : text ≡ front ++ rest
  nodes : length (walked tree) ≤ 7 * length front
  literals : length (literals_of (walked tree)) ≤ 3 * length front

members_front : (text : Text) (piece : StrftimePiece) (rest : Text) → BeginsWithPiece text piece rest
    → IsMembersFront text (piece_tree piece) rest
members_front text piece rest begins =
    let led = begins.leads no_directives rest tt refl in
    let few = strftime_within (directives_text led.0) (piece_tree piece ∷ []) (led.0, led.1, refl, sym led.3) in
    record {
      front = directives_text led.0;
      whole = led.2;
      nodes = omega (arith, few.nodes, walked_length (piece_tree piece));
      literals = omega (arith, few.literals, walked_bytes (piece_tree piece));
    }

pub fits_more : (one : Bool) (text rest after : Text) (piece : StrftimePiece) (at : WritePosition) (w : Written)
    (ns ms : List RawNode) (a b : Text) → BeginsWithPiece rest piece after
    → PieceIsWritten one piece at ns ms a b w → FitsIf one at text rest → FitsIf one w.end text after
fits_more false text rest after piece at w ns ms a b begins is fits =
    let f = members_front rest piece after begins in
    let cut = length-append f.front after in
    record {
      nodes = omega (arith, fits.nodes, is.within.node_at, f.nodes, ap length f.whole, cut);
      literals = omega (arith, fits.literals, is.within.literal_at, f.literals, ap length f.whole, cut);
    }
fits_more true text rest after piece at w ns ms a b begins is fits =
    let f = directive_front rest piece after begins in
    let own = length-append (own_text (piece_tree piece)) [] in
    let cut = length-append f.front after in
    record {
      nodes = omega (arith, fits.nodes, is.within.node_at, f.some, ap length f.whole, cut);
      literals = omega (arith, fits.literals, is.within.literal_at, f.own, own, ap length f.whole, cut);
    }

-- A `usize` counts the position after each piece.
pub none_past : (one : Bool) (text rest after : Text) (piece : StrftimePiece) (at : WritePosition) → length text < 2 ^ 64
    → IsCounted one (length text) → BeginsWithPiece rest piece after → FitsIf one at text rest
    → PieceIsPast one piece at → ⊥
none_past false text rest after piece at small counted begins fits past =
    let f = members_front rest piece after begins in
    let cut = length-append f.front after in
    elim past [
      | inl many ↦ omega (arith, counted, fits.nodes, many, f.nodes, ap length f.whole, cut)
      | inr many ↦ omega (arith, counted, fits.literals, many, f.literals, ap length f.whole, cut)
    ]
none_past true text rest after piece at small counted begins fits past =
    let f = directive_front rest piece after begins in
    let own = length-append (own_text (piece_tree piece)) [] in
    let cut = length-append f.front after in
    elim past [
      | inl many ↦ omega (arith, small, fits.nodes, many, f.some, ap length f.whole, cut)
      | inr many ↦ omega (arith, small, fits.literals, many, own, f.own, ap length f.whole, cut)
    ]

-- Versions 1 and 2.

own_bytes : (t : Tree) → length (own_text t) ≤ bytes_in t
own_bytes (component c) = omega arith
own_bytes (literal bytes) = omega arith
own_bytes (compound ts) = omega arith
own_bytes (optional format t) = omega arith
own_bytes (first ts) = omega arith

some_byte : (text front rest : Text) → text ≡ front ++ rest → length rest < length text → 1 ≤ length front
some_byte text front rest e less = omega (arith, ap length e, length-append front rest, less)

piece_front : (v : DescriptionVersion) (limit : ℕ) (text : Text) (tree : Tree) (rest : Text)
    → Leads v limit 0 text tree rest → length rest < length text → IsFront text tree rest
piece_front v limit text tree rest leads less =
    let led = leads no_pieces rest tt refl in
    let few = spelled_within v limit (spelling led.0) (tree ∷ []) (led.0, led.1, refl, sym led.3) in
    record {
      front = spelling led.0;
      whole = led.2;
      some = some_byte text (spelling led.0) rest led.2 less;
      own = omega (arith, few.literals, own_bytes tree);
    }

pub leaf_fits : (v : DescriptionVersion) (limit : ℕ) (text rest after : Text) (piece : Piece) (tree : Tree)
    (at : WritePosition) (w : Written) (ns ms : List RawNode) (a b : Text) → Leads v limit 0 rest tree after
    → length after < length rest → IsLeafTree piece tree
    → IsWritten (walked tree) (reserve tree) at ns ms a b w → Fits at text rest → Fits w.end text after
leaf_fits v limit text rest after (pieces.Literal bytes) tree at w ns ms a b leads less leaf is fits =
    by (subst (λ t. IsFront rest t after) leaf (piece_front v limit rest tree after leads less))
    (subst (λ t. IsWritten (walked t) (reserve t) at ns ms a b w) leaf is)
  where
    by : IsFront rest (literal bytes.now) after
        → IsWritten (walked (literal bytes.now)) (reserve (literal bytes.now)) at ns ms a b w → Fits w.end text after
    by f is = record {
      nodes = omega (arith, fits.nodes, is.within.node_at, f.some, ap length f.whole, length-append f.front after);
      literals = omega (
        arith,
        fits.literals,
        is.within.literal_at,
        f.own,
        length-append bytes.now [],
        ap length f.whole,
        length-append f.front after,
      );
    }
leaf_fits v limit text rest after (pieces.Component c count) tree at w ns ms a b leads less leaf is fits =
    by (piece_front v limit rest tree after leads less)
    (subst (λ t. IsWritten (walked t) (reserve t) at ns ms a b w) leaf is)
  where
    by : IsFront rest tree after
        → IsWritten (walked (component c)) (reserve (component c)) at ns ms a b w → Fits w.end text after
    by f is = record {
      nodes = omega (arith, fits.nodes, is.within.node_at, f.some, ap length f.whole, length-append f.front after);
      literals = omega (arith, fits.literals, is.within.literal_at, ap length f.whole, length-append f.front after);
    }
leaf_fits v limit text rest after pieces.Compound tree at w ns ms a b leads less leaf is fits = absurd leaf

pub leaf_counted : (v : DescriptionVersion) (limit : ℕ) (text rest after : Text) (piece : Piece) (tree : Tree)
    (at : WritePosition) → length text < 2 ^ 64 → Leads v limit 0 rest tree after → length after < length rest
    → IsLeafTree piece tree → Fits at text rest → IsPast (walked tree) at → ⊥
leaf_counted v limit text rest after (pieces.Literal bytes) tree at small leads less leaf fits past =
    by (subst (λ t. IsFront rest t after) leaf (piece_front v limit rest tree after leads less))
    (subst (λ t. IsPast (walked t) at) leaf past)
  where
    by : IsFront rest (literal bytes.now) after → IsPast (walked (literal bytes.now)) at → ⊥
    by f (inl many) = omega (arith, small, fits.nodes, many, f.some, ap length f.whole, length-append f.front after)
    by f (inr many) = omega (
      arith,
      small,
      fits.literals,
      many,
      f.own,
      length-append bytes.now [],
      ap length f.whole,
      length-append f.front after,
    )
leaf_counted v limit text rest after (pieces.Component c count) tree at small leads less leaf fits past =
    by (piece_front v limit rest tree after leads less) (subst (λ t. IsPast (walked t) at) leaf past)
  where
    by : IsFront rest tree after → IsPast (walked (component c)) at → ⊥
    by f (inl many) = omega (arith, small, fits.nodes, many, f.some, ap length f.whole, length-append f.front after)
    by f (inr many) = omega (arith, small, fits.literals, many, f.some, ap length f.whole, length-append f.front after)
leaf_counted v limit text rest after pieces.Compound tree at small leads less leaf fits past = absurd leaf

-- What doesn't run out of memory is refused for its fault.

is_refusal : (r : BorrowedParseError) (f : Fault) → IsBorrowed f r → IsRefusal r
is_refusal (reported.Invalid x) f is = tt
is_refusal (reported.Memory x) f is = is

pub refuses : (text : Text) (e : ReadError) (r : BorrowedParseError) → MemoryOr (IsStrftimeFaultIn text) e
    → IsInvalid e → ((f : Fault) → StrftimeFaultOf text f → IsBorrowed f r) → IsRefusal r
refuses text errors.Memory r has invalid borrowed = absurd invalid
refuses text (errors.Invalid f) r has invalid borrowed =
    is_refusal r (raised (ill_fault has.1) (length (directives_text has.0)))
    (borrowed (raised (ill_fault has.1) (length (directives_text has.0)))
    (has.0, has.1, has.2, has.3, has.4, refl))

pub refuses_version : (v : DescriptionVersion) (limit : ℕ) (text : Text) (e : ReadError) (r : BorrowedParseError)
    → MemoryOr (IsFaultIn v limit 0 text) e → IsInvalid e → ((f : Fault) → FaultOf v limit text f → IsBorrowed f r)
    → IsRefusal r
refuses_version v limit text errors.Memory r has invalid borrowed = absurd invalid
refuses_version v limit text (errors.Invalid f) r has invalid borrowed =
    is_refusal r (raised (broken_fault has.1) (length (spelling has.0)))
    (borrowed (raised (broken_fault has.1) (length (spelling has.0)))
    (has.0, has.1, has.2, has.3, has.4, refl))
