-- The pieces that a text begins with.
use Rattle.std.proofs.Common.{◌≡◌, ◌∙◌, Bool, List, [], ◌∷◌, ◌++◌, inl, inr, refl, subst, sym}
use Rattle.std.specs.Borrow.{Bor}
use Rattle.std.proofs.lemmas.List.{append_cancel_right}
use Rattle.timefd_parse.specs.Tree.{Text, Tree}
use Rattle.timefd_lang_fault.specs.declared.read_error.Fault as code_fault
use Rattle.timefd_lang_fault.specs.declared.read_error.ReadError.{ReadError}
use Rattle.timefd_lang_fault.specs.declared.read_error.ReadError.TheVariants as errors
use Rattle.timefd_lang_fault.specs.ReadErrors.{IsInvalid, MemoryOr}
use Rattle.timefd_language.specs.FaultMeaning.{IsFaultAt}
use Rattle.timefd_language.specs.Grammar.{items, nesting_limit, no_pieces, spelling}
use Rattle.timefd_language.specs.Strftime.{directive_items, directives_text, no_directives}
use Rattle.timefd_language.specs.Directives.PieceMeaning.{piece_tree}
use Rattle.timefd_language.specs.Directives.StrftimeReading as strftime
use Rattle.timefd_language.specs.declared.description_version.DescriptionVersion.{DescriptionVersion}
use Rattle.timefd_language.specs.declared.description_version.Language.{Language}
use Rattle.timefd_language.specs.declared.description_version.Language.TheVariants.{Version, Strftime}
use Rattle.timefd_language.specs.declared.strftime.piece.StrftimePiece.{StrftimePiece}
use Rattle.timefd_language.proofs.DirectiveLemmas.DirectiveLemmas as directives
use Rattle.timefd_lint_lsp.specs.Editor.GoodFronts.{BeginsNoPiece, IsGoodFront}
use Rattle.timefd_parse.proofs.ReadLemmas as pieces
use Rattle.timefd_parse.specs.FirstPiece.{EndsWith, IsAfterFirst}
use Rattle.timefd_parse.specs.Language.{SpellsIn}
use Rattle.timefd_parse.specs.Read.{BeginsWithPiece, IsEnd}
use Rattle.timefd_parse.specs.declared.piece.Piece.{Piece}

-- The text is pieces, which mean these trees, and the rest.
abbrev pub Continues : Language → Text → List Tree → Text → Type 0
Continues (Version v) text done rest = pieces.Continues v nesting_limit 0 text done rest
Continues Strftime text done rest = directives.Continues text done rest

abbrev pub Reaches : Language → Text → Text → Type 0
Reaches language text rest = (done : List Tree) × Continues language text done rest

pub reaches_first : (language : Language) (text : Text) → Reaches language text text
reaches_first (Version v) text = ([], pieces.continues_first v nesting_limit 0 text)
reaches_first Strftime text = ([], directives.continues_first text)

pub reaches_more : (language : Language) (text rest after : Text) → Reaches language text rest
    → IsAfterFirst language rest after → Reaches language text after
reaches_more (Version v) text rest after (done, before) is = (
  done ++ is.tree ∷ [],
  pieces.continues_more v nesting_limit 0 text done rest after is.tree before is.leads,
)
reaches_more Strftime text rest after (done, before) is = (
  done ++ is.tree ∷ [],
  directives.continues_more text rest after done is.tree before is.leads,
)

-- What precedes the rest spells the trees.
spelled : (language : Language) (text rest : Text) → Reaches language text rest
    → (front : Text) × (list : List Tree) × (text ≡ front ++ rest) × SpellsIn language nesting_limit front list
spelled (Version v) text rest (done, before) =
    let w = before no_pieces rest tt refl in (spelling w.0, items w.0, w.2, (w.0, w.1, refl, refl))
spelled Strftime text rest (done, before) =
    let w = before no_directives rest tt refl in (directives_text w.0, directive_items w.0, w.2, (w.0, w.1, refl, refl))

pub ends_with : (language : Language) (text rest : Text) → Reaches language text rest → EndsWith text rest
ends_with language text rest reached = let w = spelled language text rest reached in (w.0, w.2)

pub good_front : (language : Language) (text front rest : Text) → Reaches language text rest
    → BeginsNoPiece language rest → front ++ rest ≡ text → IsGoodFront language text front
good_front language text front rest reached stops joined =
    let w = spelled language text rest reached in record {
      rest = rest;
      whole = sym joined;
      list = w.1;
      spelled = subst (λ t. SpellsIn language nesting_limit t w.1)
          (append_cancel_right w.0 front rest (sym w.2 ∙ sym joined)) w.3;
      stops = stops;
    }

-- One piece.

pub at_end : (v : DescriptionVersion) (text : Text) → IsEnd 0 text → BeginsNoPiece (Version v) text
at_end v text end = inl (pieces.end_outside text end)

pub first_of_version : (v : DescriptionVersion) (builds : Bool) (text : Text) (old new : List Tree)
    (x : Piece × Bor Text) → BeginsWithPiece v builds nesting_limit 0 text old new x
    → IsAfterFirst (Version v) text x.1.now
first_of_version v builds text old new x is = record {
  tree = is.0;
  leads = is.1.leads;
  shorter = is.1.shorter;
  utf8 = is.1.utf8;
}

pub broken : (v : DescriptionVersion) (text : Text) (e : ReadError) → MemoryOr (IsFaultAt v nesting_limit 0 text) e
    → IsInvalid e → BeginsNoPiece (Version v) text
broken v text (errors.Invalid f) bad is = inr (bad.0, bad.1, bad.2)
broken v text errors.Memory bad is = absurd is

pub first_of_strftime : (text : Text) (piece : StrftimePiece) (rest : Text) → strftime.BeginsWithPiece text piece rest
    → IsAfterFirst Strftime text rest
first_of_strftime text piece rest is = record {
  tree = piece_tree piece;
  leads = is.leads;
  shorter = is.left.shorter;
  utf8 = is.left.utf8;
}

pub ill : (text : Text) (f : code_fault.Fault) → strftime.IsStrftimeFaultAt text f → BeginsNoPiece Strftime text
ill text f bad = inr (bad.0, bad.1, bad.2)
