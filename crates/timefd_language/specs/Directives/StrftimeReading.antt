-- How what is read of a text of strftime relates to its grammar.
use Rattle.std.specs.Prelude.{ℕ, ◌≡◌, ◌<◌, List, [], ◌∷◌, ◌++◌, length, Option, Result, MatchResult, IsTrue, ⊤}
use Rattle.std.specs.Borrow.{Bor}
use Rattle.std.specs.Str.{IsUtf8}
use Rattle.timefd_modifier.specs.declared.enums.Padding.{Padding}
use Rattle.timefd_lang_component.specs.Tree.{Text, Tree}
use Rattle.timefd_language.specs.declared.strftime.piece.StrftimePiece.{StrftimePiece}
use Rattle.timefd_language.specs.declared.strftime.text.PieceStart.{PieceStart}
use Rattle.timefd_language.specs.declared.strftime.text.PieceStart.TheVariants.{End, Directive, Literal}
use Rattle.timefd_lang_fault.specs.declared.read_error.Fault.{Fault}
use Rattle.timefd_language.specs.Bytes.{StopsBefore}
use Rattle.timefd_language.specs.Letters.{Flag, unflagged, flagged}
use Rattle.timefd_language.specs.Directives.LetterMeaning.{flag_padding}
use Rattle.timefd_language.specs.Directives.PieceMeaning.{piece_tree}
use Rattle.timefd_lang_fault.specs.ReadErrors.{IsFault}
use Rattle.timefd_language.specs.Spans.{SpansStrftime}
use Rattle.timefd_language.specs.Strftime.{percent, is_flag, is_plain, flag_text, IsFlag, Directives, AreDirectives, directives_text, directive_items, SpellsStrftime, IllDirective, ill_text, ill_fault, IsIll}

-- Steps.

abbrev pub BeginsPiece : PieceStart → Text → Type 0
BeginsPiece End text = text ≡ []
BeginsPiece (Directive rest) text = text ≡ percent ∷ rest.now
BeginsPiece Literal text = (b : ℕ) × (rest : Text) × (text ≡ b ∷ rest) × IsTrue (is_plain b)

-- a `_`, `-` or `0` that comes first is the flag
abbrev pub MayFollow : Flag → Text → Type 0
MayFollow unflagged rest = StopsBefore is_flag rest
MayFollow (flagged b) rest = ⊤

-- the text is a flag, which asks for this padding, and the rest
abbrev pub BeginsWithFlag : Text → Option Padding → Text → Type 0
BeginsWithFlag text padding rest =
    (f : Flag) × IsFlag f × (flag_padding f ≡ padding) × (text ≡ flag_text f ++ rest)
    × MayFollow f rest

-- less of the text is left
pub record IsRestOf (text rest : Text) : Type 0 where
  pub shorter : length rest < length text
  pub utf8 : IsUtf8 rest

-- Pieces.

-- The text is a piece, which is this tree, and the rest: what the rest begins with, the text has
-- after that piece.
abbrev pub Leads : Text → Tree → Text → Type 0
Leads text tree rest =
    (front : Directives) (tail : Text) → AreDirectives front → rest ≡ directives_text front ++ tail
    → (whole : Directives) × AreDirectives whole × (text ≡ directives_text whole ++ tail)
    × (directive_items whole ≡ tree ∷ directive_items front)

-- the text begins with a piece, which ends where the rest begins
pub record LeadsTo (text rest : Text) : Type 0 where
  pub tree : Tree
  pub leads : Leads text tree rest
  pub left : IsRestOf text rest

-- the text spells this many items
abbrev pub HasItems : Text → ℕ → Type 0
HasItems text n = (list : List Tree) × SpellsStrftime text list × (n ≡ length list)

-- Faults.

-- the text begins with something that isn't a directive, and this is its fault
abbrev pub IsStrftimeFaultAt : Text → Fault → Type 0
IsStrftimeFaultAt text f = (ill : IllDirective) × IsIll ill × (text ≡ ill_text ill)
    × IsFault (length text) f (ill_fault ill) × SpansStrftime text f

-- the text begins with the piece, and the rest follows it
pub record BeginsWithPiece (text : Text) (piece : StrftimePiece) (rest : Text) : Type 0 where
  pub leads : Leads text (piece_tree piece) rest
  pub left : IsRestOf text rest

-- a directive and the rest, or a fault
abbrev pub ReadsDirective : Text → Result (StrftimePiece × Bor (List ℕ)) Fault → Type 0
ReadsDirective text r = MatchResult r (λ x. BeginsWithPiece text x.0 x.1.now)
    (IsStrftimeFaultAt text)

-- pieces, and then something that isn't a directive, with its fault
abbrev pub IsStrftimeFaultIn : Text → Fault → Type 0
IsStrftimeFaultIn text f =
    (front : Directives) × (ill : IllDirective) × AreDirectives front × IsIll ill
    × (text ≡ directives_text front ++ ill_text ill)
    × IsFault (length (ill_text ill)) f (ill_fault ill) × SpansStrftime text f
