-- The texts of strftime.
use Rattle.std.specs.Prelude.{ℕ, ◌≡◌, ◌+◌, Bool, not, ◌==◌, ◌||◌, nat_lt, if◌then◌else◌, List, [], ◌∷◌, ◌++◌, length, Some, None, IsTrue, IsFalse, ⊤}
use Rattle.timefd_lang_component.specs.Tree.{Text, Tree, literal}
use Rattle.timefd_lang_fault.specs.Faults.{Kind, Fault, fault, invalid_name}
use Rattle.timefd_lang_fault.specs.Words.{unsupported_flag, unsupported_letter}
use Rattle.timefd_language.specs.Bytes.{OneOrMore}
use Rattle.timefd_language.specs.Fault.{raised}
use Rattle.timefd_lang_fault.specs.Words.{expected_escape}
use Rattle.timefd_language.specs.Letters.{Flag, unflagged, flagged, item_of}

abbrev pub percent : ℕ
percent = 37

abbrev pub is_flag : ℕ → Bool
is_flag b = (b == 95) || (b == 45) || (b == 48)

-- bytes outside of directives
abbrev pub is_plain : ℕ → Bool
is_plain b = not (b == percent)

abbrev pub flag_text : Flag → Text
flag_text unflagged = []
flag_text (flagged b) = b ∷ []

abbrev pub IsFlag : Flag → Type 0
IsFlag unflagged = ⊤
IsFlag (flagged b) = IsTrue (is_flag b)

-- Pieces.

-- a piece is a run of bytes other than `%`, or a directive: `%`, a flag and a letter
pub data Directives : Type 0 where
  no_directives : Directives
  plain : Text → Directives → Directives
  directive : Flag → ℕ → Tree → Directives → Directives

abbrev pub directives_text : Directives → Text
directives_text no_directives = []
directives_text (plain bytes rest) = bytes ++ directives_text rest
directives_text (directive f b tree rest) = percent ∷ (flag_text f ++ b ∷ directives_text rest)

abbrev pub directive_items : Directives → List Tree
directive_items no_directives = []
directive_items (plain bytes rest) = literal bytes ∷ directive_items rest
directive_items (directive f b tree rest) = tree ∷ directive_items rest

abbrev pub BeginsNoPlain : Directives → Type 0
BeginsNoPlain no_directives = ⊤
BeginsNoPlain (plain bytes rest) = ⊥
BeginsNoPlain (directive f b tree rest) = ⊤

-- a `_`, `-` or `0` after `%` is the flag
abbrev pub IsAfter : Flag → ℕ → Type 0
IsAfter unflagged b = IsFalse (is_flag b)
IsAfter (flagged c) b = ⊤

abbrev pub AreDirectives : Directives → Type 0
AreDirectives no_directives = ⊤
AreDirectives (plain bytes rest) = OneOrMore is_plain bytes × BeginsNoPlain rest
    × AreDirectives rest
AreDirectives (directive f b tree rest) = IsFlag f × IsAfter f b × (item_of f b ≡ Some tree)
    × AreDirectives rest

abbrev pub SpellsStrftime : Text → List Tree → Type 0
SpellsStrftime bytes list = (ds : Directives) × AreDirectives ds × (bytes ≡ directives_text ds)
    × (list ≡ directive_items ds)

-- A directive that the end of the text cuts off, or one with another byte instead of a letter.
pub data IllDirective : Type 0 where
  cut_short : Flag → IllDirective
  unknown : Flag → ℕ → Text → IllDirective

abbrev pub ill_text : IllDirective → Text
ill_text (cut_short f) = percent ∷ flag_text f
ill_text (unknown f b rest) = percent ∷ (flag_text f ++ b ∷ rest)

abbrev pub cut_index : Flag → ℕ
cut_index unflagged = 0
cut_index (flagged b) = 2

-- the byte, or the replacement character if it isn't ASCII
abbrev pub name_of : ℕ → Text
name_of b = if nat_lt b 128 then b ∷ [] else 0xef ∷ 0xbf ∷ 0xbd ∷ []

abbrev pub unknown_kind : ℕ → Kind
unknown_kind b =
    if b == 79 then unsupported_flag
    else if b == 90 then unsupported_letter
    else invalid_name (name_of b)

abbrev pub ill_fault : IllDirective → Fault
ill_fault (cut_short f) = fault expected_escape (cut_index f)
ill_fault (unknown f b rest) = fault (unknown_kind b) (1 + length (flag_text f))

abbrev pub IsIll : IllDirective → Type 0
IsIll (cut_short f) = IsFlag f
IsIll (unknown f b rest) = IsFlag f × IsAfter f b × (item_of f b ≡ None)

abbrev pub StrftimeFaultOf : Text → Fault → Type 0
StrftimeFaultOf bytes f =
    (front : Directives) × (ill : IllDirective) × AreDirectives front × IsIll ill
    × (bytes ≡ directives_text front ++ ill_text ill)
    × (f ≡ raised (ill_fault ill) (length (directives_text front)))
