-- Rules about strftime.
use Rattle.std.specs.Prelude.{ℕ, ◌≡◌, ◌≢◌, ◌+◌, codes, [], ◌∷◌, ◌++◌, length, Some, IsTrue, IsFalse}
use Rattle.timefd_lang_component.specs.Tree.{Text, Tree, literal}
use Rattle.timefd_lang_fault.specs.Faults.{fault, not_supported, invalid_name}
use Rattle.timefd_language.specs.Bytes.{OneOrMore}
use Rattle.timefd_language.specs.Distinct.{letters_in}
use Rattle.timefd_language.specs.Fault.{raised}
use Rattle.timefd_lang_fault.specs.Words.{expected_escape}
use Rattle.timefd_language.specs.Letters.{Flag, letters, is_one_of, item_of}
use Rattle.timefd_language.specs.Strftime.{percent, is_flag, is_plain, flag_text, name_of, Directives, directives_text, AreDirectives, IsFlag, IsAfter, SpellsStrftime, StrftimeFaultOf}

-- A run means the literal of its bytes.
abbrev pub PlainIsLiteral : Type 0
PlainIsLiteral = (bytes : Text) → OneOrMore is_plain bytes
    → SpellsStrftime bytes (literal bytes ∷ [])

-- A `%`, a flag and a letter of the table mean the letter's item.
abbrev pub LetterIsItem : Type 0
LetterIsItem = (f : Flag) (b : ℕ) (tree : Tree) → IsFlag f → IsAfter f b
    → item_of f b ≡ Some tree
    → SpellsStrftime (percent ∷ flag_text f ++ b ∷ []) (tree ∷ [])

-- The fault of what follows directives is shifted by the length of the directives.

-- A `%` at the end is reported at the `%`.
abbrev pub LetterWanted : Type 0
LetterWanted = (front : Directives) → AreDirectives front
    → StrftimeFaultOf (directives_text front ++ percent ∷ [])
    (raised (fault expected_escape 0) (length (directives_text front)))

-- A `%` and a flag at the end are reported one byte after the flag.
abbrev pub LetterWantedAfterFlag : Type 0
LetterWantedAfterFlag = (front : Directives) (b : ℕ) → AreDirectives front → IsTrue (is_flag b)
    → StrftimeFaultOf (directives_text front ++ percent ∷ b ∷ [])
    (raised (fault expected_escape 2) (length (directives_text front)))

-- The modifier `O` and the letter `Z` are reported at their own position, as not supported.
abbrev pub ModifierO : Type 0
ModifierO = (front : Directives) (f : Flag) (rest : Text) → AreDirectives front → IsFlag f
    → StrftimeFaultOf (directives_text front ++ percent ∷ (flag_text f ++ 79 ∷ rest))
    (raised (fault (not_supported (codes "modifier") []) (1 + length (flag_text f)))
    (length (directives_text front)))

abbrev pub LetterZ : Type 0
LetterZ = (front : Directives) (f : Flag) (rest : Text) → AreDirectives front → IsFlag f
    → StrftimeFaultOf (directives_text front ++ percent ∷ (flag_text f ++ 90 ∷ rest))
    (raised (fault (not_supported (codes "component") []) (1 + length (flag_text f)))
    (length (directives_text front)))

-- Any other byte that isn't a letter of the table is reported as the unknown name of a component, at
-- that byte. A byte is a flag only directly after the `%`.
abbrev pub UnknownLetter : Type 0
UnknownLetter = (front : Directives) (f : Flag) (b : ℕ) (rest : Text) → AreDirectives front
    → IsFlag f → IsAfter f b → IsFalse (is_one_of b (letters_in letters)) → b ≢ 79 → b ≢ 90
    → StrftimeFaultOf (directives_text front ++ percent ∷ (flag_text f ++ b ∷ rest))
    (raised (fault (invalid_name (name_of b)) (1 + length (flag_text f)))
    (length (directives_text front)))
