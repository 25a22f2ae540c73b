-- Rules about brackets that go wrong before they are closed, and about where a fault is reported.
use Rattle.std.specs.Prelude.{ℕ, suc, ◌≡◌, ◌≢◌, ◌+◌, ◌<◌, [], ◌∷◌, ◌++◌, length}
use Rattle.timefd_lang_component.specs.Tree.{Text}
use Rattle.timefd_lang_fault.specs.Faults.{Kind, Fault, fault, unclosed_bracket, missing_name, invalid_modifier}
use Rattle.timefd_language.specs.declared.description_version.DescriptionVersion.{DescriptionVersion}
use Rattle.timefd_language.specs.Bytes.{left, right, colon, is_white, is_word_byte, is_key_byte, ZeroOrMore, OneOrMore, StopsBefore}
use Rattle.timefd_language.specs.Fault.{raised}
use Rattle.timefd_lang_fault.specs.Words.{too_highly_nested}
use Rattle.timefd_language.specs.Head.{Head, IsHead, head_text}
use Rattle.timefd_language.specs.Grammar.{Pieces, Nested, spelling, nested_text, ArePieces, AreNested}
use Rattle.timefd_language.specs.Broken.{BeginsNoEscape, IsWholeBefore, is_bracket_byte, Bad, FaultOf}
use Rattle.timefd_laws.specs.Heads.{IsRefused}

-- A bracket up to its last nested description, and white bytes after that.
abbrev pub IsBegun : DescriptionVersion → ℕ → ℕ → Head → Nested → Text → Type 0
IsBegun v limit n h ns white = IsHead h × AreNested v limit n ns × ZeroOrMore is_white white

abbrev pub begun_text : Head → Nested → Text → Text
begun_text h ns white = head_text h ++ nested_text ns ++ white

-- A bracket without a name is reported at the bracket.
abbrev pub NameWanted : Type 0
NameWanted = (v : DescriptionVersion) (limit n : ℕ) (rest : Text) → StopsBefore is_white rest
    → StopsBefore is_word_byte rest → BeginsNoEscape v rest
    → Bad v limit n (left ∷ rest) (fault missing_name 0)

-- If there are white bytes in it, that is reported one byte further on.
abbrev pub NameWantedAfterWhite : Type 0
NameWantedAfterWhite = (v : DescriptionVersion) (limit n : ℕ) (white rest : Text)
    → OneOrMore is_white white → StopsBefore is_white rest → StopsBefore is_word_byte rest
    → BeginsNoEscape v (white ++ rest)
    → Bad v limit n (left ∷ white ++ rest) (fault missing_name 1)

-- The word of a modifier without a colon is reported whole.
abbrev pub ColonWanted : Type 0
ColonWanted = (v : DescriptionVersion) (limit n : ℕ) (h : Head) (white word rest : Text)
    → IsHead h → OneOrMore is_white white → OneOrMore is_key_byte word
    → StopsBefore is_word_byte rest
    → Bad v limit n (head_text h ++ white ++ word ++ rest)
    (fault (invalid_modifier word) (length (head_text h ++ white)))

-- An empty key is reported as the empty word, where the word begins.
abbrev pub KeyWanted : Type 0
KeyWanted = (v : DescriptionVersion) (limit n : ℕ) (h : Head) (white value rest : Text)
    → IsHead h → OneOrMore is_white white → ZeroOrMore is_word_byte value
    → StopsBefore is_word_byte rest
    → Bad v limit n (head_text h ++ white ++ colon ∷ value ++ rest)
    (fault (invalid_modifier []) (length (head_text h ++ white)))

-- An empty value is reported as the empty word, at the colon.
abbrev pub ValueWanted : Type 0
ValueWanted = (v : DescriptionVersion) (limit n : ℕ) (h : Head) (white key rest : Text)
    → IsHead h → OneOrMore is_white white → OneOrMore is_key_byte key
    → StopsBefore is_word_byte rest
    → Bad v limit n (head_text h ++ white ++ (key ++ colon ∷ []) ++ rest)
    (fault (invalid_modifier []) (length (head_text h ++ white) + length key))

-- A bracket where neither `[` nor `]` follows is reported as unclosed.
abbrev pub Unclosed : Type 0
Unclosed = (v : DescriptionVersion) (limit n : ℕ) (h : Head) (ns : Nested) (white rest : Text)
    → IsBegun v limit n h ns white → StopsBefore is_white rest
    → StopsBefore is_bracket_byte rest → IsWholeBefore ns rest
    → Bad v limit n (begun_text h ns white ++ rest) (fault unclosed_bracket 0)

-- A description that is nested deeper than the limit is reported at its `[`, whatever it holds.
abbrev pub TooDeep : Type 0
TooDeep = (v : DescriptionVersion) (limit : ℕ) (h : Head) (ns : Nested) (white rest : Text)
    → IsBegun v limit limit h ns white
    → Bad v limit limit (begun_text h ns white ++ left ∷ rest)
    (fault too_highly_nested (length (begun_text h ns white)))

-- A bracket whose nested description is cut off by the end of the text is reported as unclosed.
abbrev pub CutOff : Type 0
CutOff = (v : DescriptionVersion) (limit n : ℕ) (h : Head) (ns : Nested) (white : Text)
    (front : Pieces) → IsBegun v limit n h ns white → n < limit → ArePieces v limit (suc n) front
    → Bad v limit n (begun_text h ns white ++ left ∷ spelling front) (fault unclosed_bracket 0)

-- A fault in a nested description is reported at its own position, before anything that is wrong with
-- the bracket itself.
abbrev pub FaultInside : Type 0
FaultInside = (v : DescriptionVersion) (limit n : ℕ) (h : Head) (ns : Nested) (white : Text)
    (front : Pieces) (inner : Text) (f : Fault) → IsBegun v limit n h ns white → n < limit
    → ArePieces v limit (suc n) front → Bad v limit (suc n) inner f → f.kind ≢ unclosed_bracket
    → Bad v limit n (begun_text h ns white ++ left ∷ spelling front ++ inner)
    (raised f (length (begun_text h ns white ++ left ∷ spelling front)))

-- An unclosed bracket in a nested description is reported at the bracket around it.
abbrev pub UnclosedInside : Type 0
UnclosedInside = (v : DescriptionVersion) (limit n : ℕ) (h : Head) (ns : Nested) (white : Text)
    (front : Pieces) (inner : Text) (index : ℕ) → IsBegun v limit n h ns white → n < limit
    → ArePieces v limit (suc n) front → Bad v limit (suc n) inner (fault unclosed_bracket index)
    → Bad v limit n (begun_text h ns white ++ left ∷ spelling front ++ inner)
    (fault unclosed_bracket 0)

-- A closed bracket has the fault of the first rule that it breaks.
abbrev pub RefusedBracket : Type 0
RefusedBracket = (v : DescriptionVersion) (limit n : ℕ) (h : Head) (ns : Nested)
    (white rest : Text) (kind : Kind) (index : ℕ) → IsBegun v limit n h ns white
    → IsRefused v h ns white kind index
    → Bad v limit n (begun_text h ns white ++ right ∷ rest) (fault kind index)

-- The fault of what follows pieces is the fault of the text, shifted by the length of the pieces.
abbrev pub FaultAfterPieces : Type 0
FaultAfterPieces = (v : DescriptionVersion) (limit : ℕ) (front : Pieces) (text : Text) (f : Fault)
    → ArePieces v limit 0 front → Bad v limit 0 text f
    → FaultOf v limit (spelling front ++ text) (raised f (length (spelling front)))

-- An unclosed bracket is reported at the outermost one: right after pieces that are outside of all
-- nested descriptions.
abbrev pub OutermostUnclosed : Type 0
OutermostUnclosed = (v : DescriptionVersion) (limit : ℕ) (text : Text) (f : Fault)
    → FaultOf v limit text f → f.kind ≡ unclosed_bracket
    → (front : Pieces) × (rest : Text) × ArePieces v limit 0 front
    × (text ≡ spelling front ++ left ∷ rest) × (f.index ≡ length (spelling front))
