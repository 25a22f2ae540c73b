-- The texts that don't begin with a piece, and the fault of each.
use Rattle.std.specs.Prelude.{ℕ, suc, ◌≡◌, ◌+◌, ◌<◌, Bool, [], ◌∷◌, ◌++◌, length, Err, IsTrue, IsFalse, ⊤, ◌==◌, ◌||◌}
use Rattle.timefd_language.specs.declared.description_version.DescriptionVersion.{DescriptionVersion}
use Rattle.timefd_language.specs.declared.description_version.DescriptionVersion.TheVariants.{One, Two, Three}
use Rattle.timefd_lang_component.specs.Tree.{Text}
use Rattle.timefd_language.specs.Bytes.{left, backslash, right, colon, is_white, is_special, is_word_byte, is_key_byte, is_version_one, is_version_three, ZeroOrMore, OneOrMore, StopsBefore}
use Rattle.timefd_lang_fault.specs.Faults.{Fault, fault, unclosed_bracket, missing_name, invalid_modifier}
use Rattle.timefd_language.specs.Fault.{raised, enclosed}
use Rattle.timefd_lang_fault.specs.Words.{expected_escape, expected_closing_escape, too_highly_nested}
use Rattle.timefd_language.specs.Head.{Head, IsHead, head_text}
use Rattle.timefd_language.specs.Grammar.{Pieces, Nested, no_nested, nested, spelling, nested_text, ArePieces, AreNested, bracket_verdict}

-- a word that isn't a modifier: it has no colon, nothing before its first colon, or nothing after it
pub data Misfit : Type 0 where
  no_colon : Text → Misfit
  no_key : Text → Misfit
  no_value : Text → Misfit

abbrev pub misfit_text : Misfit → Text
misfit_text (no_colon word) = word
misfit_text (no_key value) = colon ∷ value
misfit_text (no_value key) = key ++ colon ∷ []

abbrev pub IsMisfit : Misfit → Type 0
IsMisfit (no_colon word) = OneOrMore is_key_byte word
IsMisfit (no_key value) = ZeroOrMore is_word_byte value
IsMisfit (no_value key) = OneOrMore is_key_byte key

-- the fault of a misfit that begins at byte k
abbrev pub misfit_fault : Misfit → ℕ → Fault
misfit_fault (no_colon word) k = fault (invalid_modifier word) k
misfit_fault (no_key value) k = fault (invalid_modifier []) k
misfit_fault (no_value key) k = fault (invalid_modifier []) (k + length key)

-- A construct that no piece begins with, and the text after it.
pub data Broken : Type 0 where
  -- `]` where it has to be escaped
  bare_closing : Text → Broken
  -- `\` before what can't be escaped
  half_escape : Text → Broken
  -- `[`, white bytes, and no name
  nameless : Text → Text → Broken
  -- a head, white bytes and a word that isn't a modifier
  ill_modified : Head → Text → Misfit → Text → Broken
  -- a head, nested descriptions, white bytes and a `[` at the limit
  too_deep : Head → Nested → Text → Text → Broken
  -- a nested description with a broken text in it
  broken_inside : Head → Nested → Text → Pieces → Broken → Broken
  -- a nested description that the end of the text cuts off
  cut_off : Head → Nested → Text → Pieces → Broken
  -- a bracket where neither `[` nor `]` follows
  unclosed : Head → Nested → Text → Text → Broken
  -- a closed bracket that breaks a rule
  refused : Head → Nested → Text → Fault → Text → Broken

-- the bytes up to the nested description that is at fault, with its `[`
abbrev pub before_inner : Head → Nested → Text → Text
before_inner h ns white = head_text h ++ nested_text ns ++ white ++ left ∷ []

abbrev pub broken_text : Broken → Text
broken_text (bare_closing rest) = right ∷ rest
broken_text (half_escape rest) = backslash ∷ rest
broken_text (nameless white rest) = left ∷ white ++ rest
broken_text (ill_modified h white word rest) = head_text h ++ white ++ misfit_text word ++ rest
broken_text (too_deep h ns white rest) = before_inner h ns white ++ rest
broken_text (broken_inside h ns white front inner) =
    before_inner h ns white ++ spelling front ++ broken_text inner
broken_text (cut_off h ns white front) = before_inner h ns white ++ spelling front
broken_text (unclosed h ns white rest) = head_text h ++ nested_text ns ++ white ++ rest
broken_text (refused h ns white f rest) = head_text h ++ nested_text ns ++ white ++ right ∷ rest

abbrev pub escape_index : Text → ℕ
escape_index [] = 0
escape_index (b ∷ rest) = 1

abbrev pub name_wanted_index : Text → ℕ
name_wanted_index [] = 0
name_wanted_index (b ∷ white) = 1

abbrev pub broken_fault : Broken → Fault
broken_fault (bare_closing rest) = fault expected_closing_escape 0
broken_fault (half_escape rest) = fault expected_escape (escape_index rest)
broken_fault (nameless white rest) = fault missing_name (name_wanted_index white)
broken_fault (ill_modified h white word rest) = misfit_fault word (length (head_text h ++ white))
broken_fault (too_deep h ns white rest) =
    fault too_highly_nested (length (head_text h ++ nested_text ns ++ white))
broken_fault (broken_inside h ns white front inner) =
    let f = broken_fault inner in
    enclosed f.kind f.index (length (before_inner h ns white ++ spelling front))
broken_fault (cut_off h ns white front) = fault unclosed_bracket 0
broken_fault (unclosed h ns white rest) = fault unclosed_bracket 0
broken_fault (refused h ns white f rest) = f

-- What follows a `[` doesn't make it an escape: in version 1 `[[` is one.
abbrev pub BeginsNoEscape : DescriptionVersion → Text → Type 0
BeginsNoEscape One bytes = StopsBefore (λ b. b == left) bytes
BeginsNoEscape Two bytes = ⊤
BeginsNoEscape Three bytes = ⊤

-- The head is complete before this rest: without nested descriptions, no word byte follows.
abbrev pub IsWholeBefore : Nested → Text → Type 0
IsWholeBefore no_nested rest = StopsBefore is_word_byte rest
IsWholeBefore (nested white ps ns) rest = ⊤

abbrev pub is_bracket_byte : ℕ → Bool
is_bracket_byte b = (b == left) || (b == right)

abbrev pub IsBroken : DescriptionVersion → ℕ → ℕ → Broken → Type 0
IsBroken v limit n (bare_closing rest) = IsTrue (is_version_three v) × (n ≡ 0)
IsBroken v limit n (half_escape rest) = IsFalse (is_version_one v) × StopsBefore is_special rest
IsBroken v limit n (nameless white rest) =
    ZeroOrMore is_white white × StopsBefore is_white rest × StopsBefore is_word_byte rest
    × BeginsNoEscape v (white ++ rest)
IsBroken v limit n (ill_modified h white word rest) =
    IsHead h × OneOrMore is_white white × IsMisfit word × StopsBefore is_word_byte rest
IsBroken v limit n (too_deep h ns white rest) =
    IsHead h × AreNested v limit n ns × ZeroOrMore is_white white × (n ≡ limit)
IsBroken v limit n (broken_inside h ns white front inner) =
    IsHead h × AreNested v limit n ns × ZeroOrMore is_white white × (n < limit)
    × ArePieces v limit (suc n) front × IsBroken v limit (suc n) inner
IsBroken v limit n (cut_off h ns white front) =
    IsHead h × AreNested v limit n ns × ZeroOrMore is_white white × (n < limit)
    × ArePieces v limit (suc n) front
IsBroken v limit n (unclosed h ns white rest) =
    IsHead h × AreNested v limit n ns × ZeroOrMore is_white white
    × StopsBefore is_white rest × StopsBefore is_bracket_byte rest × IsWholeBefore ns rest
IsBroken v limit n (refused h ns white f rest) =
    IsHead h × AreNested v limit n ns × ZeroOrMore is_white white
    × (bracket_verdict v h ns white ≡ Err f)

-- The text begins with a construct that no piece begins with, and has the fault of that construct.
abbrev pub Bad : DescriptionVersion → ℕ → ℕ → Text → Fault → Type 0
Bad v limit n text f =
    (b : Broken) × IsBroken v limit n b × (text ≡ broken_text b) × (f ≡ broken_fault b)

-- The text is pieces and then a broken text. Its fault is that of the broken text, shifted by the
-- length of the pieces.
abbrev pub FaultOf : DescriptionVersion → ℕ → Text → Fault → Type 0
FaultOf v limit text f =
    (front : Pieces) × (b : Broken) × ArePieces v limit 0 front × IsBroken v limit 0 b
    × (text ≡ spelling front ++ broken_text b)
    × (f ≡ raised (broken_fault b) (length (spelling front)))
