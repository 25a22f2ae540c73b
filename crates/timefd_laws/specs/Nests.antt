-- Rules about nested descriptions.
use Rattle.std.specs.Prelude.{◌≡◌, ◌+◌, true, List, [], ◌∷◌, ◌++◌, length, Some, None, Ok, IsFalse}
use Rattle.timefd_lang_component.specs.Tree.{Text, Tree, optional, first, trees, pack}
use Rattle.timefd_language.specs.declared.description_version.DescriptionVersion.{DescriptionVersion}
use Rattle.timefd_language.specs.declared.description_version.DescriptionVersion.TheVariants.{Three}
use Rattle.timefd_lang_fault.specs.declared.name.ComponentName.{ComponentName}
use Rattle.timefd_lang_fault.specs.declared.name.Name.{Name}
use Rattle.timefd_language.specs.Bytes.{is_version_three}
use Rattle.timefd_lang_fault.specs.Words.{expected_white, expected_nested, expected_alternative, many_nested, optional_item, first_item, nested_here}
use Rattle.timefd_language.specs.Head.{Head, head_text, placed}
use Rattle.timefd_language.specs.Verdict.{is_formatted}
use Rattle.timefd_language.specs.Grammar.{Pieces, Nested, no_nested, nested, items, is_empty, bracket_verdict}
use Rattle.timefd_laws.specs.Heads.{IsRefused, IsNamed, IsSpaced, AreGood}

-- White bytes are needed before the first nested description. This is checked before anything else.
abbrev pub WhiteWanted : Type 0
WhiteWanted = (v : DescriptionVersion) (h : Head) (ps : Pieces) (ns : Nested) (white : Text)
    → IsRefused v h (nested [] ps ns) white expected_white (length (head_text h))

-- A component nests nothing. This is checked before its modifiers.
abbrev pub ComponentsNestNothing : Type 0
ComponentsNestNothing = (v : DescriptionVersion) (h : Head) (n : ComponentName) (space : Text)
    (ps : Pieces) (ns : Nested) (white : Text) → IsNamed v h (Some (Name.Component n))
    → IsFalse (is_empty space)
    → IsRefused v h (nested space ps ns) white nested_here 0

-- If the name is unknown, a nested description is also reported first.
abbrev pub UnknownNamesNestNothing : Type 0
UnknownNamesNestNothing = (v : DescriptionVersion) (h : Head) (space : Text) (ps : Pieces)
    (ns : Nested) (white : Text) → IsNamed v h None → IsFalse (is_empty space)
    → IsRefused v h (nested space ps ns) white nested_here 0

-- `optional`

abbrev pub IsGoodOptional : DescriptionVersion → Head → Type 0
IsGoodOptional v h = IsNamed v h (Some Name.Optional) × AreGood v Name.Optional h.modifiers

-- If `optional` nests more than one description, that is reported at the first one.
abbrev pub OneOptionalAtMost : Type 0
OneOptionalAtMost = (v : DescriptionVersion) (h : Head) (space gap : Text) (ps qs : Pieces)
    (ns : Nested) (white : Text) → IsGoodOptional v h → IsFalse (is_empty space)
    → IsRefused v h (nested space ps (nested gap qs ns)) white many_nested
    (length (head_text h) + length space)

-- If `optional` nests nothing, that is reported at the closing bracket.
abbrev pub OneOptionalAtLeast : Type 0
OneOptionalAtLeast = (v : DescriptionVersion) (h : Head) (white : Text) → IsGoodOptional v h
    → IsRefused v h no_nested white expected_nested (length (head_text h ++ white))

-- In versions 1 and 2 an `optional` that breaks no other rule is refused, at the bracket.
abbrev pub OptionalInVersionThreeAlone : Type 0
OptionalInVersionThreeAlone = (v : DescriptionVersion) (h : Head) (space : Text) (ps : Pieces)
    (white : Text) → IsGoodOptional v h → IsFalse (is_empty space) → IsFalse (is_version_three v)
    → IsRefused v h (nested space ps no_nested) white optional_item 0

-- In version 3 `optional` means an optional item: the tree of its only nested description.
abbrev pub GoodOptional : Type 0
GoodOptional = (h : Head) (space : Text) (ps : Pieces) (white : Text) → IsGoodOptional Three h
    → IsFalse (is_empty space)
    → bracket_verdict Three h (nested space ps no_nested) white
    ≡ Ok (optional (is_formatted true (placed h)) (pack (items ps)))

-- `first`

-- In versions 1 and 2 a `first` without modifiers is refused, at the bracket, whatever it nests.
abbrev pub FirstInVersionThreeAlone : Type 0
FirstInVersionThreeAlone = (v : DescriptionVersion) (h : Head) (ns : Nested) (white : Text)
    → IsNamed v h (Some Name.First) → h.modifiers ≡ [] → IsSpaced ns
    → IsFalse (is_version_three v)
    → IsRefused v h ns white first_item 0

-- In version 3, if `first` nests nothing, that is reported at the closing bracket.
abbrev pub OneAlternativeAtLeast : Type 0
OneAlternativeAtLeast = (h : Head) (white : Text) → IsNamed Three h (Some Name.First)
    → h.modifiers ≡ []
    → IsRefused Three h no_nested white expected_alternative (length (head_text h ++ white))

-- the trees of nested descriptions, in order
abbrev pub alternatives : Nested → List Tree
alternatives no_nested = []
alternatives (nested white ps ns) = pack (items ps) ∷ alternatives ns

-- In version 3 `first` means the trees of its nested descriptions, in order, as alternatives.
abbrev pub GoodFirst : Type 0
GoodFirst = (h : Head) (space : Text) (ps : Pieces) (ns : Nested) (white : Text)
    → IsNamed Three h (Some Name.First) → h.modifiers ≡ [] → IsFalse (is_empty space)
    → bracket_verdict Three h (nested space ps ns) white
    ≡ Ok (first (trees (alternatives (nested space ps ns))))
