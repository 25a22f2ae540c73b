-- A text's length is enough steps.
use Rattle.std.proofs.Common.{ℕ, suc, ◌+◌, ◌≤◌, Bool, List, [], ◌∷◌, ◌++◌, length, length-append, arith}
use Rattle.timefd_language.specs.declared.description_version.DescriptionVersion.{DescriptionVersion}
use Rattle.timefd_lang_component.specs.Tree.{Text}
use Rattle.timefd_language.specs.Bytes.{left, right, colon, is_white, is_word_byte, is_run_byte, OneOrMore}
use Rattle.timefd_language.specs.Head.{Modifier, Head, AreModifiers, IsHead}
use Rattle.timefd_language.specs.Grammar.{Pieces, no_pieces, run, escape, closing, bracket, Nested, no_nested, nested, ArePieces, AreNested}
use Rattle.timefd_language.specs.Broken.{Broken, bare_closing, half_escape, nameless, ill_modified, too_deep, broken_inside, cut_off, unclosed, refused, IsBroken}
use Rattle.timefd_language.proofs.Before.{before, nested_before, head_before, modifiers_before, misfit_before, broken_before}
use Rattle.timefd_language.proofs.Complete.{size, nested_size}

pub length_one : (test : ℕ → Bool) (a tail : Text) → OneOrMore test a
    → 1 + length tail ≤ length (a ++ tail)
length_one test [] tail h = absurd h
length_one test (b ∷ a) tail h = omega (arith, length-append a tail)

pub length_more : (a tail : Text) → length tail ≤ length (a ++ tail)
length_more a tail = omega (arith, length-append a tail)

modifiers_fit : (ms : List Modifier) (tail : Text) → AreModifiers ms
    → length ms + length tail ≤ length (modifiers_before ms tail)
modifiers_fit [] tail h = omega arith
modifiers_fit (m ∷ ms) tail h =
    omega (
      arith,
      length_one is_white m.white (m.key ++ colon ∷ (m.value ++ modifiers_before ms tail))
          h.0.white,
      length_more m.key (colon ∷ (m.value ++ modifiers_before ms tail)),
      length_more m.value (modifiers_before ms tail),
      modifiers_fit ms tail h.1,
    )

head_fits : (h : Head) (tail : Text) → IsHead h
    → 2 + length h.modifiers + length tail ≤ length (head_before h tail)
head_fits h tail ih =
    omega (
      arith,
      length_more h.white (h.name ++ modifiers_before h.modifiers tail),
      length_one is_word_byte h.name (modifiers_before h.modifiers tail) ih.name,
      modifiers_fit h.modifiers tail ih.modifiers,
    )

mutual
  pub size_fits : (ps : Pieces) (v : DescriptionVersion) (limit n : ℕ) (tail : Text)
      → ArePieces v limit n ps → size ps + length tail ≤ length (before ps tail)
  size_fits no_pieces v limit n tail are = omega arith
  size_fits (run bytes rest) v limit n tail are =
      omega (
        arith,
        length_one (is_run_byte v) bytes (before rest tail) are.0,
        size_fits rest v limit n tail are.2,
      )
  size_fits (escape a b rest) v limit n tail are =
      omega (arith, size_fits rest v limit n tail are.1)
  size_fits (closing rest) v limit n tail are = omega (arith, size_fits rest v limit n tail are.2)
  size_fits (bracket h ns white tree rest) v limit n tail are =
      omega (
        arith,
        head_fits h (nested_before ns (white ++ right ∷ before rest tail)) are.0,
        nested_size_fits ns v limit n (white ++ right ∷ before rest tail) are.1,
        length_more white (right ∷ before rest tail),
        size_fits rest v limit n tail are.4,
      )

  pub nested_size_fits : (ns : Nested) (v : DescriptionVersion) (limit n : ℕ) (tail : Text)
      → AreNested v limit n ns → nested_size ns + length tail ≤ length (nested_before ns tail)
  nested_size_fits no_nested v limit n tail are = omega arith
  nested_size_fits (nested white ps ns) v limit n tail are =
      omega (
        arith,
        length_more white (left ∷ before ps (right ∷ nested_before ns tail)),
        size_fits ps v limit (suc n) (right ∷ nested_before ns tail) are.2,
        nested_size_fits ns v limit n tail are.3,
      )

-- how many steps find a broken text
abbrev pub broken_size : Broken → ℕ
broken_size (bare_closing rest) = 1
broken_size (half_escape rest) = 1
broken_size (nameless white rest) = 1
broken_size (ill_modified h white word rest) = 2 + length h.modifiers
broken_size (too_deep h ns white rest) = 3 + length h.modifiers + nested_size ns
broken_size (broken_inside h ns white front inner) =
    3 + length h.modifiers + nested_size ns + size front + broken_size inner
broken_size (cut_off h ns white front) = 4 + length h.modifiers + nested_size ns + size front
broken_size (unclosed h ns white rest) = 3 + length h.modifiers + nested_size ns
broken_size (refused h ns white f rest) = 3 + length h.modifiers + nested_size ns

pub broken_size_fits : (b : Broken) (v : DescriptionVersion) (limit n : ℕ) → IsBroken v limit n b
    → broken_size b ≤ suc (length (broken_before b))
broken_size_fits (bare_closing rest) v limit n is = omega arith
broken_size_fits (half_escape rest) v limit n is = omega arith
broken_size_fits (nameless white rest) v limit n is = omega arith
broken_size_fits (ill_modified h white word rest) v limit n is =
    omega (arith, head_fits h (white ++ misfit_before word rest) is.0)
broken_size_fits (too_deep h ns white rest) v limit n is =
    omega (
      arith,
      head_fits h (nested_before ns (white ++ left ∷ rest)) is.0,
      nested_size_fits ns v limit n (white ++ left ∷ rest) is.1,
      length_more white (left ∷ rest),
    )
broken_size_fits (broken_inside h ns white front inner) v limit n is =
    omega (
      arith,
      head_fits h (nested_before ns (white ++ left ∷ before front (broken_before inner))) is.0,
      nested_size_fits ns v limit n (white ++ left ∷ before front (broken_before inner)) is.1,
      length_more white (left ∷ before front (broken_before inner)),
      size_fits front v limit (suc n) (broken_before inner) is.4,
      broken_size_fits inner v limit (suc n) is.5,
    )
broken_size_fits (cut_off h ns white front) v limit n is =
    omega (
      arith,
      head_fits h (nested_before ns (white ++ left ∷ before front [])) is.0,
      nested_size_fits ns v limit n (white ++ left ∷ before front []) is.1,
      length_more white (left ∷ before front []),
      size_fits front v limit (suc n) [] is.4,
    )
broken_size_fits (unclosed h ns white rest) v limit n is =
    omega (
      arith,
      head_fits h (nested_before ns (white ++ rest)) is.0,
      nested_size_fits ns v limit n (white ++ rest) is.1,
    )
broken_size_fits (refused h ns white f rest) v limit n is =
    omega (
      arith,
      head_fits h (nested_before ns (white ++ right ∷ rest)) is.0,
      nested_size_fits ns v limit n (white ++ right ∷ rest) is.1,
    )
