-- Texts that another text follows, without the parentheses of `++`.
use Rattle.std.proofs.Common.{◌≡◌, List, [], ◌∷◌, ◌++◌, refl, ◌∙◌, ap, append_assoc, append-nil}
use Rattle.timefd_lang_component.specs.Tree.{Text}
use Rattle.timefd_language.specs.Bytes.{left, right, backslash, colon}
use Rattle.timefd_language.specs.Head.{Modifier, Head, modifiers_text, head_text}
use Rattle.timefd_language.specs.Grammar.{Pieces, no_pieces, run, escape, closing, bracket, Nested, no_nested, nested, spelling, nested_text}
use Rattle.timefd_language.specs.Broken.{Misfit, no_colon, no_key, no_value, misfit_text, Broken, bare_closing, half_escape, nameless, ill_modified, too_deep, broken_inside, cut_off, unclosed, refused, broken_text}

abbrev pub modifiers_before : List Modifier → Text → Text
modifiers_before [] tail = tail
modifiers_before (m ∷ ms) tail = m.white ++ (m.key ++ colon ∷ (m.value ++ modifiers_before ms tail))

abbrev pub head_before : Head → Text → Text
head_before h tail = left ∷ (h.white ++ (h.name ++ modifiers_before h.modifiers tail))

abbrev pub misfit_before : Misfit → Text → Text
misfit_before (no_colon word) rest = word ++ rest
misfit_before (no_key value) rest = colon ∷ (value ++ rest)
misfit_before (no_value key) rest = key ++ colon ∷ rest

abbrev mutual
  pub before : Pieces → Text → Text
  before no_pieces tail = tail
  before (run bytes rest) tail = bytes ++ before rest tail
  before (escape a b rest) tail = a ∷ b ∷ before rest tail
  before (closing rest) tail = right ∷ before rest tail
  before (bracket h ns white tree rest) tail =
      head_before h (nested_before ns (white ++ right ∷ before rest tail))

  pub nested_before : Nested → Text → Text
  nested_before no_nested tail = tail
  nested_before (nested white ps ns) tail =
      white ++ left ∷ before ps (right ∷ nested_before ns tail)

abbrev pub broken_before : Broken → Text
broken_before (bare_closing rest) = right ∷ rest
broken_before (half_escape rest) = backslash ∷ rest
broken_before (nameless white rest) = left ∷ (white ++ rest)
broken_before (ill_modified h white word rest) = head_before h (white ++ misfit_before word rest)
broken_before (too_deep h ns white rest) = head_before h (nested_before ns (white ++ left ∷ rest))
broken_before (broken_inside h ns white front inner) =
    head_before h (nested_before ns (white ++ left ∷ before front (broken_before inner)))
broken_before (cut_off h ns white front) =
    head_before h (nested_before ns (white ++ left ∷ before front []))
broken_before (unclosed h ns white rest) = head_before h (nested_before ns (white ++ rest))
broken_before (refused h ns white f rest) = head_before h (nested_before ns (white ++ right ∷ rest))

pub modifiers_before-is : (ms : List Modifier) (tail : Text)
    → modifiers_before ms tail ≡ modifiers_text ms ++ tail
modifiers_before-is [] tail = refl
modifiers_before-is (m ∷ ms) tail = simp (append_assoc, modifiers_before-is ms tail)

pub head_before-is : (h : Head) (tail : Text) → head_before h tail ≡ head_text h ++ tail
head_before-is h tail = simp (append_assoc, modifiers_before-is h.modifiers tail)

pub misfit_before-is : (m : Misfit) (rest : Text) → misfit_before m rest ≡ misfit_text m ++ rest
misfit_before-is (no_colon word) rest = refl
misfit_before-is (no_key value) rest = refl
misfit_before-is (no_value key) rest = simp append_assoc

regroup : (a b c d e : Text) → a ++ (b ++ (c ++ (d ++ e))) ≡ (a ++ b ++ c ++ d) ++ e
regroup a b c d e = simp append_assoc

regroup_three : (a b c d : Text) → a ++ (b ++ (c ++ d)) ≡ (a ++ b ++ c) ++ d
regroup_three a b c d = simp append_assoc

regroup_three' : (a b c d : Text) → a ++ (b ++ (c ++ d)) ≡ a ++ b ++ c ++ d
regroup_three' a b c d = simp append_assoc

regroup_five : (a b c d e f : Text)
    → a ++ (b ++ (c ++ (d ++ (e ++ f)))) ≡ (a ++ b ++ c ++ d) ++ e ++ f
regroup_five a b c d e f = simp append_assoc

mutual
  pub before-is : (ps : Pieces) (tail : Text) → before ps tail ≡ spelling ps ++ tail
  before-is no_pieces tail = refl
  before-is (run bytes rest) tail = simp (append_assoc, before-is rest tail)
  before-is (escape a b rest) tail = ap (λ x. a ∷ b ∷ x) (before-is rest tail)
  before-is (closing rest) tail = ap (λ x. right ∷ x) (before-is rest tail)
  before-is (bracket h ns white tree rest) tail =
      head_before-is h _
      ∙ ap (λ x. head_text h ++ x) (nested_before-is ns _ ∙
      ap (λ x. nested_text ns ++ (white ++ right ∷ x)) (before-is rest tail))
      ∙ regroup (head_text h) (nested_text ns) white (right ∷ spelling rest) tail

  pub nested_before-is : (ns : Nested) (tail : Text)
      → nested_before ns tail ≡ nested_text ns ++ tail
  nested_before-is no_nested tail = refl
  nested_before-is (nested white ps ns) tail =
      ap (λ x. white ++ left ∷ x) (before-is ps _ ∙
      ap (λ x. spelling ps ++ right ∷ x) (nested_before-is ns tail))
      ∙ regroup_three white (left ∷ spelling ps) (right ∷ nested_text ns) tail

-- both forms of a broken text are the same text
pub broken_before-is : (b : Broken) → broken_before b ≡ broken_text b
broken_before-is (bare_closing rest) = refl
broken_before-is (half_escape rest) = refl
broken_before-is (nameless white rest) = refl
broken_before-is (ill_modified h white word rest) =
    head_before-is h _ ∙ ap (λ x. head_text h ++ (white ++ x)) (misfit_before-is word rest)
    ∙ regroup_three' (head_text h) white (misfit_text word) rest
broken_before-is (too_deep h ns white rest) =
    head_before-is h _ ∙ ap (λ x. head_text h ++ x) (nested_before-is ns _)
    ∙ regroup (head_text h) (nested_text ns) white (left ∷ []) rest
broken_before-is (broken_inside h ns white front inner) =
    head_before-is h _
    ∙ ap (λ x. head_text h ++ x) (nested_before-is ns _ ∙
    ap (λ x. nested_text ns ++ (white ++ left ∷ x))
    (before-is front _ ∙ ap (λ x. spelling front ++ x) (broken_before-is inner)))
    ∙ regroup_five (head_text h) (nested_text ns) white (left ∷ []) (spelling front)
    (broken_text inner)
broken_before-is (cut_off h ns white front) =
    head_before-is h _
    ∙ ap (λ x. head_text h ++ x) (nested_before-is ns _ ∙
    ap (λ x. nested_text ns ++ (white ++ left ∷ x)) (before-is front [] ∙
    append-nil (spelling front)))
    ∙ regroup (head_text h) (nested_text ns) white (left ∷ []) (spelling front)
broken_before-is (unclosed h ns white rest) =
    head_before-is h _ ∙ ap (λ x. head_text h ++ x) (nested_before-is ns _)
    ∙ regroup_three' (head_text h) (nested_text ns) white rest
broken_before-is (refused h ns white f rest) =
    head_before-is h _ ∙ ap (λ x. head_text h ++ x) (nested_before-is ns _)
    ∙ regroup_three' (head_text h) (nested_text ns) white (right ∷ rest)
