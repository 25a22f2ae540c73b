-- Where a text ends inside of a bracket: there is one answer.
use Rattle.std.proofs.Common.{ℕ, ◌+◌, suc, ◌≡◌, ◌≢◌, ◌<◌, ◌≤◌, List, [], ◌∷◌, ◌++◌, length, length-append, length-drop, get_or, take, drop, drop-cons, add-one, Option, Some, None, ◌==◌, refl, sym, ap, subst, ◌∙◌, arith, append_assoc, append-nil}
use Rattle.std.specs.Prelude.{true}
use Rattle.std.specs.Borrow.{Bor}
use Rattle.std.specs.Str.{IsCharBoundary}
use Rattle.std.specs.Str.Pattern.{RFindsChar}
use Rattle.std.proofs.lemmas.Str.Pattern.{rfind_char}
use Rattle.std.specs.List.{list_all}
use Rattle.std.proofs.lemmas.Bool.{and_parts, and_from, true≢false}
use Rattle.std.proofs.lemmas.Bool.Decides.{nat_tests}
use Rattle.std.proofs.lemmas.List.{take-append-drop, get_or-drop}
use Rattle.timefd_parse.specs.Tree.{Text}
use Rattle.timefd_language.specs.Bytes.{left, colon, is_white, is_word_byte, is_key_byte, ZeroOrMore, OneOrMore, StopsBefore}
use Rattle.timefd_language.specs.Cut.{IsCut}
use Rattle.timefd_language.specs.Head.{Head, IsHead, Modifier, IsModifier, AreModifiers, head_text, modifier_text, modifiers_text}
use Rattle.timefd_language.proofs.Before.{modifiers_before-is}
use Rattle.timefd_language.proofs.Spans.{key-not_white, all-append, all-implied, zero_from_one, stops_one, stops_zero, word-not_white, key-word, white-not_word}
use Rattle.timefd_parse.specs.declared.head.modifier.Modifier as code
use Rattle.timefd_parse.specs.BracketParts.{BeginsNamed, BeginsModified, FindsModifiers, NamesHeads}
use Rattle.timefd_parse.proofs.BracketLemmas.{same_cut}
use Rattle.timefd_language.specs.Slots.{EndsInHead}
use Rattle.timefd_lint_lsp.specs.Editor.SlotSearches.{is_inside, IsLastBracket, BeginsNoModifier, IsAfterSome, IsAfterAll, EndsHead, NamesHead, IsNamedHead}

-- Bytes inside of a bracket.

pub white-inside : (b : ℕ) → is_white b ≡ true → is_inside b ≡ true
white-inside b e = grind (arith, nat_tests)

pub word-inside : (b : ℕ) → is_word_byte b ≡ true → is_inside b ≡ true
word-inside b e = grind (arith, nat_tests)

pub key-inside : (b : ℕ) → is_key_byte b ≡ true → is_inside b ≡ true
key-inside b e = word-inside b (key-word b e)

other-inside : (b : ℕ) → b ≢ left → is_inside b ≡ true
other-inside b e = grind (arith, nat_tests)

modifier_inside : (m : Modifier) → IsModifier m → ZeroOrMore is_inside (modifier_text m)
modifier_inside m is =
    all-append is_inside (m.white ++ m.key) (colon ∷ m.value)
    (all-append is_inside m.white m.key
    (all-implied is_white is_inside white-inside m.white (zero_from_one is_white m.white is.white))
    (all-implied is_key_byte is_inside key-inside m.key (zero_from_one is_key_byte m.key is.key)))
    (all-implied is_word_byte is_inside word-inside m.value
    (zero_from_one is_word_byte m.value is.value))

modifiers_inside : (ms : List Modifier) → AreModifiers ms → ZeroOrMore is_inside (modifiers_text ms)
modifiers_inside [] are = refl
modifiers_inside (m ∷ ms) are =
    all-append is_inside (modifier_text m) (modifiers_text ms) (modifier_inside m are.0)
    (modifiers_inside ms are.1)

-- what follows the `[` of a head
abbrev in_head : Head → Text
in_head h = (h.white ++ h.name) ++ modifiers_text h.modifiers

head_inside : (h : Head) → IsHead h → ZeroOrMore is_inside (in_head h)
head_inside h is =
    all-append is_inside (h.white ++ h.name) (modifiers_text h.modifiers)
    (all-append is_inside h.white h.name (all-implied is_white is_inside white-inside h.white is.white)
    (all-implied is_word_byte is_inside word-inside h.name (zero_from_one is_word_byte h.name is.name)))
    (modifiers_inside h.modifiers is.modifiers)

stands : (y b : Text) → ZeroOrMore is_inside (y ++ left ∷ b) → ⊥
stands [] b h = true≢false (sym h)
stands (d ∷ y) b h = stands y b (and_parts (is_inside d) (list_all is_inside (y ++ left ∷ b)) h).1

one_inside : (x y a b : Text) → x ++ left ∷ a ≡ y ++ left ∷ b → ZeroOrMore is_inside a
    → ZeroOrMore is_inside b → a ≡ b
one_inside [] [] a b e ha hb = ap (drop 1) e
one_inside [] (d ∷ y) a b e ha hb = absurd (stands y b (subst (ZeroOrMore is_inside) (ap (drop 1) e) ha))
one_inside (c ∷ x) [] a b e ha hb =
    absurd (stands x a (subst (ZeroOrMore is_inside) (sym (ap (drop 1) e)) hb))
one_inside (c ∷ x) (d ∷ y) a b e ha hb = one_inside x y a b (ap (drop 1) e) ha hb

pub all_inside : (text : Text) → ((i : ℕ) → i < length text → get_or text i 0 ≢ left)
    → ZeroOrMore is_inside text
all_inside [] none = refl
all_inside (b ∷ text) none =
    and_from (is_inside b) (list_all is_inside text) (other-inside b (none 0 (omega arith)))
    (all_inside text (λ i below. none (suc i) (omega (arith, below))))

-- What ends in a head has one last bracket.

bracket_of : (front bracket : Text) (h : Head) (between : Text) → IsLastBracket front bracket
    → EndsHead between → EndsInHead front h between → bracket ≡ head_text h ++ between
bracket_of front bracket h between last ends is =
    last.opens ∙ ap (λ t. left ∷ t) (one_inside last.before is.before last.inside (in_head h ++ between)
    (sym (last.whole ∙ ap (λ t. last.before ++ t) last.opens) ∙ is.whole) last.last
    (all-append is_inside (in_head h) between (head_inside h is.is) ends.inside))

pub bracketless : (front : Text) → ZeroOrMore is_inside front → (h : Head) (between : Text)
    → EndsInHead front h between → ⊥
bracketless front none h between is =
    stands is.before (in_head h ++ between) (subst (ZeroOrMore is_inside) is.whole none)

pub last_is : (text bracket : Text) (k : ℕ) → k < length text → get_or text k 0 ≡ left
    → ((i : ℕ) → k < i → i < length text → get_or text i 0 ≢ left) → bracket ≡ drop k text
    → IsLastBracket text bracket
last_is text bracket k below at last is = record {
  before = take k text;
  inside = drop (k + 1) text;
  whole = sym (take-append-drop k text) ∙ ap (λ t. take k text ++ t) (sym is);
  opens = is ∙ drop-cons text k 0 below ∙ ap (λ b. b ∷ drop (suc k) text) at
      ∙ ap (λ n. left ∷ drop n text) (sym (add-one k));
  last = all_inside (drop (k + 1) text) (λ i within.
      subst (λ b. b ≢ left) (sym (get_or-drop (k + 1) text i 0))
      (last (k + 1 + i) (omega arith) (omega (arith, within, length-drop (k + 1) text))));
}

pub none_found : (text : Text) → RFindsChar left text None → ZeroOrMore is_inside text
none_found text none = all_inside text (rfind_char left text None none (omega arith))

pub last_found : (text bracket : Text) (k : ℕ)
    → (j : ℕ) × RFindsChar left text (Some (k, j)) × (k ≤ j) × IsCharBoundary text k × IsCharBoundary text j
    → bracket ≡ drop k text → IsLastBracket text bracket
last_found text bracket k found is =
    let at = rfind_char left text (Some k) found (omega arith) in
    last_is text bracket k at.0 at.1 at.2 is

-- Modifiers.

abbrev pub word_after : Modifier → Text → Text
word_after m x = m.key ++ colon ∷ (m.value ++ x)

pub cut_white : (m : Modifier) (x : Text) → IsModifier m
    → IsCut is_white (modifier_text m ++ x) m.white (word_after m x)
cut_white m x is = record {
  whole = simp append_assoc;
  passes = zero_from_one is_white m.white is.white;
  stops = stops_one is_key_byte is_white key-not_white m.key (colon ∷ (m.value ++ x)) is.key;
}

cut_text : (m : Modifier) (x : Text) → IsModifier m → StopsBefore is_word_byte x
    → IsCut is_word_byte (word_after m x) (m.key ++ colon ∷ m.value) x
cut_text m x is stops = record {
  whole = simp append_assoc;
  passes = all-append is_word_byte m.key (colon ∷ m.value)
      (all-implied is_key_byte is_word_byte key-word m.key (zero_from_one is_key_byte m.key is.key))
      (zero_from_one is_word_byte m.value is.value);
  stops = stops;
}

-- what follows a modifier is the same, whichever it is
same_after : (m n : Modifier) (x y : Text) → IsModifier m → IsModifier n
    → StopsBefore is_word_byte x → StopsBefore is_word_byte y
    → modifier_text m ++ x ≡ modifier_text n ++ y → x ≡ y
same_after m n x y is_m is_n stops_x stops_y e =
    let a = cut_white m x is_m in
    let b = cut_white n y is_n in
    let words = same_cut is_white (modifier_text m ++ x) m.white _ n.white _ a (e ∙ b.whole) b.passes
    b.stops in
    let c = cut_text m x is_m stops_x in
    let d = cut_text n y is_n stops_y in
    (same_cut is_word_byte (word_after m x) (m.key ++ colon ∷ m.value) x (n.key ++ colon ∷ n.value) y c
    (words.rest ∙ d.whole) d.passes d.stops).rest

stops_after : (ms : List Modifier) (rest : Text) → AreModifiers ms → StopsBefore is_word_byte rest
    → StopsBefore is_word_byte (modifiers_text ms ++ rest)
stops_after [] rest are stops = stops
stops_after (m ∷ ms) rest are stops =
    subst (StopsBefore is_word_byte) (modifiers_before-is (m ∷ ms) rest)
    (stops_one is_white is_word_byte white-not_word m.white _ are.0.white)

same_end : (ms ns : List Modifier) (a b : Text) → AreModifiers ms → AreModifiers ns
    → StopsBefore is_word_byte a → StopsBefore is_word_byte b → BeginsNoModifier a
    → BeginsNoModifier b → modifiers_text ms ++ a ≡ modifiers_text ns ++ b → a ≡ b
same_end [] [] a b are_m are_n stops_a stops_b none_a none_b e = e
same_end [] (n ∷ ns) a b are_m are_n stops_a stops_b none_a none_b e =
    absurd (none_a n (modifiers_text ns ++ b) are_n.0 (stops_after ns b are_n.1 stops_b)
    (e ∙ append_assoc (modifier_text n) (modifiers_text ns) b))
same_end (m ∷ ms) [] a b are_m are_n stops_a stops_b none_a none_b e =
    absurd (none_b m (modifiers_text ms ++ a) are_m.0 (stops_after ms a are_m.1 stops_a)
    (sym e ∙ append_assoc (modifier_text m) (modifiers_text ms) a))
same_end (m ∷ ms) (n ∷ ns) a b are_m are_n stops_a stops_b none_a none_b e =
    same_end ms ns a b are_m.1 are_n.1 stops_a stops_b none_a none_b
    (same_after m n (modifiers_text ms ++ a) (modifiers_text ns ++ b) are_m.0 are_n.0
    (stops_after ms a are_m.1 stops_a) (stops_after ns b are_n.1 stops_b)
    (sym (append_assoc (modifier_text m) (modifiers_text ms) a) ∙ e
    ∙ append_assoc (modifier_text n) (modifiers_text ns) b))

more_text : (ms : List Modifier) (m : Modifier) (after : Text)
    → modifiers_text ms ++ (modifier_text m ++ after) ≡ modifiers_text (ms ++ m ∷ []) ++ after
more_text [] m after = ap (λ t. t ++ after) (sym (append-nil (modifier_text m)))
more_text (x ∷ ms) m after =
    append_assoc (modifier_text x) (modifiers_text ms) (modifier_text m ++ after)
    ∙ ap (λ t. modifier_text x ++ t) (more_text ms m after)
    ∙ sym (append_assoc (modifier_text x) (modifiers_text (ms ++ m ∷ [])) after)

more_are : (ms : List Modifier) (m : Modifier) → AreModifiers ms → IsModifier m
    → AreModifiers (ms ++ m ∷ [])
more_are [] m are is = (is, tt)
more_are (x ∷ ms) m are is = (are.0, more_are ms m are.1 is)

pub one_more : (text rest after : Text) (m : code.Modifier) → IsAfterSome text rest
    → BeginsModified rest m after → IsAfterSome text after
one_more text rest after m so_far is = record {
  modifiers = so_far.modifiers ++ is.modifier ∷ [];
  are = more_are so_far.modifiers is.modifier so_far.are is.is;
  whole = so_far.whole ∙ ap (λ t. modifiers_text so_far.modifiers ++ t) is.whole
      ∙ more_text so_far.modifiers is.modifier after;
  stops = is.stops;
}

pub no_more : (text : Text) → StopsBefore is_word_byte text → IsAfterSome text text
no_more text stops = record { modifiers = []; are = tt; whole = refl; stops = stops }

-- The head that a text ends in.

pub named_head : (front bracket name rest between : Text) → IsLastBracket front bracket
    → BeginsNamed bracket name rest → IsAfterAll rest between → IsNamedHead front name between
named_head front bracket name rest between last named all =
    let ms = all.some.modifiers in (
      record { white = named.white; name = name; modifiers = ms },
      refl,
      record {
        before = last.before;
        is = record { white = named.all_white; name = named.word; modifiers = all.some.are };
        whole = last.whole ∙ ap (λ t. last.before ++ t) (named.whole
            ∙ ap (λ t. left ∷ (named.white ++ (name ++ t))) all.some.whole
            ∙ ap (λ t. left ∷ t) (regrouped named.white name (modifiers_text ms) between));
      },
    )
  where
    regrouped : (a b c d : Text) → a ++ (b ++ (c ++ d)) ≡ ((a ++ b) ++ c) ++ d
    regrouped a b c d = simp append_assoc

pub names_head : (front bracket : Text) (name rest end : Bor (List ℕ)) → IsLastBracket front bracket
    → NamesHeads bracket (Some (name, rest)) → IsAfterAll rest.now end.now
    → NamesHead front (Some (name, end))
names_head front bracket name rest end last names all h between ends is =
    let e = bracket_of front bracket h between last ends is in
    let found = names h between is.is ends.stops e in
    let some = all.some in (
      found.0,
      same_end some.modifiers h.modifiers end.now between some.are is.is.modifiers some.stops
          ends.stops all.none ends.none (sym some.whole ∙ found.1),
    )

pub names_none : (front bracket : Text) → IsLastBracket front bracket → NamesHeads bracket None
    → NamesHead front None
names_none front bracket last names h between ends is =
    names h between is.is ends.stops (bracket_of front bracket h between last ends is)
