-- The index of each fault is between two characters of its text: next to a byte of ASCII.
use Rattle.std.proofs.Common.{lit<, ℕ, suc, ◌≡◌, ◌+◌, ◌<◌, ◌⊎◌, inl, inr, List, [], ◌∷◌, ◌++◌, length, length-append, refl, sym, ◌∙◌, ap, subst, arith, append_assoc, Result, Err, get_or, IsUtf8}
use Rattle.std.specs.Prelude.{IsTrue}
use Rattle.std.specs.List.{list_all}
use Rattle.std.proofs.Math.Seq.{get_or-append_seam}
use Rattle.std.proofs.lemmas.Bool.{and_parts}
use Rattle.std.proofs.lemmas.Bool.Decides.{nat_tests}
use Rattle.std.proofs.lemmas.Str.{IsCharBoundary-before_ascii, IsCharBoundary-after_ascii}
use Rattle.std.specs.Str.{IsCharBoundary}
use Rattle.timefd_language.specs.declared.description_version.DescriptionVersion.{DescriptionVersion}
use Rattle.timefd_lang_component.specs.Tree.{Text, Tree}
use Rattle.timefd_lang_fault.specs.Faults.{Kind, Fault, unclosed_bracket, invalid_name, invalid_modifier, missing_name, missing_modifier, expected, not_supported, duplicate_modifier, invalid_combination}
use Rattle.timefd_language.specs.Bytes.{left, right, colon, backslash, is_white, ZeroOrMore, OneOrMore, is_version_three}
use Rattle.timefd_language.specs.Fault.{enclosed}
use Rattle.timefd_language.specs.Head.{Modifier, Head, AreModifiers, IsHead, placed_from, placed, name_index, modifier_text, modifiers_text, head_text}
use Rattle.timefd_language.specs.Grammar.{Nested, no_nested, nested, spelling, nested_text, parts_from, bracket_verdict}
use Rattle.timefd_language.specs.Broken.{Misfit, no_colon, no_key, no_value, misfit_text, misfit_fault, Broken, bare_closing, half_escape, nameless, ill_modified, too_deep, broken_inside, cut_off, unclosed, refused, IsBroken, broken_text, broken_fault, before_inner}
use Rattle.timefd_language.proofs.VerdictPositions.{AllWithin, PartsWithin, WithinAnswer, within_verdict}
use Rattle.timefd_language.specs.Positions.{PlacedBetween, StrftimePlacedBetween}
use Rattle.timefd_language.specs.Letters.{unflagged, flagged}
use Rattle.timefd_language.specs.Strftime.{percent, is_flag, IllDirective, cut_short, unknown, ill_text, ill_fault, IsIll, directives_text}

-- the index is right before or right after a byte of ASCII
pub record Beside (text : Text) (i : ℕ) : Type 0 where
  pub front : Text
  pub byte : ℕ
  pub rest : Text
  pub whole : text ≡ front ++ byte ∷ rest
  pub ascii : byte < 128
  pub position : (i ≡ length front) ⊎ (i ≡ length front + 1)

at_byte : (text front rest : Text) (b i : ℕ) → text ≡ front ++ b ∷ rest → b < 128
    → i ≡ length front → Beside text i
at_byte text front rest b i whole ascii e =
    record { front = front; byte = b; rest = rest; whole = whole; ascii = ascii; position = inl e }

after_byte : (text front rest : Text) (b i : ℕ) → text ≡ front ++ b ∷ rest → b < 128
    → i ≡ length front + 1 → Beside text i
after_byte text front rest b i whole ascii e =
    record { front = front; byte = b; rest = rest; whole = whole; ascii = ascii; position = inr e }

further : (p text : Text) (i j : ℕ) → j ≡ i + length p → Beside text i → Beside (p ++ text) j
further p text i j e b = record {
  front = p ++ b.front;
  byte = b.byte;
  rest = b.rest;
  whole = ap (λ x. p ++ x) b.whole ∙ sym (append_assoc p b.front (b.byte ∷ b.rest));
  ascii = b.ascii;
  position = moved b.position;
}
  where
    moved : (i ≡ length b.front) ⊎ (i ≡ length b.front + 1)
        → (j ≡ length (p ++ b.front)) ⊎ (j ≡ length (p ++ b.front) + 1)
    moved (inl k) = inl (omega (arith, e, k, length-append p b.front))
    moved (inr k) = inr (omega (arith, e, k, length-append p b.front))

boundary : (text : Text) (i : ℕ) → IsUtf8 text → Beside text i → IsCharBoundary text i
boundary text i utf8 b = on b.position
  where
    len : length b.front < length text
    len = omega (arith, ap length b.whole, length-append b.front (b.byte ∷ b.rest))

    byte : get_or text (length b.front) 0 < 128
    byte = subst (λ x. x < 128)
        (sym (ap (λ x. get_or x (length b.front) 0) b.whole
        ∙ get_or-append_seam b.front b.byte b.rest 0)) b.ascii

    on : (i ≡ length b.front) ⊎ (i ≡ length b.front + 1) → IsCharBoundary text i
    on (inl e) = subst (IsCharBoundary text) (sym e)
        (IsCharBoundary-before_ascii text (length b.front) len byte)
    on (inr e) = subst (IsCharBoundary text) (sym e)
        (IsCharBoundary-after_ascii text (length b.front) utf8 len byte)

-- White bytes are ASCII, and one or more of them end with an ASCII byte.
pub record Ends (bytes : Text) : Type 0 where
  pub front : Text
  pub byte : ℕ
  pub whole : bytes ≡ front ++ byte ∷ []
  pub ascii : byte < 128

white_ascii : (b : ℕ) → IsTrue (is_white b) → b < 128
white_ascii b h = grind (arith, nat_tests)

ends_with : (bytes : Text) (b : ℕ) → IsTrue (is_white b) → ZeroOrMore is_white bytes
    → Ends (b ∷ bytes)
ends_with [] b h all = record { front = []; byte = b; whole = refl; ascii = white_ascii b h }
ends_with (c ∷ bytes) b h all =
    let p = and_parts (is_white c) (list_all is_white bytes) all in
    let e = ends_with bytes c p.0 p.1 in
    record {
      front = b ∷ e.front;
      byte = e.byte;
      whole = ap (λ x. b ∷ x) e.whole;
      ascii = e.ascii;
    }

ends_with_white : (bytes : Text) → OneOrMore is_white bytes → Ends bytes
ends_with_white [] h = absurd h
ends_with_white (b ∷ bytes) h =
    let p = and_parts (is_white b) (list_all is_white bytes) h in
    ends_with bytes b p.0 p.1

-- an index right after bytes that end with an ASCII byte
after_ends : (text front bytes rest : Text) (i : ℕ) → text ≡ front ++ bytes ++ rest → Ends bytes
    → i ≡ length front + length bytes → Beside text i
after_ends text front bytes rest i whole e position =
    after_byte text (front ++ e.front) rest e.byte i
    (whole ∙ ap (λ x. front ++ x ++ rest) e.whole
    ∙ ap (λ x. x ++ rest) (sym (append_assoc front e.front (e.byte ∷ [])))
    ∙ append_assoc (front ++ e.front) (e.byte ∷ []) rest)
    e.ascii
    (omega (
      arith,
      position,
      ap length e.whole,
      length-append e.front (e.byte ∷ []),
      length-append front e.front,
    ))

-- The words of modifiers.

modifiers_beside : (text before after : Text) (at : ℕ) (ms : List Modifier) → AreModifiers ms
    → text ≡ before ++ modifiers_text ms ++ after → at ≡ length before
    → AllWithin (Beside text) (placed_from at ms)
modifiers_beside text before after at [] are whole e = tt
modifiers_beside text before after at (m ∷ ms) are whole e = (
  after_ends text before m.white (m.key ++ (colon ∷ m.value ++ (modifiers_text ms ++ after)))
      (at + length m.white) split_white (ends_with_white m.white are.0.white)
      (omega (arith, e)),
  after_byte text (before ++ m.white ++ m.key) (m.value ++ (modifiers_text ms ++ after)) colon
      (at + length m.white + length m.key + 1) split_colon (lit< tt)
      (omega (
        arith,
        e,
        length-append (before ++ m.white) m.key,
        length-append before m.white,
      )),
  modifiers_beside text (before ++ modifier_text m) after (at + length (modifier_text m)) ms are.1
      (whole ∙ ap (λ x. x ++ after) (sym (append_assoc before (modifier_text m)
      (modifiers_text ms))))
      (omega (arith, e, length-append before (modifier_text m))),
)
  where
    split_colon : text ≡ before ++ m.white ++ m.key
        ++ colon ∷ (m.value ++ (modifiers_text ms ++ after))
    split_colon = whole ∙ simp append_assoc

    split_white : text ≡ before ++ m.white
        ++ (m.key ++ (colon ∷ m.value ++ (modifiers_text ms ++ after)))
    split_white = whole ∙ simp append_assoc

-- The brackets of nested descriptions.

parts_beside : (text before after : Text) (at : ℕ) (ns : Nested)
    → text ≡ before ++ nested_text ns ++ after → at ≡ length before
    → PartsWithin (Beside text) (parts_from at ns)
parts_beside text before after at no_nested whole e = tt
parts_beside text before after at (nested white ps ns) whole e = (
  at_byte text (before ++ white) (spelling ps ++ (right ∷ nested_text ns ++ after)) left
      (at + length white) split (lit< tt) (omega (arith, e, length-append before white)),
  parts_beside text (before ++ white ++ left ∷ spelling ps ++ right ∷ []) after
      (at + length white + 1 + length (spelling ps) + 1) ns split_next
      (omega (
        arith,
        e,
        length-append (before ++ white ++ left ∷ spelling ps) (right ∷ []),
        length-append (before ++ white) (left ∷ spelling ps),
        length-append before white,
      )),
)
  where
    split : text ≡ before ++ white ++ left ∷ (spelling ps ++ (right ∷ nested_text ns ++ after))
    split = whole ∙ simp append_assoc

    split_next : text ≡ before ++ white ++ left ∷ spelling ps ++ right ∷ [] ++ nested_text ns ++ after
    split_next = whole ∙ simp append_assoc

-- The name, after the bracket and its white bytes.

opening_ends : (white : Text) → ZeroOrMore is_white white → Ends (left ∷ white)
opening_ends [] h = record { front = []; byte = left; whole = refl; ascii = lit< tt }
opening_ends (w ∷ white) h =
    let p = and_parts (is_white w) (list_all is_white white) h in
    let e = ends_with white w p.0 p.1 in
    record {
      front = left ∷ e.front;
      byte = e.byte;
      whole = ap (λ x. left ∷ x) e.whole;
      ascii = e.ascii;
    }

name_beside : (text after : Text) (h : Head) → IsHead h → text ≡ head_text h ++ after
    → Beside text (name_index h)
name_beside text after h is whole =
    after_ends text [] (left ∷ h.white) (h.name ++ modifiers_text h.modifiers ++ after)
    (name_index h) (whole ∙ regroup) (opening_ends h.white is.white) (omega arith)
  where
    regroup : head_text h ++ after
        ≡ [] ++ (left ∷ h.white) ++ (h.name ++ modifiers_text h.modifiers ++ after)
    regroup = simp append_assoc

all_beside : (text after : Text) (h : Head) → IsHead h → text ≡ head_text h ++ after
    → AllWithin (Beside text) (placed h)
all_beside text after h is whole =
    modifiers_beside text (left ∷ h.white ++ h.name) after (name_index h + length h.name)
    h.modifiers is.modifiers (whole ∙ regroup)
    (omega (arith, length-append h.white h.name))
  where
    regroup : head_text h ++ after
        ≡ (left ∷ h.white ++ h.name) ++ modifiers_text h.modifiers ++ after
    regroup = simp append_assoc

err_beside : (text : Text) (r : Result Tree Fault) (f : Fault) → r ≡ Err f
    → WithinAnswer (Beside text) r → Beside text f.index
err_beside text r f e h = subst (WithinAnswer (Beside text)) e h

-- Broken texts.

starts : (rest : Text) → Beside (left ∷ rest) 0
starts rest = at_byte (left ∷ rest) [] rest left 0 refl (lit< tt) refl

enclosed_beside : (p text : Text) (start : Beside (p ++ text) 0) (kind : Kind) (index : ℕ)
    → Beside text index → Beside (p ++ text) (enclosed kind index (length p)).index
enclosed_beside p text start unclosed_bracket index b = start
enclosed_beside p text start (invalid_name name) index b = further p text index _ refl b
enclosed_beside p text start (invalid_modifier value) index b = further p text index _ refl b
enclosed_beside p text start missing_name index b = further p text index _ refl b
enclosed_beside p text start (missing_modifier key) index b = further p text index _ refl b
enclosed_beside p text start (expected what) index b = further p text index _ refl b
enclosed_beside p text start (not_supported what context) index b =
    further p text index _ refl b
enclosed_beside p text start (duplicate_modifier key) index b = further p text index _ refl b
enclosed_beside p text start (invalid_combination key context) index b =
    further p text index _ refl b

misfit_beside : (before white : Text) (word : Misfit) (rest : Text) → OneOrMore is_white white
    → Beside (before ++ white ++ misfit_text word ++ rest)
    (misfit_fault word (length (before ++ white))).index
misfit_beside before white (no_colon word) rest h =
    after_ends _ before white (word ++ rest) (length (before ++ white)) (append_assoc (before ++ white) word rest)
    (ends_with_white white h) (length-append before white)
misfit_beside before white (no_key value) rest h =
    after_ends _ before white ((colon ∷ value) ++ rest) (length (before ++ white))
    (append_assoc (before ++ white) (colon ∷ value) rest)
    (ends_with_white white h) (length-append before white)
misfit_beside before white (no_value key) rest h =
    at_byte _ (before ++ white ++ key) rest colon (length (before ++ white) + length key) regroup
    (lit< tt) (omega (arith, length-append (before ++ white) key))
  where
    regroup : before ++ white ++ (key ++ colon ∷ []) ++ rest ≡ before ++ white ++ key ++ colon ∷ rest
    regroup = simp append_assoc

regroup4 : (a b c d : Text) → a ++ b ++ c ++ d ≡ a ++ (b ++ c ++ d)
regroup4 a b c d = simp append_assoc

pub broken_beside : (b : Broken) (v : DescriptionVersion) (limit n : ℕ) → IsBroken v limit n b
    → Beside (broken_text b) (broken_fault b).index
broken_beside (bare_closing rest) v limit n is = at_byte _ [] rest right 0 refl (lit< tt) refl
broken_beside (half_escape []) v limit n is = at_byte _ [] [] backslash 0 refl (lit< tt) refl
broken_beside (half_escape (c ∷ rest)) v limit n is =
    after_byte _ [] (c ∷ rest) backslash 1 refl (lit< tt) refl
broken_beside (nameless [] rest) v limit n is = starts rest
broken_beside (nameless (w ∷ white) rest) v limit n is =
    after_byte _ [] (w ∷ white ++ rest) left 1 refl (lit< tt) refl
broken_beside (ill_modified h white word rest) v limit n is =
    misfit_beside (head_text h) white word rest is.1
broken_beside (too_deep h ns white rest) v limit n is =
    at_byte _ (head_text h ++ nested_text ns ++ white) rest left
    (length (head_text h ++ nested_text ns ++ white)) (append_assoc (head_text h ++ nested_text ns ++ white) (left ∷ []) rest) (lit< tt) refl
broken_beside (broken_inside h ns white front inner) v limit n is =
    enclosed_beside (before_inner h ns white ++ spelling front) (broken_text inner) (starts _)
    (broken_fault inner).kind (broken_fault inner).index
    (broken_beside inner v limit (suc n) is.5)
broken_beside (cut_off h ns white front) v limit n is = starts _
broken_beside (unclosed h ns white rest) v limit n is = starts _
broken_beside (refused h ns white f rest) v limit n is =
    err_beside text (bracket_verdict v h ns white) f is.3
    (within_verdict (Beside text) (starts _) (is_version_three v) h
    (parts_from (length (head_text h)) ns) (length (head_text h ++ nested_text ns ++ white))
    (name_beside text (nested_text ns ++ white ++ right ∷ rest) h is.0 by_head)
    (all_beside text (nested_text ns ++ white ++ right ∷ rest) h is.0 by_head)
    (parts_beside text (head_text h) (white ++ right ∷ rest) (length (head_text h)) ns by_nested
    refl)
    (at_byte text (head_text h ++ nested_text ns ++ white) rest right _ refl (lit< tt) refl))
  where
    text : Text
    text = head_text h ++ nested_text ns ++ white ++ right ∷ rest

    by_head : text ≡ head_text h ++ (nested_text ns ++ white ++ right ∷ rest)
    by_head = regroup4 (head_text h) (nested_text ns) white (right ∷ rest)

    by_nested : text ≡ head_text h ++ nested_text ns ++ (white ++ right ∷ rest)
    by_nested = append_assoc (head_text h ++ nested_text ns) white (right ∷ rest)

pub placed_between_law : PlacedBetween
placed_between_law v limit text f utf8 h =
    boundary text f.index utf8
    (subst (λ x. Beside x f.index) (sym h.4)
    (further (spelling h.0) (broken_text h.1) (broken_fault h.1).index f.index
    (ap (λ x. x.index) h.5) (broken_beside h.1 v limit 0 h.3)))

-- Strftime.

flag_ascii : (b : ℕ) → IsTrue (is_flag b) → b < 128
flag_ascii b h = grind (arith, nat_tests)

ill_beside : (ill : IllDirective) → IsIll ill → Beside (ill_text ill) (ill_fault ill).index
ill_beside (cut_short unflagged) is = at_byte _ [] [] percent 0 refl (lit< tt) refl
ill_beside (cut_short (flagged b)) is =
    after_byte _ (percent ∷ []) [] b 2 refl (flag_ascii b is) refl
ill_beside (unknown unflagged b rest) is = after_byte _ [] (b ∷ rest) percent 1 refl (lit< tt) refl
ill_beside (unknown (flagged c) b rest) is =
    after_byte _ (percent ∷ []) (b ∷ rest) c 2 refl (flag_ascii c is.0) refl

pub strftime_placed_between_law : StrftimePlacedBetween
strftime_placed_between_law text f utf8 h =
    boundary text f.index utf8
    (subst (λ x. Beside x f.index) (sym h.4)
    (further (directives_text h.0) (ill_text h.1) (ill_fault h.1).index f.index
    (ap (λ x. x.index) h.5) (ill_beside h.1 h.3)))
