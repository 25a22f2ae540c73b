-- The parts of a bracket: each is found, and is the only one.
use Rattle.std.proofs.Common.{◌≡◌, ◌∙◌, ℕ, suc, ◌<◌, Bool, List, [], ◌∷◌, ◌++◌, length, drop, Option, Some, None, MatchOption, IfSome, IsTrue, refl, sym, ap, subst, arith, append_assoc, length-append}
use Rattle.std.proofs.lemmas.Bool.{and_parts, both_ways, true≢false}
use Rattle.std.proofs.lemmas.List.{append_cancel_right, append_cancel_left}
use Rattle.std.specs.Borrow.{Bor}
use Rattle.std.specs.Prelude.{⊤}
use Rattle.timefd_lang_component.specs.Tree.{Text, Tree}
use Rattle.timefd_language.specs.declared.description_version.DescriptionVersion.{DescriptionVersion}
use Rattle.timefd_lang_fault.specs.declared.read_error.Fault as code_fault
use Rattle.timefd_language.specs.Bytes.{left, backslash, right, colon, is_white, is_word_byte, is_key_byte, is_run_byte, ZeroOrMore, OneOrMore, StopsBefore}
use Rattle.timefd_language.specs.Cut.{BeginsWith, IsCut}
use Rattle.timefd_lang_fault.specs.ReadErrors.{MemoryOr}
use Rattle.timefd_lang_fault.specs.ReadErrors.{IsInvalid}
use Rattle.timefd_language.specs.declared.description_version.DescriptionVersion.TheVariants.{Three}
use Rattle.timefd_lang_fault.specs.declared.read_error.ReadError.{ReadError}
use Rattle.timefd_lang_fault.specs.declared.read_error.ReadError.TheVariants as errors
use Rattle.timefd_language.specs.declared.text.Start.{Start}
use Rattle.timefd_language.specs.declared.text.Start.TheVariants as starts
use Rattle.timefd_language.specs.Front.{Stop, ended, closed, broke, Reads}
use Rattle.timefd_language.specs.Grammar.{Pieces, no_pieces, run, escape, closing, bracket, Nested, no_nested, nested, ArePieces, AreNested, spelling, Spells, nesting_limit}
use Rattle.timefd_language.specs.Head.{Head, IsHead, Modifier, IsModifier, AreModifiers, head_text, modifiers_text, modifier_text}
use Rattle.timefd_language.proofs.Before.{modifiers_before, modifiers_before-is, head_before-is}
use Rattle.timefd_language.proofs.HeadExact.{word_of-fits, word_of-misfits}
use Rattle.timefd_language.proofs.LawLemmas.{one_read}
use Rattle.timefd_language.proofs.Reader.{cut, span, reading, WordRead, fits, misfits, word_of}
use Rattle.timefd_language.proofs.Spans.{span-exact, stops_one, zero_from_one, all-append, all-implied, key-word, word-not_white, white-not_word}
use Rattle.timefd_parse.specs.declared.head.modifier.Modifier as code
use Rattle.timefd_parse.specs.BracketParts.{BeginsModified, BeginsNested}
use Rattle.timefd_parse.specs.ReadModifiers.{BeginsWithWord, IsWord, IsNoWord, ReadsWord}
use Rattle.timefd_parse.specs.Read.{PiecesToEnd, IsEnd, IsFaultIn}

-- Cuts.

pub record SameCut (a b c d : Text) : Type 0 where
  pub front : a ≡ c
  pub rest : b ≡ d

pub same_cut : (test : ℕ → Bool) (text a b c d : Text) → IsCut test text a b → text ≡ c ++ d
    → ZeroOrMore test c → StopsBefore test d → SameCut a b c d
same_cut test text a b c d is e passes stops =
    let s : cut a b ≡ cut c d =
    sym (span-exact test a b is.passes is.stops) ∙ ap (span test) (sym is.whole ∙ e)
    ∙ span-exact test c d passes stops in
    record { front = ap (λ x. x.front) s; rest = ap (λ x. x.rest) s }

some_word : (name : Text) → name ≡ [] → OneOrMore is_word_byte name → ⊥
some_word name none some = subst (OneOrMore is_word_byte) none some

empty_is : (text : Text) → length text ≡ 0 → text ≡ []
empty_is [] e = refl
empty_is (b ∷ text) e = absurd (omega arith)

not_empty : (test : ℕ → Bool) (text : Text) → (length text ≡ 0 → ⊥) → ZeroOrMore test text
    → OneOrMore test text
not_empty test [] some all = some refl
not_empty test (b ∷ text) some all = all

-- Names.

after_modifiers : (ms : List Modifier) (after : Text) → AreModifiers ms
    → StopsBefore is_word_byte after → StopsBefore is_word_byte (modifiers_before ms after)
after_modifiers [] after are stops = stops
after_modifiers (m ∷ ms) after are stops =
    stops_one is_white is_word_byte white-not_word m.white _ are.0.white

-- the name and what follows it are those of every head that the text begins with
pub same_name : (text inside white named name rest : Text) (h : Head) (after : Text)
    → text ≡ left ∷ inside → IsCut is_white inside white named
    → IsCut is_word_byte named name rest → IsHead h → StopsBefore is_word_byte after
    → text ≡ head_text h ++ after
    → SameCut name rest h.name (modifiers_text h.modifiers ++ after)
same_name text inside white named name rest h after e w n is stops whole =
    let f : inside ≡ h.white ++ (h.name ++ modifiers_before h.modifiers after) =
    ap (drop 1) (sym e ∙ whole ∙ sym (head_before-is h after)) in
    let first = same_cut is_white inside white named h.white
    (h.name ++ modifiers_before h.modifiers after) w f is.white
    (stops_one is_word_byte is_white word-not_white h.name _ is.name) in
    let second = same_cut is_word_byte named name rest h.name
    (modifiers_before h.modifiers after) n first.rest
    (zero_from_one is_word_byte h.name is.name)
    (after_modifiers h.modifiers after is.modifiers stops) in
    record {
      front = second.front;
      rest = second.rest ∙ modifiers_before-is h.modifiers after;
    }

pub never_nameless : (text inside white named name rest : Text) (h : Head) (after : Text)
    → length name ≡ 0
    → text ≡ left ∷ inside → IsCut is_white inside white named
    → IsCut is_word_byte named name rest → IsHead h → StopsBefore is_word_byte after
    → text ≡ head_text h ++ after → ⊥
never_nameless text inside white named name rest h after none e w n is stops whole =
    some_word h.name (sym (same_name text inside white named name rest h after e w n is stops
    whole).front ∙ empty_is name none) is.name

-- Modifiers.

white_of : (text white word : Text) → IsCut is_white text white word → (length white ≡ 0 → ⊥)
    → OneOrMore is_white white
white_of text white word w some = not_empty is_white white some w.passes

is_modified : (text white word rest : Text) (m : code.Modifier) (whole : Text)
    → IsCut is_white text white word → (length white ≡ 0 → ⊥)
    → BeginsWithWord word whole rest → IsWord whole (length word) m
    → BeginsModified text m rest
is_modified text white word rest m whole w some b is = record {
  modifier = record { white = white; key = m.key.now; value = m.value.now };
  is = record { white = white_of text white word w some; key = is.key; value = is.value };
  key = refl;
  value = refl;
  whole = w.whole ∙ ap (λ t. white ++ t) (b.cut.whole ∙ ap (λ t. t ++ rest) is.whole)
      ∙ sym (regrouped white m.key.now (colon ∷ m.value.now) rest);
  stops = b.cut.stops;
  key_position = omega (arith, is.key_position, ap length w.whole, length-append white word);
  value_position = omega (arith, is.value_position, is.key_position);
}
  where
    regrouped : (a b c d : Text) → (a ++ b ++ c) ++ d ≡ a ++ ((b ++ c) ++ d)
    regrouped a b c d = simp append_assoc

key_and_value : (m : Modifier) → IsModifier m → OneOrMore is_word_byte (m.key ++ colon ∷ m.value)
key_and_value m is = joined m.key m.value is.key is.value
  where
    joined : (key value : Text) → OneOrMore is_key_byte key → OneOrMore is_word_byte value
        → OneOrMore is_word_byte (key ++ colon ∷ value)
    joined [] value k v = absurd k
    joined (b ∷ key) value k v =
        all-append is_word_byte (b ∷ key) (colon ∷ value)
        (all-implied is_key_byte is_word_byte key-word (b ∷ key) k)
        (zero_from_one is_word_byte value v)

-- the white bytes and the word of a modifier that the text begins with
pub record CutWord (text white word : Text) (m : Modifier) (after : Text) : Type 0 where
  pub white_is : white ≡ m.white
  pub word_is : word ≡ (m.key ++ colon ∷ m.value) ++ after

pub cut_word : (text white word : Text) (m : Modifier) (after : Text)
    → IsCut is_white text white word → IsModifier m → text ≡ modifier_text m ++ after
    → CutWord text white word m after
cut_word text white word m after w is whole =
    let same = same_cut is_white text white word m.white ((m.key ++ colon ∷ m.value) ++ after) w
    (whole ∙ regrouped m.white m.key (colon ∷ m.value) after)
    (zero_from_one is_white m.white is.white)
    (stops_one is_word_byte is_white word-not_white (m.key ++ colon ∷ m.value) after
    (key_and_value m is)) in
    record { white_is = same.front; word_is = same.rest }
  where
    regrouped : (a b c d : Text) → (a ++ b ++ c) ++ d ≡ a ++ ((b ++ c) ++ d)
    regrouped a b c d = simp append_assoc

pub never_unspaced : (text white word : Text) (m : Modifier) (after : Text) → length white ≡ 0
    → IsCut is_white text white word → IsModifier m → text ≡ modifier_text m ++ after → ⊥
never_unspaced text white word m after none w is whole =
    subst (OneOrMore is_white) (sym (cut_word text white word m after w is whole).white_is
    ∙ empty_is white none) is.white

-- the word that a text begins with is the modifier's
word_of_text : (word : Text) (m : Modifier) (after front rest : Text)
    → word ≡ (m.key ++ colon ∷ m.value) ++ after → IsModifier m → StopsBefore is_word_byte after
    → IsCut is_word_byte word front rest
    → SameCut front rest (m.key ++ colon ∷ m.value) after
word_of_text word m after front rest e is stops c =
    same_cut is_word_byte word front rest (m.key ++ colon ∷ m.value) after c e
    (zero_from_one is_word_byte _ (key_and_value m is)) stops

abbrev key_in : WordRead → Text
key_in (fits key value) = key
key_in (misfits m) = []

abbrev value_in : WordRead → Text
value_in (fits key value) = value
value_in (misfits m) = []

abbrev DoesFit : WordRead → Type 0
DoesFit (fits key value) = ⊤
DoesFit (misfits m) = ⊥

-- what was read is the modifier that the text begins with
pub record SameModifier (m : Modifier) (after : Text) (c : code.Modifier) (rest : Text) : Type 0
  where
    pub key : c.key.now ≡ m.key
    pub value : c.value.now ≡ m.value
    pub after_is : rest ≡ after

same_modifier : (text white word : Text) (m : Modifier) (after whole rest : Text)
    (c : code.Modifier) → IsCut is_white text white word → IsModifier m
    → StopsBefore is_word_byte after → text ≡ modifier_text m ++ after
    → BeginsWithWord word whole rest → IsWord whole (length word) c
    → SameModifier m after c rest
same_modifier text white word m after whole rest c w is stops e b of =
    let same = word_of_text word m after whole rest
    (cut_word text white word m after w is e).word_is is stops b.cut in
    let r : fits c.key.now c.value.now ≡ fits m.key m.value =
    sym (word_of-fits c.key.now c.value.now of.key of.value)
    ∙ ap word_of (sym of.whole ∙ same.front) ∙ word_of-fits m.key m.value is.key is.value in
    record { key = ap key_in r; value = ap value_in r; after_is = same.rest }

never_wordless : (text white word : Text) (m : Modifier) (after : Text)
    → IsCut is_white text white word → IsModifier m → text ≡ modifier_text m ++ after
    → StopsBefore is_word_byte word → ⊥
never_wordless text white word m after w is e none =
    stops_twice (m.key ++ colon ∷ m.value) after (key_and_value m is)
    (subst (StopsBefore is_word_byte) (cut_word text white word m after w is e).word_is none)
  where
    stops_twice : (front after : Text) → OneOrMore is_word_byte front
        → StopsBefore is_word_byte (front ++ after) → ⊥
    stops_twice [] after some none = some
    stops_twice (b ∷ front) after some none =
        both_ways (is_word_byte b) none (and_parts (is_word_byte b) _ some).0

pub never_misfit : (text white word : Text) (m : Modifier) (after whole rest : Text)
    (remaining : ℕ) (f : code_fault.Fault) → IsCut is_white text white word → IsModifier m
    → StopsBefore is_word_byte after → text ≡ modifier_text m ++ after
    → BeginsWithWord word whole rest → IsNoWord whole remaining f → ⊥
never_misfit text white word m after whole rest remaining f w is stops e b bad =
    let same = word_of_text word m after whole rest
    (cut_word text white word m after w is e).word_is is stops b.cut in
    let r : fits m.key m.value ≡ misfits bad.0 =
    sym (word_of-fits m.key m.value is.key is.value)
    ∙ ap word_of (sym same.front ∙ bad.2) ∙ word_of-misfits bad.0 bad.1 in
    subst DoesFit r tt

-- what the call finds

pub modified : (text white word : Text) (found : Option (code.Modifier × Bor (List ℕ)))
    → IsCut is_white text white word → (length white ≡ 0 → ⊥) → ReadsWord word found
    → IfSome found (λ parts. BeginsModified text parts.0 parts.1.now)
modified text white word None w some is = tt
modified text white word (Some x) w some is =
    is_modified text white word x.1.now x.0 is.0 w some is.1 is.2

pub modifier_found : (text white word : Text) (m : Modifier) (after : Text)
    (found : Option (code.Modifier × Bor (List ℕ))) → IsCut is_white text white word
    → IsModifier m → StopsBefore is_word_byte after → text ≡ modifier_text m ++ after
    → ReadsWord word found
    → MatchOption found ⊥ (λ parts. (parts.0.key.now ≡ m.key) × (parts.0.value.now ≡ m.value)
    × (parts.1.now ≡ after))
modifier_found text white word m after None w is stops e none =
    never_wordless text white word m after w is e none
modifier_found text white word m after (Some x) w is stops e read =
    let same = same_modifier text white word m after read.0 x.1.now x.0 w is stops e read.1
    read.2 in
    (same.key, same.value, same.after_is)

-- Nested descriptions.

no_run_byte : (b : ℕ) → IsTrue (is_run_byte Three b) → b ≡ left → ⊥
no_run_byte b passes e = true≢false (sym passes ∙ ap (is_run_byte Three) e)

first_byte : (a b : ℕ) (x y : Text) → a ∷ x ≡ b ∷ y → a ≡ b
first_byte a b x y e = cc

pub never_opened : (s : Start) (rest inner after : Text) → BeginsWith s rest
    → ((x : Bor (List ℕ)) → s ≡ starts.Opening x → ⊥)
    → rest ≡ left ∷ (inner ++ right ∷ after) → ⊥
never_opened starts.End rest inner after is opening e = omega (arith, ap length (sym is ∙ e))
never_opened (starts.Opening x) rest inner after is opening e = opening x refl
never_opened (starts.Closing x) rest inner after is opening e =
    omega (arith, first_byte right left x.now (inner ++ right ∷ after) (sym is ∙ e))
never_opened (starts.Backslash x) rest inner after is opening e =
    omega (arith, first_byte backslash left x.now (inner ++ right ∷ after) (sym is ∙ e))
never_opened starts.Other rest inner after is opening e =
    no_run_byte is.0 is.3 (first_byte is.0 left is.1 (inner ++ right ∷ after) (sym is.2 ∙ e))

pub inside_is : (rest inside inner after : Text) → rest ≡ left ∷ inside
    → rest ≡ left ∷ (inner ++ right ∷ after) → inside ≡ inner ++ right ∷ after
inside_is rest inside inner after e f = ap (drop 1) (sym e ∙ f)

-- what is spelled inside of a description is spelled outside too
mutual
  pub outer_pieces : (ps : Pieces) (v : DescriptionVersion) (limit n : ℕ)
      → ArePieces v limit (suc n) ps → ArePieces v limit n ps
  outer_pieces no_pieces v limit n are = tt
  outer_pieces (run bytes rest) v limit n are =
      (are.0, are.1, outer_pieces rest v limit n are.2)
  outer_pieces (escape a b rest) v limit n are = (are.0, outer_pieces rest v limit n are.1)
  outer_pieces (closing rest) v limit n are = absurd (omega (arith, are.1))
  outer_pieces (bracket h ns white tree rest) v limit n are = (
    are.0,
    outer_nested ns v limit n are.1,
    are.2,
    are.3,
    outer_pieces rest v limit n are.4,
  )

  outer_nested : (ns : Nested) (v : DescriptionVersion) (limit n : ℕ)
      → AreNested v limit (suc n) ns → AreNested v limit n ns
  outer_nested no_nested v limit n are = tt
  outer_nested (nested white ps ns) v limit n are = (
    are.0,
    omega (arith, are.1),
    outer_pieces ps v limit (suc n) are.2,
    outer_nested ns v limit n are.3,
  )

outer : (v : DescriptionVersion) (limit : ℕ) (text : Text) (list : List Tree)
    → Spells v limit 1 text list → Spells v limit 0 text list
outer v limit text list s = (s.0, outer_pieces s.0 v limit 0 s.1, s.2, s.3)

is_nested : (v : DescriptionVersion) (text white after inside inner end rest : Text)
    (read : List Tree) → IsCut is_white text white after → after ≡ left ∷ inside
    → PiecesToEnd v nesting_limit 1 inside read end → inner ++ end ≡ inside
    → end ≡ right ∷ rest → BeginsNested v text inner rest
is_nested v text white after inside inner end rest read w b are joined e =
    let inner_is : inner ≡ spelling are.0 =
    append_cancel_right inner (spelling are.0) end (joined ∙ are.2) in
    let s : Spells v nesting_limit 1 inner read = (are.0, are.1, inner_is, sym are.3) in
    record {
      white = white;
      list = read;
      all_white = w.passes;
      whole = w.whole ∙ ap (λ t. white ++ t)
          (b ∙ ap (λ t. left ∷ t) (sym joined ∙ ap (λ t. inner ++ t) e));
      inside = s;
      alone = outer v nesting_limit inner read s;
    }

-- the text after the `[` of a nested description that the text begins with
pub cut_nested : (text white after w inner rest : Text) → IsCut is_white text white after
    → ZeroOrMore is_white w → text ≡ w ++ left ∷ (inner ++ right ∷ rest)
    → after ≡ left ∷ (inner ++ right ∷ rest)
cut_nested text white after w inner rest is all e =
    (same_cut is_white text white after w (left ∷ (inner ++ right ∷ rest)) is e all refl).rest

closed_reads : (v : DescriptionVersion) (text inner rest : Text) (list : List Tree)
    (s : Spells v nesting_limit 1 inner list) → text ≡ inner ++ right ∷ rest
    → Reads v nesting_limit 1 text (reading s.0 (closed rest))
closed_reads v text inner rest list s e = record {
  front = s.1;
  stop = omega arith;
  whole = e ∙ ap (λ t. t ++ right ∷ rest) s.2;
}

abbrev end_stop : Text → Stop
end_stop [] = ended
end_stop (b ∷ rest) = closed rest

end_reads : (v : DescriptionVersion) (text end : Text) (front : Pieces)
    → ArePieces v nesting_limit 1 front → text ≡ spelling front ++ end → IsEnd 1 end
    → Reads v nesting_limit 1 text (reading front (end_stop end))
end_reads v text [] front are e is = record { front = are; stop = tt; whole = e }
end_reads v text (b ∷ rest) front are e is = record {
  front = are;
  stop = is.1;
  whole = e ∙ ap (λ x. spelling front ++ x ∷ rest) is.0;
}

-- what was read up to its end is the nested description, and its `]` comes next
pub record SameNested (inside inner rest end : Text) : Type 0 where
  pub end_is : end ≡ right ∷ rest
  pub inner_is : (front : Text) → front ++ end ≡ inside → front ≡ inner

same_nested : (v : DescriptionVersion) (inside inner rest : Text) (list : List Tree)
    (read : List Tree) (end : Text) → Spells v nesting_limit 1 inner list
    → inside ≡ inner ++ right ∷ rest → PiecesToEnd v nesting_limit 1 inside read end
    → SameNested inside inner rest end
same_nested v inside inner rest list read end s e are =
    let one = one_read v nesting_limit 1 inside _ _
    (closed_reads v inside inner rest list s e)
    (end_reads v inside end are.0 are.1 are.2 are.4) in
    let inner_is : inner ≡ spelling are.0 = s.2 ∙ ap (λ r. spelling r.front) one in
    let end_is : right ∷ rest ≡ end =
    append_cancel_left inner (right ∷ rest) end
    (sym e ∙ are.2 ∙ ap (λ t. t ++ end) (sym inner_is)) in
    record {
      end_is = sym end_is;
      inner_is = λ front f. append_cancel_right front inner end
          (f ∙ e ∙ ap (λ t. inner ++ t) end_is);
    }

abbrev DoesClose : Stop → Type 0
DoesClose ended = ⊥
DoesClose (closed rest) = ⊤
DoesClose (broke b) = ⊥

never_broken : (v : DescriptionVersion) (inside inner rest : Text) (list : List Tree)
    (f : code_fault.Fault) → Spells v nesting_limit 1 inner list
    → inside ≡ inner ++ right ∷ rest → IsFaultIn v nesting_limit 1 inside f → ⊥
never_broken v inside inner rest list f s e bad =
    let one = one_read v nesting_limit 1 inside _ (reading bad.0 (broke bad.1))
    (closed_reads v inside inner rest list s e)
    (record { front = bad.2; stop = bad.3; whole = bad.4 }) in
    subst (λ r. DoesClose r.stop) one tt

pub never_broken_so : (v : DescriptionVersion) (inside inner rest : Text) (list : List Tree)
    (e : ReadError) → Spells v nesting_limit 1 inner list → inside ≡ inner ++ right ∷ rest
    → MemoryOr (IsFaultIn v nesting_limit 1 inside) e → IsInvalid e → ⊥
never_broken_so v inside inner rest list (errors.Invalid f) s e bad is =
    never_broken v inside inner rest list f s e bad
never_broken_so v inside inner rest list errors.Memory s e bad is = is

-- what the call finds

pub nested_at : (v : DescriptionVersion) (text white after inside end : Text) (read : List Tree)
    (found : Option (Bor (List ℕ) × Bor (List ℕ))) → IsCut is_white text white after
    → after ≡ left ∷ inside → PiecesToEnd v nesting_limit 1 inside read end
    → IfSome found (λ parts. (parts.0.now ++ end ≡ inside) × (end ≡ right ∷ parts.1.now))
    → IfSome found (λ parts. BeginsNested v text parts.0.now parts.1.now)
nested_at v text white after inside end read None w b are is = tt
nested_at v text white after inside end read (Some x) w b are is =
    is_nested v text white after inside x.0.now end x.1.now read w b are is.0 is.1

pub nested_found : (v : DescriptionVersion) (inside inner after : Text) (list read : List Tree)
    (end : Text) (found : Option (Bor (List ℕ) × Bor (List ℕ)))
    → Spells v nesting_limit 1 inner list → inside ≡ inner ++ right ∷ after
    → PiecesToEnd v nesting_limit 1 inside read end
    → ((rest : List ℕ) → end ≡ right ∷ rest → MatchOption found ⊥
    (λ parts. (parts.0.now ++ end ≡ inside) × (parts.1.now ≡ rest)))
    → MatchOption found ⊥ (λ parts. (parts.0.now ≡ inner) × (parts.1.now ≡ after))
nested_found v inside inner after list read end found s e are finds =
    let same = same_nested v inside inner after list read end s e are in
    reported found same.inner_is (finds after same.end_is)
  where
    reported : (found : Option (Bor (List ℕ) × Bor (List ℕ)))
        → ((front : Text) → front ++ end ≡ inside → front ≡ inner)
        → MatchOption found ⊥ (λ parts. (parts.0.now ++ end ≡ inside) × (parts.1.now ≡ after))
        → MatchOption found ⊥ (λ parts. (parts.0.now ≡ inner) × (parts.1.now ≡ after))
    reported None inner_is is = is
    reported (Some x) inner_is is = (inner_is x.0.now is.0, is.1)

-- Less of the text is left after each part.

pub modified_shorter : (text : Text) (found : Option (code.Modifier × Bor (List ℕ)))
    → IfSome found (λ parts. BeginsModified text parts.0 parts.1.now)
    → IfSome found (λ parts. length parts.1.now < length text)
modified_shorter text None is = tt
modified_shorter text (Some x) is =
    let m = is.modifier in
    omega (
      arith,
      ap length is.whole,
      length-append (modifier_text m) x.1.now,
      length-append (m.white ++ m.key) (colon ∷ m.value),
    )

pub nested_shorter : (v : DescriptionVersion) (text : Text)
    (found : Option (Bor (List ℕ) × Bor (List ℕ)))
    → IfSome found (λ parts. BeginsNested v text parts.0.now parts.1.now)
    → IfSome found (λ parts. length parts.1.now < length text)
nested_shorter v text None is = tt
nested_shorter v text (Some x) is =
    omega (
      arith,
      ap length is.whole,
      length-append is.white (left ∷ (x.0.now ++ right ∷ x.1.now)),
      length-append x.0.now (right ∷ x.1.now),
    )
