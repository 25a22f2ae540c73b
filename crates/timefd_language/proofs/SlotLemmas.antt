-- What a word at fault should have been: there is one answer, and it is the one of the reader's rule.
use Rattle.std.proofs.Common.{ℕ, ◌≡◌, ◌<◌, Bool, true, false, not, ◌==◌, List, [], ◌∷◌, ◌++◌, length, length-append, take, drop, Option, Some, None, option_map, ◌⊎◌, inl, inr, refl, sym, ap, ◌∙◌, subst, arith, append_assoc, append-nil}
use Rattle.std.specs.List.{list_all}
use Rattle.std.proofs.Math.Seq.{take-append_seam}
use Rattle.std.proofs.lemmas.Bool.{and_parts, true≢false}
use Rattle.std.proofs.lemmas.Bool.Decides.{nat_tests}
use Rattle.std.proofs.lemmas.Option.{none-some, same_Some}
use Rattle.timefd_lang_component.specs.Tree.{Text}
use Rattle.timefd_lang_fault.specs.Faults.{fault}
use Rattle.timefd_lang_fault.specs.RuleKinds.{rule_kind}
use Rattle.timefd_lang_fault.specs.Slots.{wanted_by}
use Rattle.timefd_lang_fault.specs.declared.key.Key as code_key
use Rattle.timefd_lang_fault.specs.declared.name.Name.{Name}
use Rattle.timefd_lang_fault.specs.declared.name.Name.TheVariants.{Optional, First, Component}
use Rattle.timefd_lang_fault.specs.declared.rule.Rule.{Rule}
use Rattle.timefd_lang_fault.specs.declared.rule.Rule.TheVariants as rules
use Rattle.timefd_lang_fault.specs.declared.rule.Slot.{Slot}
use Rattle.timefd_lang_fault.specs.declared.rule.Slot.TheVariants as slots
use Rattle.timefd_language.specs.declared.description_version.DescriptionVersion.{DescriptionVersion}
use Rattle.timefd_language.specs.declared.description_version.Language.TheVariants.{Version}
use Rattle.timefd_language.specs.Bytes.{left, colon, is_version_three, is_white, is_word_byte, is_key_byte, ZeroOrMore, OneOrMore, StopsBefore}
use Rattle.timefd_language.specs.Head.{Modifier, IsModifier, AreModifiers, Head, IsHead, modifier_text, modifiers_text, head_text}
use Rattle.timefd_language.specs.Lookup.{IsNameOf, key_for, keys_for, keys_of}
use Rattle.timefd_language.specs.Names.{row_for}
use Rattle.timefd_language.specs.Slots.{EndsInHead, EndsAfterHead, IsSlotAt, IsSlotIn, IsSlotAfter, IsWanted, IsWantedOf, WantsKey, WantsValue, WantsWord, WantsIn, colon_before}
use Rattle.timefd_language.specs.Values.{key_in}
use Rattle.timefd_language.proofs.Reader.{span}
use Rattle.timefd_language.proofs.Spans.{all-append, all-implied, zero_from_one, stops_one, stops_zero, white-not_word, word-not_white, key-word, span-exact}

-- The last byte that doesn't pass a test is one, and so is what follows it.

stands : (test : ℕ → Bool) (y : Text) (d : ℕ) (b : Text) → test d ≡ false
    → ZeroOrMore test (y ++ d ∷ b) → ⊥
stands test [] d b other h = true≢false (sym (and_parts (test d) (list_all test b) h).0 ∙ other)
stands test (c ∷ y) d b other h =
    stands test y d b other (and_parts (test c) (list_all test (y ++ d ∷ b)) h).1

pub one_last : (test : ℕ → Bool) (x y a b : Text) (c d : ℕ) → x ++ c ∷ a ≡ y ++ d ∷ b
    → test c ≡ false → test d ≡ false → ZeroOrMore test a → ZeroOrMore test b → a ≡ b
one_last test [] [] a b c d e tc td ha hb = ap (drop 1) e
one_last test [] (k ∷ y) a b c d e tc td ha hb =
    absurd (stands test y d b td (subst (ZeroOrMore test) (ap (drop 1) e) ha))
one_last test (k ∷ x) [] a b c d e tc td ha hb =
    absurd (stands test x c a tc (subst (ZeroOrMore test) (sym (ap (drop 1) e)) hb))
one_last test (j ∷ x) (k ∷ y) a b c d e tc td ha hb =
    one_last test x y a b c d (ap (drop 1) e) tc td ha hb

-- White bytes end with one.
record Last (text : Text) : Type 0 where
  pub front : Text
  pub byte : ℕ
  pub whole : text ≡ front ++ byte ∷ []
  pub white : is_white byte ≡ true

last_white : (text : Text) → OneOrMore is_white text → Last text
last_white [] some = absurd some
last_white (b ∷ []) some =
    record { front = []; byte = b; whole = refl; white = (and_parts (is_white b) true some).0 }
last_white (b ∷ c ∷ text) some =
    let more = last_white (c ∷ text)
    (and_parts (is_white b) (list_all is_white (c ∷ text)) some).1 in
    record {
      front = b ∷ more.front;
      byte = more.byte;
      whole = ap (λ t. b ∷ t) more.whole;
      white = more.white;
    }

at_last : (a u f : Text) (c : ℕ) (x : Text) → u ≡ f ++ c ∷ [] → a ++ (u ++ x) ≡ (a ++ f) ++ c ∷ x
at_last a u f c x e =
    ap (λ t. a ++ (t ++ x)) e ∙ ap (λ t. a ++ t) (append_assoc f (c ∷ []) x)
    ∙ sym (append_assoc a f (c ∷ x))

-- the last word, which may be empty, after white bytes
last_word : (a u x b v y : Text) → OneOrMore is_white u → OneOrMore is_white v
    → ZeroOrMore is_word_byte x → ZeroOrMore is_word_byte y → a ++ (u ++ x) ≡ b ++ (v ++ y) → x ≡ y
last_word a u x b v y white_u white_v words_x words_y e =
    let p = last_white u white_u in
    let q = last_white v white_v in
    one_last is_word_byte (a ++ p.front) (b ++ q.front) x y p.byte q.byte
    (sym (at_last a u p.front p.byte x p.whole) ∙ e ∙ at_last b v q.front q.byte y q.whole)
    (white-not_word p.byte p.white) (white-not_word q.byte q.white) words_x words_y

-- Bytes inside of a bracket.

abbrev pub is_inside : ℕ → Bool
is_inside b = not (b == left)

pub white-inside : (b : ℕ) → is_white b ≡ true → is_inside b ≡ true
white-inside b e = grind (arith, nat_tests)

pub word-inside : (b : ℕ) → is_word_byte b ≡ true → is_inside b ≡ true
word-inside b e = grind (arith, nat_tests)

pub key-inside : (b : ℕ) → is_key_byte b ≡ true → is_inside b ≡ true
key-inside b e = word-inside b (key-word b e)

modifier_inside : (m : Modifier) → IsModifier m → ZeroOrMore is_inside (modifier_text m)
modifier_inside m is =
    all-append is_inside (m.white ++ m.key) (colon ∷ m.value)
    (all-append is_inside m.white m.key
    (all-implied is_white is_inside white-inside m.white (zero_from_one is_white m.white is.white))
    (all-implied is_key_byte is_inside key-inside m.key (zero_from_one is_key_byte m.key is.key)))
    (all-implied is_word_byte is_inside word-inside m.value
    (zero_from_one is_word_byte m.value is.value))

modifiers_inside : (ms : List Modifier) → AreModifiers ms → ZeroOrMore is_inside (modifiers_text ms)
modifiers_inside [] are = refl
modifiers_inside (m ∷ ms) are =
    all-append is_inside (modifier_text m) (modifiers_text ms) (modifier_inside m are.0)
    (modifiers_inside ms are.1)

-- what follows the `[` of a head
abbrev pub in_head : Head → Text
in_head h = (h.white ++ h.name) ++ modifiers_text h.modifiers

pub head_inside : (h : Head) → IsHead h → ZeroOrMore is_inside (in_head h)
head_inside h is =
    all-append is_inside (h.white ++ h.name) (modifiers_text h.modifiers)
    (all-append is_inside h.white h.name (all-implied is_white is_inside white-inside h.white is.white)
    (all-implied is_word_byte is_inside word-inside h.name (zero_from_one is_word_byte h.name is.name)))
    (modifiers_inside h.modifiers is.modifiers)

-- Two heads that one text ends in have one name, and what follows both is the same.

pub same_front : (test : ℕ → Bool) (a b c d : Text) → a ++ b ≡ c ++ d → ZeroOrMore test a
    → ZeroOrMore test c → StopsBefore test b → StopsBefore test d → (a ≡ c) × (b ≡ d)
same_front test a b c d e ha hc hb hd =
    let s = sym (span-exact test a b ha hb) ∙ ap (span test) e ∙ span-exact test c d hc hd in
    (ap (λ x. x.front) s, ap (λ x. x.rest) s)

pub stops_name : (ms : List Modifier) (rest : Text) → AreModifiers ms → StopsBefore is_word_byte rest
    → StopsBefore is_word_byte (modifiers_text ms ++ rest)
stops_name [] rest are stops = stops
stops_name (m ∷ ms) rest are stops =
    let e : (((m.white ++ m.key) ++ colon ∷ m.value) ++ modifiers_text ms) ++ rest
    ≡ m.white ++ (m.key ++ (colon ∷ m.value ++ (modifiers_text ms ++ rest))) =
    simp append_assoc in
    subst (StopsBefore is_word_byte) (sym e)
    (stops_one is_white is_word_byte white-not_word m.white
    (m.key ++ (colon ∷ m.value ++ (modifiers_text ms ++ rest))) are.0.white)

abbrev after_name : Head → Text → Text
after_name h between = modifiers_text h.modifiers ++ between

same_head : (front : Text) (h k : Head) (a b : Text) → EndsInHead front h a → EndsInHead front k b
    → ZeroOrMore is_inside a → ZeroOrMore is_inside b → StopsBefore is_word_byte a
    → StopsBefore is_word_byte b → (h.name ≡ k.name) × (after_name h a ≡ after_name k b)
same_head front h k a b at_h at_k inside_a inside_b stops_a stops_b =
    let bracket : in_head h ++ a ≡ in_head k ++ b =
    one_last is_inside at_h.before at_k.before (in_head h ++ a) (in_head k ++ b) left left
    (sym at_h.whole ∙ at_k.whole) refl refl
    (all-append is_inside (in_head h) a (head_inside h at_h.is) inside_a)
    (all-append is_inside (in_head k) b (head_inside k at_k.is) inside_b) in
    let words = same_front is_white h.white (h.name ++ after_name h a) k.white
    (k.name ++ after_name k b)
    (sym (apart h.white h.name (modifiers_text h.modifiers) a) ∙ bracket
    ∙ apart k.white k.name (modifiers_text k.modifiers) b) at_h.is.white at_k.is.white
    (stops_one is_word_byte is_white word-not_white h.name (after_name h a) at_h.is.name)
    (stops_one is_word_byte is_white word-not_white k.name (after_name k b) at_k.is.name) in
    same_front is_word_byte h.name (after_name h a) k.name (after_name k b) words.1
    (zero_from_one is_word_byte h.name at_h.is.name) (zero_from_one is_word_byte k.name at_k.is.name)
    (stops_name h.modifiers a at_h.is.modifiers stops_a)
    (stops_name k.modifiers b at_k.is.modifiers stops_b)
  where
    apart : (w n m x : Text) → ((w ++ n) ++ m) ++ x ≡ w ++ (n ++ (m ++ x))
    apart w n m x = simp append_assoc

record SameWord (h k : Head) (x y : Text) : Type 0 where
  pub name : h.name ≡ k.name
  pub word : x ≡ y

same_word : (front : Text) (h k : Head) (u v x y : Text) → EndsInHead front h (u ++ x)
    → EndsInHead front k (v ++ y) → OneOrMore is_white u → OneOrMore is_white v
    → ZeroOrMore is_word_byte x → ZeroOrMore is_word_byte y → SameWord h k x y
same_word front h k u v x y at_h at_k white_u white_v words_x words_y =
    let s = same_head front h k (u ++ x) (v ++ y) at_h at_k (inside u x white_u words_x)
    (inside v y white_v words_y) (stops_one is_white is_word_byte white-not_word u x white_u)
    (stops_one is_white is_word_byte white-not_word v y white_v) in
    record {
      name = s.0;
      word =
          last_word (modifiers_text h.modifiers) u x (modifiers_text k.modifiers) v y white_u white_v
          words_x words_y s.1;
    }
  where
    inside : (u x : Text) → OneOrMore is_white u → ZeroOrMore is_word_byte x
        → ZeroOrMore is_inside (u ++ x)
    inside u x white words =
        all-append is_inside u x
        (all-implied is_white is_inside white-inside u (zero_from_one is_white u white))
        (all-implied is_word_byte is_inside word-inside x words)

-- A word names one thing.

pub unnamed : (strict : Bool) (word : Text) (name : Name) → IsNameOf strict word None
    → ¬ IsNameOf strict word (Some name)
unnamed strict word Optional none is = true≢false (sym is ∙ none.0)
unnamed strict word First none is = true≢false (sym is.1 ∙ none.1)
unnamed strict word (Component name) none is = none-some (row_for name) (sym none.2 ∙ is.2)

pub same_keys : (strict : Bool) (word : Text) (n m : Name) → IsNameOf strict word (Some n)
    → IsNameOf strict word (Some m) → keys_for n ≡ keys_for m
same_keys strict word Optional Optional a b = refl
same_keys strict word Optional First a b = absurd (true≢false (sym a ∙ b.0))
same_keys strict word Optional (Component m) a b = absurd (true≢false (sym a ∙ b.0))
same_keys strict word First Optional a b = absurd (true≢false (sym b ∙ a.0))
same_keys strict word First First a b = refl
same_keys strict word First (Component m) a b = absurd (true≢false (sym a.1 ∙ b.1))
same_keys strict word (Component n) Optional a b = absurd (true≢false (sym b ∙ a.0))
same_keys strict word (Component n) First a b = absurd (true≢false (sym b.1 ∙ a.1))
same_keys strict word (Component n) (Component m) a b =
    ap (λ r. r.keys) (same_Some (row_for n) (row_for m) (sym a.2 ∙ b.2))

pub keys_named : (strict : Bool) (word : Text) (o : Option Name) (m : Name) → IsNameOf strict word o
    → IsNameOf strict word (Some m) → keys_of o ≡ keys_for m
keys_named strict word None m a b = absurd (unnamed strict word m a b)
keys_named strict word (Some n) m a b = same_keys strict word n m a b

-- What a key and a colon, or nothing, follow.

pub some_bytes : (test : ℕ → Bool) (text : Text) → OneOrMore test text → 0 < length text
some_bytes test [] some = absurd some
some_bytes test (b ∷ text) some = omega arith

pub one_colon : (value : Text) → OneOrMore is_word_byte value → colon_before value ≡ colon ∷ []
one_colon [] some = absurd some
one_colon (b ∷ value) some = refl

colon_words : (word : Text) → ZeroOrMore is_word_byte (colon_before word)
colon_words [] = refl
colon_words (b ∷ word) = refl

pub key_words : (key word : Text) → ZeroOrMore is_key_byte key
    → ZeroOrMore is_word_byte (key ++ colon_before word)
key_words key word keys =
    all-append is_word_byte key (colon_before word) (all-implied is_key_byte is_word_byte key-word key keys)
    (colon_words word)

longer : (front at more : Text) (h : Head) (white : Text) → EndsInHead at h white
    → front ≡ at ++ more → EndsInHead front h (white ++ more)
longer front at more h white is e = record {
  before = is.before;
  is = is.is;
  whole = e ∙ ap (λ t. t ++ more) is.whole
      ∙ append_assoc is.before (head_text h ++ white) more
      ∙ ap (λ t. is.before ++ t) (append_assoc (head_text h) white more);
}

-- a slot of such a word, whose key may be another one
module _ (strict : Bool) (front at : Text) (name : Option Name) (after : EndsAfterHead strict at name)
    (key word : Text) (keys : ZeroOrMore is_word_byte key) (whole : front ≡ at ++ key) where
  is_there : EndsInHead front after.head (after.white ++ key)
  is_there = longer front at key after.head after.white after.ends whole

  pub key_named : (h : Head) (between : Text) (m : Name) → EndsInHead front h between
      → IsSlotAt strict h.name between word (slots.Key m) → IsNameOf strict after.head.name (Some m) × (key ≡ [])
  key_named h between m ends at_slot =
      let s = same_word front after.head h after.white between key [] is_there
      (subst (EndsInHead front h) (sym (append-nil between)) ends) after.all_white at_slot.1 keys refl in
      (subst (λ n. IsNameOf strict n (Some m)) (sym s.name) at_slot.0, s.word)

  pub value_named : (h : Head) (between : Text) (k : code_key.Key) → EndsInHead front h between
      → (at_slot : IsSlotAt strict h.name between word (slots.Value k))
      → IsNameOf strict after.head.name (Some at_slot.2) × (key ≡ at_slot.1 ++ colon_before word)
  value_named h between k ends at_slot =
      let s = same_word front after.head h after.white at_slot.0 key (at_slot.1 ++ colon_before word)
      is_there (subst (EndsInHead front h) at_slot.5 ends) after.all_white at_slot.3 keys
      (key_words at_slot.1 word at_slot.4) in
      (subst (λ n. IsNameOf strict n (Some at_slot.2)) (sym s.name) at_slot.6, s.word)

pub colon_stops : (word : Text) → StopsBefore is_key_byte (colon_before word)
colon_stops [] = tt
colon_stops (b ∷ word) = refl

pub no_room : (word key : Text) → 0 < length word → key ++ colon_before word ≡ [] → ⊥
no_room [] key some e = omega (arith, some)
no_room (b ∷ word) key some e = omega (arith, ap length e, length-append key (colon ∷ []))

-- The answer of the reader's rule.

wanted_key : (strict : Bool) (front word : Text) (wanted : Option Slot)
    → WantsKey strict front word wanted → IsSlotAfter strict front word wanted
wanted_key strict front word wanted w =
    subst (IsSlotAfter strict front word) (sym w.slot) (by w.name w.after)
  where
    none : (a : EndsAfterHead strict front None) (slot : Slot) (h : Head) (between : Text)
        → EndsInHead front h between → ¬ IsSlotAt strict h.name between word slot
    none a slots.Name h between ends at = at
    none a (slots.Key m) h between ends at =
        unnamed strict a.head.name m a.named
        (key_named strict front front None a [] word refl (sym (append-nil front)) h between m ends at).0
    none a (slots.Value k) h between ends at =
        unnamed strict a.head.name at.2 a.named
        (value_named strict front front None a [] word refl (sym (append-nil front)) h between k ends at).0

    by : (o : Option Name) → EndsAfterHead strict front o
        → IsSlotAfter strict front word (option_map slots.Key o)
    by None a = λ slot is. none a slot is.0 is.1 is.2 is.3
    by (Some n) a = (a.head, a.white, a.ends, (a.named, a.all_white, w.some))

wanted_value : (strict : Bool) (front word : Text) (wanted : Option Slot)
    → WantsValue strict front word wanted → IsSlotAfter strict front word wanted
wanted_value strict front word wanted w =
    subst (IsSlotAfter strict front word) (sym w.slot) (by w.key w.known)
  where
    words : ZeroOrMore is_word_byte (w.key_word ++ colon_before word)
    words = key_words w.key_word word w.key_bytes

    none : (slot : Slot) (h : Head) (between : Text) → EndsInHead front h between
        → None ≡ key_in strict w.key_word (keys_of w.name)
        → ¬ IsSlotAt strict h.name between word slot
    none slots.Name h between ends known at = at
    none (slots.Key m) h between ends known at =
        no_room word w.key_word at.2
        (key_named strict front w.at w.name w.after (w.key_word ++ colon_before word) word words w.whole
        h between m ends at).1
    none (slots.Value k) h between ends known at =
        let s = value_named strict front w.at w.name w.after (w.key_word ++ colon_before word) word words
        w.whole h between k ends at in
        let key = same_front is_key_byte w.key_word (colon_before word) at.1 (colon_before word) s.1
        w.key_bytes at.4 (colon_stops word) (colon_stops word) in
        none-some (key_for k) (known
        ∙ ap (λ ks. key_in strict w.key_word ks)
        (keys_named strict w.after.head.name w.name at.2 w.after.named s.0)
        ∙ ap (λ t. key_in strict t (keys_for at.2)) key.0 ∙ at.7)

    some : (k : code_key.Key) (o : Option Name) → EndsAfterHead strict w.at o
        → Some (key_for k) ≡ key_in strict w.key_word (keys_of o)
        → IsSlotIn strict front word (slots.Value k)
    some k None a known = absurd (none-some (key_for k) (sym known))
    some k (Some n) a known = (
      a.head,
      a.white ++ (w.key_word ++ colon_before word),
      longer front w.at (w.key_word ++ colon_before word) a.head a.white a.ends w.whole,
      (a.white, w.key_word, n, a.all_white, w.key_bytes, refl, a.named, sym known),
    )

    by : (k : Option code_key.Key) → option_map key_for k ≡ key_in strict w.key_word (keys_of w.name)
        → IsSlotAfter strict front word (option_map slots.Value k)
    by None known = λ slot is. none slot is.0 is.1 is.2 known is.3
    by (Some k) known = some k w.name w.after known

-- the slot of such a word
pub wanted_slot : (strict : Bool) (front word : Text) (wanted : Option Slot)
    → WantsWord strict front word wanted → (slot : Slot)
    → wanted ≡ Some slot → (s : Slot) × IsSlotIn strict front word s
wanted_slot strict front word wanted (inl k) slot e =
    (slot, subst (IsSlotAfter strict front word) e (wanted_key strict front word wanted k))
wanted_slot strict front word wanted (inr v) slot e =
    (slot, subst (IsSlotAfter strict front word) e (wanted_value strict front word wanted v))

wanted_word : (strict : Bool) (front word : Text) (wanted : Option Slot)
    → WantsWord strict front word wanted → IsSlotAfter strict front word wanted
wanted_word strict front word wanted (inl k) = wanted_key strict front word wanted k
wanted_word strict front word wanted (inr v) = wanted_value strict front word wanted v

wanted_in : (strict : Bool) (front : Text) (r : Rule) → WantsIn strict front r
    → IsWantedOf strict front (rule_kind r) (wanted_by r)
wanted_in strict front (rules.InvalidModifier word) w = wanted_word strict front word.now None w
wanted_in strict front (rules.UnknownKey word name) w =
    wanted_word strict front word.now (Some (slots.Key name)) w
wanted_in strict front (rules.UnknownValue word key) w =
    wanted_word strict front word.now (Some (slots.Value key)) w
wanted_in strict front (rules.UnknownLetter letter) h = absurd h
wanted_in strict front _ h = refl

pub version_slot : (v : DescriptionVersion) (text : Text) (r : Rule) (before rest : Text)
    → text ≡ before ++ rest → WantsIn (is_version_three v) before r
    → IsWanted (Version v) text (fault (rule_kind r) (length before)) (wanted_by r)
version_slot v text r before rest e h =
    subst (λ t. IsWantedOf (is_version_three v) t (rule_kind r) (wanted_by r))
    (sym (ap (take (length before)) e ∙ take-append_seam before rest))
    (wanted_in (is_version_three v) before r h)

-- What precedes the text makes no difference.

pub ends_after : (before front : Text) (h : Head) (between : Text) → EndsInHead front h between
    → EndsInHead (before ++ front) h between
ends_after before front h between is = record {
  before = before ++ is.before;
  is = is.is;
  whole = ap (λ t. before ++ t) is.whole
      ∙ sym (append_assoc before is.before (head_text h ++ between));
}

pub head_after : (strict : Bool) (before front : Text) (name : Option Name)
    → EndsAfterHead strict front name → EndsAfterHead strict (before ++ front) name
head_after strict before front name a = record {
  head = a.head;
  white = a.white;
  ends = ends_after before front a.head a.white a.ends;
  all_white = a.all_white;
  named = a.named;
}

word_after : (strict : Bool) (before front word : Text) (wanted : Option Slot)
    → WantsWord strict front word wanted → WantsWord strict (before ++ front) word wanted
word_after strict before front word wanted (inl k) = inl (record {
  name = k.name;
  after = head_after strict before front k.name k.after;
  some = k.some;
  slot = k.slot;
})
word_after strict before front word wanted (inr v) = inr (record {
  name = v.name;
  at = before ++ v.at;
  after = head_after strict before v.at v.name v.after;
  key_word = v.key_word;
  key_bytes = v.key_bytes;
  whole = ap (λ t. before ++ t) v.whole
      ∙ sym (append_assoc before v.at (v.key_word ++ colon_before word));
  key = v.key;
  known = v.known;
  slot = v.slot;
})

pub wants_after : (strict : Bool) (before front : Text) (r : Rule) → WantsIn strict front r
    → WantsIn strict (before ++ front) r
wants_after strict before front (rules.InvalidModifier word) w =
    word_after strict before front word.now None w
wants_after strict before front (rules.UnknownKey word name) w =
    word_after strict before front word.now (Some (slots.Key name)) w
wants_after strict before front (rules.UnknownValue word key) w =
    word_after strict before front word.now (Some (slots.Value key)) w
wants_after strict before front _ h = h
