-- Which bytes are at fault, for each reader.
use Rattle.std.proofs.Common.{◌≡◌, ℕ, ◌+◌, ◌<◌, ◌≤◌, Bool, true, false, List, [], ◌∷◌, ◌++◌, length, Option, Some, None, IfSome, option_map, lit<, refl, sym, ap, ◌∙◌, subst, arith, append_assoc, append-nil, inl, inr, ◌⊎◌, length-append}
use Rattle.std.specs.List.{list_all}
use Rattle.std.proofs.lemmas.Bool.{and_parts}
use Rattle.std.proofs.lemmas.Bool.Decides.{nat_tests}
use Rattle.timefd_lang_component.specs.Tree.{Text}
use Rattle.timefd_lang_fault.specs.Faults.{Fault}
use Rattle.timefd_lang_fault.specs.RuleKinds.{rule_kind}
use Rattle.timefd_lang_fault.specs.declared.read_error.Fault as code_fault
use Rattle.timefd_lang_fault.specs.declared.key.Key as code_key
use Rattle.timefd_lang_fault.specs.declared.name.Name.{Name}
use Rattle.timefd_lang_fault.specs.declared.rule.Slot.{Slot}
use Rattle.timefd_lang_fault.specs.declared.rule.Slot.TheVariants as slots
use Rattle.timefd_language.specs.Bytes.{left, colon, equal, is_white, is_word_byte, is_key_byte, ZeroOrMore, OneOrMore, StopsBefore}
use Rattle.timefd_language.specs.Cut.{IsCut}
use Rattle.timefd_language.specs.Head.{Modifier, AreModifiers, modifier_text, modifiers_text, Head, head_text, placed, placed_from}
use Rattle.timefd_language.specs.Lookup.{IsNameOf, key_for, keys_of}
use Rattle.timefd_language.specs.Slots.{EndsAfterHead, WantsIn, WantsKey, WantsValue, colon_before}
use Rattle.timefd_language.specs.Values.{key_in}
use Rattle.timefd_language.specs.Spans.{one_character, whole_word, whole_key, modifier_extent, version_extent, SpansVersion}
use Rattle.timefd_language.proofs.Lookup.{equal-true}
use Rattle.timefd_language.proofs.Spans.{zero_from_one, white-not_word}
use Rattle.timefd_language.proofs.SlotLemmas.{one_colon, some_bytes}
use Rattle.timefd_language.proofs.SpanLemmas.{some_extent, spans_byte, spans_bytes, spans_key, spans_word}
use Rattle.timefd_parse.specs.declared.head.Head as code_head
use Rattle.timefd_parse.specs.declared.head.verdict.HeadVerdict.{HeadVerdict}
use Rattle.timefd_parse.specs.declared.head.verdict.HeadVerdict.TheVariants as verdicts
use Rattle.timefd_parse.specs.declared.head.modifier.Modifier as code_modifier
use Rattle.timefd_parse.specs.declared.head.modifiers.Modifiers as code_modifiers
use Rattle.timefd_parse.specs.declared.head.positions.Positions.{Positions}
use Rattle.timefd_language.specs.Head.{Placed}
use Rattle.timefd_parse.specs.Checked.{first_position, ShowsFault, ShowsPosition}
use Rattle.timefd_parse.specs.HeadVerdicts.{IsPlain}
use Rattle.timefd_parse.specs.Heads.{BeginsWithHead}
use Rattle.timefd_parse.specs.Judged.{ShowsPositions}
use Rattle.timefd_parse.specs.Positions.{position}
use Rattle.timefd_parse.proofs.ModifierLemmas.{one_or_more}
use Rattle.timefd_parse.specs.ReadModifiers.{BeginsWithWord, IsWord, StandsIn}
use Rattle.timefd_parse.specs.Spans.{HasByteAt, HasKeyAt, HaveKeys, SpansRefusal}

-- one byte

pub byte_spans : (strict : Bool) (text : Text) (remaining : ℕ) (f : code_fault.Fault)
    → HasByteAt text remaining → f.remaining ≡ remaining → f.len ≡ 1
    → version_extent (rule_kind f.rule) ≡ one_character
    → ((front : Text) → WantsIn strict front f.rule) → SpansVersion strict text f
byte_spans strict text remaining f h at len is wanted =
    spans_byte version_extent (WantsIn strict) text h.before h.byte h.rest f h.whole h.ascii is
    (at ∙ h.position) len (wanted h.before)

pub byte_at : (text before : Text) (b : ℕ) (rest : Text) (remaining : ℕ) → text ≡ before ++ b ∷ rest
    → b < 128 → remaining ≡ length (b ∷ rest) → HasByteAt text remaining
byte_at text before b rest remaining e ascii at =
    record { before = before; byte = b; rest = rest; whole = e; ascii = ascii; position = at }

white_ascii : (b : ℕ) → is_white b ≡ true → b < 128
white_ascii b white = grind (arith, nat_tests)

-- the first white byte after a `[`
pub white_spans : (strict : Bool) (inside white named : Text) (f : code_fault.Fault)
    → IsCut is_white inside white named → 0 < length white → f.remaining ≡ length inside → f.len ≡ 1
    → version_extent (rule_kind f.rule) ≡ one_character
    → ((front : Text) → WantsIn strict front f.rule) → SpansVersion strict (left ∷ inside) f
white_spans strict inside [] named f cut some at len is wanted = absurd (omega arith)
white_spans strict inside (b ∷ white) named f cut some at len is wanted =
    spans_byte version_extent (WantsIn strict) (left ∷ inside) (left ∷ []) b (white ++ named) f
    (ap (λ t. left ∷ t) cut.whole)
    (white_ascii b (and_parts (is_white b) (list_all is_white white) cut.passes).0) is
    (at ∙ ap length cut.whole) len (wanted (left ∷ []))

-- Modifiers.

module _ (strict : Bool) (text : Text) (name : Option Name) (m : code_modifier.Modifier)
    (stands : StandsIn strict text name m) (f : code_fault.Fault) where
  pub key_spans : f.remaining ≡ m.key_remaining → f.len ≡ length m.key.now
      → version_extent (rule_kind f.rule) ≡ modifier_extent m.key.now
      → WantsIn strict stands.before f.rule → SpansVersion strict text f
  key_spans at len is wanted =
      spans_bytes strict text stands.before m.key.now (colon ∷ (m.value.now ++ stands.rest)) f stands.whole
      (at ∙ stands.key_position) len wanted
      (is ∙ some_extent m.key.now (some_bytes is_key_byte m.key.now stands.key))

  pub again_spans : f.remaining ≡ m.key_remaining → f.len ≡ length m.key.now
      → version_extent (rule_kind f.rule) ≡ whole_key → WantsIn strict stands.before f.rule
      → SpansVersion strict text f
  again_spans at len is wanted =
      spans_key strict text stands.before m.key.now (colon ∷ (m.value.now ++ stands.rest)) f stands.whole
      (at ∙ stands.key_position) len wanted (zero_from_one is_key_byte m.key.now stands.key) refl is

  pub value_spans : f.remaining ≡ m.value_remaining → f.len ≡ length m.value.now
      → version_extent (rule_kind f.rule) ≡ modifier_extent m.value.now
      → WantsIn strict (stands.before ++ (m.key.now ++ colon ∷ [])) f.rule
      → SpansVersion strict text f
  value_spans at len is wanted =
      spans_bytes strict text (stands.before ++ (m.key.now ++ colon ∷ [])) m.value.now stands.rest f
      (stands.whole ∙ simp append_assoc) (at ∙ stands.value_position) len wanted
      (is ∙ some_extent m.value.now (some_bytes is_word_byte m.value.now stands.value))

-- what should have been there in place of a modifier's value

pub value_wanted : (strict : Bool) (text : Text) (name : Option Name) (m : code_modifier.Modifier)
    (stands : StandsIn strict text name m) (key : code_key.Key)
    → Some (key_for key) ≡ key_in strict m.key.now (keys_of name)
    → WantsValue strict (stands.before ++ (m.key.now ++ colon ∷ [])) m.value.now (Some (slots.Value key))
value_wanted strict text name m stands key known = record {
  name = name;
  at = stands.before;
  after = stands.after;
  key_word = m.key.now;
  key_bytes = zero_from_one is_key_byte m.key.now stands.key;
  whole = ap (λ t. stands.before ++ (m.key.now ++ t)) (sym (one_colon m.value.now stands.value));
  key = Some key;
  known = known;
  slot = refl;
}

-- at a colon before which there is no key, or after which there is no value
pub no_value : (strict : Bool) (front at : Text) (name : Option Name) (key : Text)
    (wanted : Option Slot) → EndsAfterHead strict at name → ZeroOrMore is_key_byte key
    → front ≡ at ++ key
    → (k : Option code_key.Key) × (option_map key_for k ≡ key_in strict key (keys_of name))
    × (wanted ≡ option_map slots.Value k)
    → WantsKey strict front [] wanted ⊎ WantsValue strict front [] wanted
no_value strict front at name key wanted after keys whole found = inr (record {
  name = name;
  at = at;
  after = after;
  key_word = key;
  key_bytes = keys;
  whole = whole ∙ ap (λ t. at ++ t) (sym (append-nil key));
  key = found.0;
  known = found.1;
  slot = found.2;
})

pub stands_in : (strict : Bool) (text front after word rest : Text) (name : Option Name)
    (m : code_modifier.Modifier) → text ≡ front ++ after → EndsAfterHead strict front name
    → BeginsWithWord after word rest → IsWord word (length after) m → StandsIn strict text name m
stands_in strict text front after word rest name m e head begins is =
    let whole : after ≡ m.key.now ++ colon ∷ (m.value.now ++ rest) =
    begins.cut.whole ∙ ap (λ t. t ++ rest) is.whole
    ∙ append_assoc m.key.now (colon ∷ m.value.now) rest in
    record {
      before = front;
      after = head;
      rest = rest;
      key = is.key;
      value = is.value;
      whole = e ∙ ap (λ t. front ++ t) whole;
      key_position = is.key_position ∙ ap length whole;
      value_position = omega (
        arith,
        is.value_position,
        ap length whole,
        length-append m.key.now (colon ∷ (m.value.now ++ rest)),
      );
    }

-- what precedes the rest of a head
pub before_rest : Text → Text → Text → Text → Text
before_rest white word before white' = left ∷ (white ++ (word ++ (before ++ white')))

pub head_joined : (inside white named word start before rest white' after : Text)
    → inside ≡ white ++ named → named ≡ word ++ start → start ≡ before ++ rest
    → rest ≡ white' ++ after → left ∷ inside ≡ before_rest white word before white' ++ after
unfolding before_rest
head_joined inside white named word start before rest white' after a b c d =
    ap (λ t. left ∷ t) (a ∙ ap (λ t. white ++ t) (b ∙ ap (λ t. word ++ t)
    (c ∙ ap (λ t. before ++ t) d))) ∙ simp append_assoc

pub spans_there : (strict : Bool) (whole text : Text) (f : code_fault.Fault) → whole ≡ text
    → SpansVersion strict text f → SpansVersion strict whole f
spans_there strict whole text f e is = subst (λ t. SpansVersion strict t f) (sym e) is

-- what precedes a modifier is a head and white bytes
pub head_before : (strict : Bool) (inside white named word start white' : Text)
    (name : Option Name) (ms : List Modifier) → IsCut is_white inside white named
    → IsCut is_word_byte named word start → 0 < length word → IsNameOf strict word name
    → AreModifiers ms → OneOrMore is_white white'
    → EndsAfterHead strict (before_rest white word (modifiers_text ms) white') name
unfolding before_rest
head_before strict inside white named word start white' name ms w n some is are spaced = record {
  head = record { white = white; name = word; modifiers = ms };
  white = white';
  ends = record {
    before = [];
    is = record { white = w.passes; name = one_or_more is_word_byte word some n.passes; modifiers = are };
    whole = ap (λ t. left ∷ t) (sym (append_assoc (white ++ word) (modifiers_text ms) white'
        ∙ append_assoc white word (modifiers_text ms ++ white')));
  };
  all_white = spaced;
  named = is;
}

-- no modifier was taken yet, so there is no fault
pub unfaulted : (total : ℕ) (o : Option code_fault.Fault) (P : code_fault.Fault → Type 0)
    → ShowsFault total o None → IfSome o P
unfaulted total None P shows = tt
unfaulted total (Some f) P shows = absurd shows

-- Heads.

-- a name ends where its modifiers begin, or at the white bytes after it
name_stops : (ms : List Modifier) (white rest : Text) → AreModifiers ms → ZeroOrMore is_white white
    → StopsBefore is_word_byte rest → StopsBefore is_word_byte (modifiers_text ms ++ (white ++ rest))
name_stops [] [] rest are white stops = stops
name_stops [] (b ∷ bytes) rest are white stops =
    white-not_word b (and_parts (is_white b) (list_all is_white bytes) white).0
name_stops (m ∷ ms) white rest are all stops = by m.white are.0.white
  where
    by : (w : Text) → OneOrMore is_white w
        → StopsBefore is_word_byte (((w ++ m.key ++ colon ∷ m.value) ++ modifiers_text ms) ++ (white ++ rest))
    by [] some = absurd some
    by (b ∷ bytes) some = white-not_word b (and_parts (is_white b) (list_all is_white bytes) some).0

module _ (strict : Bool) (text : Text) (head : code_head.Head) (modifiers : code_modifiers.Modifiers)
    (rest : Text) (h : Head) (begins : BeginsWithHead strict text head modifiers rest h) where
  pub name_spans : (f : code_fault.Fault) → f.remaining ≡ head.remaining
      → f.len ≡ length head.word.now → version_extent (rule_kind f.rule) ≡ whole_word
      → ((front : Text) → WantsIn strict front f.rule) → SpansVersion strict text f
  name_spans f at len is wanted =
      let more : Text = modifiers_text h.modifiers ++ (head.white.now ++ rest) in
      let whole : text ≡ (left ∷ h.white) ++ (h.name ++ more) =
      begins.whole ∙ simp append_assoc in
      spans_word strict text (left ∷ h.white) h.name more f whole
      (omega (
        arith,
        at,
        begins.shows.position,
        ap length whole,
        length-append (left ∷ h.white) (h.name ++ more),
      ))
      (len ∙ ap length (sym begins.shows.word)) (wanted (left ∷ h.white))
      (zero_from_one is_word_byte h.name begins.is.name)
      (name_stops h.modifiers head.white.now rest begins.is.modifiers begins.all_white
      begins.stops_word) is

-- The first modifier with a key has it where the list says.
keys_from : (k : ℕ) (ms : List Modifier) → AreModifiers ms → (word : Text) (index : ℕ)
    → first_position word (placed_from k ms) ≡ Some index
    → (before after : Text) × OneOrMore is_key_byte word
    × (modifiers_text ms ≡ before ++ (word ++ colon ∷ after)) × (k + length before ≡ index)
keys_from k [] are word index e = absurd (cc)
keys_from k (m ∷ ms) are word index e =
    by (equal word m.key) refl e
    (keys_from (k + length (modifier_text m)) ms are.1 word index)
  where
    by : (t : Bool) → equal word m.key ≡ t
        → elim t as (λ _. Option ℕ) [
          | true ↦ Some (k + length m.white)
          | false ↦ first_position word (placed_from (k + length (modifier_text m)) ms)
        ] ≡ Some index
        → (first_position word (placed_from (k + length (modifier_text m)) ms) ≡ Some index
        → (before after : Text) × OneOrMore is_key_byte word
        × (modifiers_text ms ≡ before ++ (word ++ colon ∷ after))
        × (k + length (modifier_text m) + length before ≡ index))
        → (before after : Text) × OneOrMore is_key_byte word
        × (modifiers_text (m ∷ ms) ≡ before ++ (word ++ colon ∷ after)) × (k + length before ≡ index)
    by true same there more =
        let is : word ≡ m.key = equal-true word m.key same in
        let apart : modifiers_text (m ∷ ms) ≡ m.white ++ (m.key ++ colon ∷ (m.value ++ modifiers_text ms)) =
        simp append_assoc in (
          m.white,
          m.value ++ modifiers_text ms,
          subst (OneOrMore is_key_byte) (sym is) are.0.key,
          apart ∙ ap (λ t. m.white ++ (t ++ colon ∷ (m.value ++ modifiers_text ms))) (sym is),
          cc,
        )
    by false other there more =
        let later = more there in (
          modifier_text m ++ later.0,
          later.1,
          later.2,
          ap (λ t. modifier_text m ++ t) later.3
              ∙ sym (append_assoc (modifier_text m) later.0 (word ++ colon ∷ later.1)),
          omega (arith, later.4, length-append (modifier_text m) later.0),
        )

module _ (strict : Bool) (text : Text) (head : code_head.Head) (modifiers : code_modifiers.Modifiers)
    (rest : Text) (h : Head) (begins : BeginsWithHead strict text head modifiers rest h) where
  pub have_keys : HaveKeys text (placed h)
  have_keys = λ word index e.
      let there = keys_from (1 + length h.white + length h.name) h.modifiers begins.is.modifiers word
      index e in
      let whole : text ≡ ((left ∷ h.white ++ h.name) ++ there.0) ++ (word ++ colon ∷
      (there.1 ++ (head.white.now ++ rest))) =
      begins.whole ∙ ap (λ t. ((left ∷ h.white ++ h.name) ++ t) ++ head.white.now ++ rest) there.3
      ∙ simp append_assoc (ap (λ t. left ∷ t) (append_assoc h.white h.name _)) in
      record {
        before = (left ∷ h.white ++ h.name) ++ there.0;
        rest = there.1 ++ (head.white.now ++ rest);
        is = there.2;
        whole = whole;
        position = omega (
          arith,
          there.4,
          length-append (left ∷ h.white ++ h.name) there.0,
          length-append (left ∷ h.white) h.name,
        );
      }

-- a key that is refused with a component
pub refused_spans : (strict : Bool) (text : Text) (positions : Positions) (ps : List Placed) (k : code_key.Key)
    (o : Option ℕ) (remaining : ℕ) (spelling : Text) (f : code_fault.Fault)
    → ShowsPositions (length text) positions ps → o ≡ position positions k → o ≡ Some remaining
    → spelling ≡ (key_for k).key → HaveKeys text ps → f.remaining ≡ remaining
    → f.len ≡ length spelling → version_extent (rule_kind f.rule) ≡ whole_key
    → ((front : Text) → WantsIn strict front f.rule) → SpansVersion strict text f
refused_spans strict text positions ps k o remaining spelling f shows of is spelled have at len extent wanted =
    by (first_position (key_for k).key ps) refl
    (subst (λ x. ShowsPosition (length text) x (first_position (key_for k).key ps)) (sym of ∙ is)
    (shows k))
  where
    by : (i : Option ℕ) → first_position (key_for k).key ps ≡ i
        → ShowsPosition (length text) (Some remaining) i → SpansVersion strict text f
    by None e shown = absurd shown
    by (Some index) e shown =
        let h = have (key_for k).key index e in
        let after : Text = colon ∷ h.rest in
        spans_key strict text h.before (key_for k).key after f h.whole
        (omega (
          arith,
          at,
          shown,
          h.position,
          ap length h.whole,
          length-append h.before ((key_for k).key ++ after),
        ))
        (len ∙ ap length spelled) (wanted h.before) (zero_from_one is_key_byte (key_for k).key h.is) refl extent

-- `optional` and `first` without modifiers
pub plain_spans : (strict : Bool) (text spelled : Text) (verdict : HeadVerdict)
    → IsPlain spelled verdict → SpansRefusal strict text verdict
plain_spans strict text spelled (verdicts.Component c) is = tt
plain_spans strict text spelled (verdicts.Optional formatted) is = tt
plain_spans strict text spelled verdicts.First is = tt
plain_spans strict text spelled (verdicts.Refused f) is = absurd is
