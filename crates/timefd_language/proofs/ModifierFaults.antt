-- What stands where a fault is, if a name or a modifier is at fault.
use Rattle.std.proofs.Common.{ℕ, ◌≡◌, ◌+◌, ◌<◌, ◌⊎◌, inl, inr, Bool, true, false, not, ◌&&◌, if◌then◌else◌, is_some, List, [], ◌∷◌, ◌++◌, length, map, Option, Some, None, Result, Ok, Err, refl, sym, ap, ◌∙◌, subst, arith, append_assoc, append-nil, length-append}
use Rattle.std.specs.Prelude.{codes, ⊤}
use Rattle.std.proofs.lemmas.Bool.{true≢false}
use Rattle.timefd_lang_component.specs.Tree.{Text, Tree, component, optional, first, trees, pack}
use Rattle.timefd_lang_component.specs.declared.component.Component.{Component}
use Rattle.timefd_lang_fault.specs.Faults.{Kind, Fault, fault, unclosed_bracket, invalid_name, invalid_modifier, missing_name, missing_modifier, expected, not_supported, duplicate_modifier, invalid_combination}
use Rattle.timefd_lang_fault.specs.Words.{expected_white, expected_nested, expected_alternative, optional_item, first_item}
use Rattle.timefd_lang_fault.specs.declared.key.Key as code_key
use Rattle.timefd_lang_fault.specs.declared.key.Key.TheVariants as keys
use Rattle.timefd_lang_fault.specs.declared.name.ComponentName.{ComponentName}
use Rattle.timefd_lang_fault.specs.declared.name.Name.{Name}
use Rattle.timefd_language.specs.declared.setting.Setting.{Setting}
use Rattle.timefd_language.specs.declared.setting.Settings.{Settings}
use Rattle.timefd_language.specs.Bytes.{colon, left, same, named, is_white, is_key_byte, is_word_byte, ZeroOrMore, OneOrMore, StopsBefore}
use Rattle.timefd_language.specs.Combinations.{Refusal, refusals}
use Rattle.timefd_language.specs.Head.{Head, IsHead, Modifier, IsModifier, AreModifiers, Placed, placed, placed_at, placed_from, name_index, modifier_text, modifiers_text, head_text}
use Rattle.timefd_language.specs.Lookup.{IsNameOf, key_for, keys_for, keys_of}
use Rattle.timefd_language.specs.Names.{Row, row_for, row_of, component_names, ignored}
use Rattle.timefd_language.specs.Slots.{EndsInHead, EndsAfterHead}
use Rattle.timefd_language.specs.Values.{Key, format, key_in, setting_in}
use Rattle.timefd_language.specs.Verdict.{PlacedDescription, ◌or◌, refuse, unless, is_set, bad_value, bad_modifier, bad_modifiers, misplaced, combined, combination, made, after, component_verdict, touching, too_many, nested_refused, nested_wanted, any_modifier, is_formatted, only, optional_verdict, first_verdict, settings, verdict}
use Rattle.timefd_language.proofs.Lookup.{Each, each-map}
use Rattle.timefd_language.specs.Slots.{IsSlotIn, WantsKey, WantsValue}
use Rattle.timefd_lang_fault.specs.declared.rule.Slot.{Slot}
use Rattle.timefd_lang_fault.specs.declared.rule.Slot.TheVariants as slots
use Rattle.timefd_language.proofs.SlotLemmas.{head_after, one_colon, some_bytes, stops_name, wanted_slot}
use Rattle.timefd_language.proofs.Spans.{zero_from_one}

-- What may be wrong after a text: a name that isn't known, a word that isn't a key, a word that isn't the value of the key before it, or
-- a colon that no key precedes or no value follows. `rest` is the text from there on.

pub record NameFault (strict : Bool) (front name rest : Text) : Type 0 where
  pub word : OneOrMore is_word_byte name
  pub more : Text
  pub whole : rest ≡ name ++ more
  pub stops : StopsBefore is_word_byte more
  pub unknown : IsNameOf strict name None

pub record KeyFault (strict : Bool) (front word rest : Text) : Type 0 where
  pub name : Option Name
  pub after : EndsAfterHead strict front name
  pub key : OneOrMore is_key_byte word
  pub more : Text
  pub whole : rest ≡ word ++ more
  pub stops : StopsBefore is_key_byte more
  pub unknown : (later : Text) → more ≡ colon ∷ later → key_in strict word (keys_of name) ≡ None

pub record ValueFault (strict : Bool) (front word rest : Text) : Type 0 where
  pub name : Option Name
  pub at : Text
  pub after : EndsAfterHead strict at name
  pub key_word : Text
  pub key_bytes : ZeroOrMore is_key_byte key_word
  pub before : front ≡ at ++ (key_word ++ colon ∷ [])
  pub value : OneOrMore is_word_byte word
  pub more : Text
  pub whole : rest ≡ word ++ more
  pub stops : StopsBefore is_word_byte more
  pub key : code_key.Key
  pub known : key_in strict key_word (keys_of name) ≡ Some (key_for key)
  pub bad : setting_in strict (key_for key).values word ≡ None

pub record ColonFault (strict : Bool) (front word rest : Text) : Type 0 where
  pub name : Option Name
  pub at : Text
  pub after : EndsAfterHead strict at name
  pub key_word : Text
  pub key_bytes : ZeroOrMore is_key_byte key_word
  pub before : front ≡ at ++ key_word
  pub none : word ≡ []
  pub more : Text
  pub whole : rest ≡ colon ∷ more

abbrev pub ModifierFault : Bool → Text → Text → Text → Type 0
ModifierFault strict front word rest =
    KeyFault strict front word rest ⊎ (ValueFault strict front word rest ⊎ ColonFault strict front word rest)

-- .. and it is known what the word should have been
abbrev pub KnownFault : Bool → Text → Text → Text → Type 0
KnownFault strict front word rest =
    ModifierFault strict front word rest × ((slot : Slot) × IsSlotIn strict front word slot)

-- What precedes the text makes no difference.

pub name_after : (strict : Bool) (before front name rest : Text) → NameFault strict front name rest
    → NameFault strict (before ++ front) name rest
name_after strict before front name rest f = record {
  word = f.word;
  more = f.more;
  whole = f.whole;
  stops = f.stops;
  unknown = f.unknown;
}

pub modifier_after : (strict : Bool) (before front word rest : Text)
    → ModifierFault strict front word rest → ModifierFault strict (before ++ front) word rest
modifier_after strict before front word rest (inl f) = inl (record {
  name = f.name;
  after = head_after strict before front f.name f.after;
  key = f.key;
  more = f.more;
  whole = f.whole;
  stops = f.stops;
  unknown = f.unknown;
})
modifier_after strict before front word rest (inr (inl f)) = inr (inl (record {
  name = f.name;
  at = before ++ f.at;
  after = head_after strict before f.at f.name f.after;
  key_word = f.key_word;
  key_bytes = f.key_bytes;
  before = ap (λ t. before ++ t) f.before
      ∙ sym (append_assoc before f.at (f.key_word ++ colon ∷ []));
  value = f.value;
  more = f.more;
  whole = f.whole;
  stops = f.stops;
  key = f.key;
  known = f.known;
  bad = f.bad;
}))
modifier_after strict before front word rest (inr (inr f)) = inr (inr (record {
  name = f.name;
  at = before ++ f.at;
  after = head_after strict before f.at f.name f.after;
  key_word = f.key_word;
  key_bytes = f.key_bytes;
  before = ap (λ t. before ++ t) f.before ∙ sym (append_assoc before f.at f.key_word);
  none = f.none;
  more = f.more;
  whole = f.whole;
}))

-- What holds for each fault that may be reported holds for the one that is.

abbrev Holds : (Fault → Type 0) → Option Fault → Type 0
Holds P None = ⊤
Holds P (Some f) = P f

abbrev pub HoldsOf : (Fault → Type 0) → Result Tree Fault → Type 0
HoldsOf P (Ok t) = ⊤
HoldsOf P (Err f) = P f

holds_or : (P : Fault → Type 0) (a b : Option Fault) → Holds P a → Holds P b → Holds P (a or b)
holds_or P None b ha hb = hb
holds_or P (Some f) b ha hb = ha

holds_refuse : (P : Fault → Type 0) (c : Bool) (kind : Kind) (index : ℕ) → P (fault kind index)
    → Holds P (refuse c kind index)
holds_refuse P true kind index h = h
holds_refuse P false kind index h = tt

-- .. if the condition holds
holds_if : (P : Fault → Type 0) (c : Bool) (kind : Kind) (index : ℕ) → (c ≡ true → P (fault kind index))
    → Holds P (refuse c kind index)
holds_if P true kind index h = h refl
holds_if P false kind index h = tt

holds_unless : (P : Fault → Type 0) (o : Option Fault) (t : Tree) → Holds P o → HoldsOf P (unless o t)
holds_unless P None t h = tt
holds_unless P (Some f) t h = h

holds_after : (P : Fault → Type 0) (o : Option Fault) (r : Result Tree Fault) → Holds P o
    → HoldsOf P r → HoldsOf P (after o r)
holds_after P None r ho hr = hr
holds_after P (Some f) r ho hr = ho

-- A word is at an index of the head, before any text that goes on after the head.
pub record Reported (strict : Bool) (h : Head) (P : Text → Text → Text → Type 0) (word : Text) (k : ℕ)
    : Type 0 where
  pub front : Text
  pub rest : Text
  pub whole : head_text h ≡ front ++ rest
  pub index : k ≡ length front
  pub is : (tail : Text) → StopsBefore is_word_byte tail → P front word (rest ++ tail)

abbrev pub Good : Bool → Head → Kind → ℕ → Type 0
Good strict h (invalid_name name) k = Reported strict h (NameFault strict) name k
Good strict h (invalid_modifier word) k = Reported strict h (KnownFault strict) word k
Good strict h unclosed_bracket k = ⊤
Good strict h missing_name k = ⊤
Good strict h (missing_modifier key) k = ⊤
Good strict h (expected what) k = ⊤
Good strict h (not_supported what context) k = ⊤
Good strict h (duplicate_modifier key) k = ⊤
Good strict h (invalid_combination key context) k = ⊤

abbrev pub GoodFault : Bool → Head → Fault → Type 0
GoodFault strict h f = Good strict h f.kind f.index

-- What is found by a name is one of the list.
found : {A : Type 0} (name : A → Text) (P : A → Type 0) (strict : Bool) (text : Text) (xs : List A)
    (x : A) → Each P xs → named name strict text xs ≡ Some x → P x
found name P strict text [] x all e = absurd cc
found {A = A} name P strict text (y ∷ ys) x all e =
    by (found name P strict text ys x all.1) (same strict (name y) text) e
  where
    by : (named name strict text ys ≡ Some x → P x) → (t : Bool)
        → elim t [ true ↦ Some y | false ↦ named name strict text ys ] ≡ Some x → P x
    by more true e = let is : y ≡ x = cc in subst P is all.0
    by more false e = more e

abbrev OfCode : Key → Type 0
OfCode k = (key : code_key.Key) × (k ≡ key_for key)

row_keys : (n : ComponentName) → Each OfCode (row_for n).keys
row_keys ComponentName.Day = ((keys.Padding, refl), tt)
row_keys ComponentName.End = ((keys.TrailingInput, refl), tt)
row_keys ComponentName.Hour = ((keys.Padding, refl), ((keys.HourRepr, refl), tt))
row_keys ComponentName.Ignore = ((keys.Count, refl), tt)
row_keys ComponentName.Minute = ((keys.Padding, refl), tt)
row_keys ComponentName.Month =
    ((keys.Padding, refl), ((keys.MonthRepr, refl), ((keys.CaseSensitive, refl), tt)))
row_keys ComponentName.OffsetHour = ((keys.Sign, refl), ((keys.Padding, refl), tt))
row_keys ComponentName.OffsetMinute = ((keys.Padding, refl), tt)
row_keys ComponentName.OffsetSecond = ((keys.Padding, refl), tt)
row_keys ComponentName.Ordinal = ((keys.Padding, refl), tt)
row_keys ComponentName.Period = ((keys.Case, refl), ((keys.CaseSensitive, refl), tt))
row_keys ComponentName.Second = ((keys.Padding, refl), tt)
row_keys ComponentName.Subsecond = ((keys.Digits, refl), tt)
row_keys ComponentName.UnixTimestamp = ((keys.Precision, refl), ((keys.Sign, refl), tt))
row_keys ComponentName.Weekday =
    ((keys.WeekdayRepr, refl), ((keys.OneIndexed, refl), ((keys.CaseSensitive, refl), tt)))
row_keys ComponentName.WeekNumber = ((keys.Padding, refl), ((keys.WeekNumberRepr, refl), tt))
row_keys ComponentName.Year =
    ((keys.Padding, refl), ((keys.YearRepr, refl), ((keys.Range, refl), ((keys.Base, refl), ((keys.Sign, refl), tt)))))

name_keys : (n : Name) → Each OfCode (keys_for n)
name_keys Name.Optional = ((keys.Format, refl), tt)
name_keys Name.First = tt
name_keys (Name.Component n) = row_keys n

abbrev OfName : Row → Type 0
OfName r = (n : ComponentName) × (r ≡ row_for n)

row_found : (strict : Bool) (word : Text) (r : Row) → row_of strict word ≡ Some r → OfName r
row_found strict word r e =
    found (λ x. x.name) OfName strict word (map row_for component_names) r
    (each-map row_for OfName component_names (λ n. (n, refl))) e

-- The front of a head, cut at a word of a modifier.
modifiers_both : (a b : List Modifier)
    → modifiers_text (a ++ b) ≡ modifiers_text a ++ modifiers_text b
modifiers_both [] b = refl
modifiers_both (m ∷ a) b = ap (λ x. modifier_text m ++ x) (modifiers_both a b) ∙
    sym (append_assoc (modifier_text m) (modifiers_text a) (modifiers_text b))

both_are : (a b : List Modifier) → AreModifiers a → AreModifiers b → AreModifiers (a ++ b)
both_are [] b ha hb = hb
both_are (m ∷ a) b ha hb = (ha.0, both_are a b ha.1 hb)

-- a head up to some of its modifiers
abbrev up_to : Head → List Modifier → Head
up_to h done = record { white = h.white; name = h.name; modifiers = done }

abbrev head_front : Head → Text
head_front h = (left ∷ h.white) ++ h.name

record At (h : Head) (done : List Modifier) (m : Modifier) (ms : List Modifier) (k : ℕ)
    : Type 0 where
  pub is : IsHead h
  pub before : AreModifiers done
  pub this : IsModifier m
  pub later : AreModifiers ms
  pub all : h.modifiers ≡ done ++ m ∷ ms
  pub index : k ≡ name_index h + length h.name + length (modifiers_text done)

front_length : (h : Head) (done : List Modifier) (between : Text)
    → length (head_text (up_to h done) ++ between)
    ≡ name_index h + length h.name + length (modifiers_text done) + length between
front_length h done between =
    omega (
      arith,
      length-append (head_front h ++ modifiers_text done) between,
      length-append (head_front h) (modifiers_text done),
      length-append (left ∷ h.white) h.name,
    )

split : (h : Head) (done : List Modifier) (m : Modifier) (ms : List Modifier)
    → h.modifiers ≡ done ++ m ∷ ms
    → head_text h
    ≡ head_front h ++ (modifiers_text done ++ (modifier_text m ++ modifiers_text ms))
split h done m ms e = ap (λ x. head_front h ++ modifiers_text x) e ∙
    ap (λ x. head_front h ++ x) (modifiers_both done (m ∷ ms))

-- the head and the white bytes before a modifier
white_front : (strict : Bool) (h : Head) (n : Name) (done : List Modifier) (m : Modifier)
    (ms : List Modifier) (k : ℕ) → IsNameOf strict h.name (Some n) → At h done m ms k
    → EndsAfterHead strict (head_text (up_to h done) ++ m.white) (Some n)
white_front strict h n done m ms k is at = record {
  head = up_to h done;
  white = m.white;
  ends = record {
    before = [];
    is = record { white = at.is.white; name = at.is.name; modifiers = at.before };
    whole = refl;
  };
  all_white = at.this.white;
  named = is;
}

-- the head, split before what follows some of its modifiers
parted : (f d w x : Text) (whole : Text) → whole ≡ f ++ (d ++ (w ++ x)) → whole ≡ ((f ++ d) ++ w) ++ x
parted f d w x whole e = e ∙ sym (append_assoc f d (w ++ x)) ∙ sym (append_assoc (f ++ d) w x)

reported_key : (strict : Bool) (h : Head) (n : Name) (done : List Modifier) (m : Modifier)
    (ms : List Modifier) (k : ℕ) → IsNameOf strict h.name (Some n) → At h done m ms k
    → key_in strict m.key (keys_for n) ≡ None
    → Reported strict h (KnownFault strict) m.key (k + length m.white)
reported_key strict h n done m ms k is at none =
    let more : Text = m.value ++ modifiers_text ms in
    record {
      front = head_text (up_to h done) ++ m.white;
      rest = m.key ++ colon ∷ more;
      whole = parted (head_front h) (modifiers_text done) m.white (m.key ++ colon ∷ more) (head_text h)
          (split h done m ms at.all ∙ ap (λ x. head_front h ++ (modifiers_text done ++ x)) (words m.white m.key m.value (modifiers_text ms)));
      index = omega (arith, at.index, front_length h done m.white);
      is = λ tail stops. (
        inl (record {
          name = Some n;
          after = white_front strict h n done m ms k is at;
          key = at.this.key;
          more = colon ∷ (more ++ tail);
          whole = append_assoc m.key (colon ∷ more) tail;
          stops = refl;
          unknown = λ later e. none;
        }),
        wanted_slot strict (head_text (up_to h done) ++ m.white) m.key (Some (slots.Key n)) (inl (record {
          name = Some n;
          after = white_front strict h n done m ms k is at;
          some = some_bytes is_key_byte m.key at.this.key;
          slot = refl;
        })) (slots.Key n) refl,
      );
    }
  where
    words : (w k v r : Text) → ((w ++ k) ++ (colon ∷ v)) ++ r ≡ w ++ (k ++ colon ∷ (v ++ r))
    words w k v r = append_assoc (w ++ k) (colon ∷ v) r ∙ append_assoc w k (colon ∷ (v ++ r))

reported_value : (strict : Bool) (h : Head) (n : Name) (key : code_key.Key) (done : List Modifier)
    (m : Modifier) (ms : List Modifier) (k : ℕ) → IsNameOf strict h.name (Some n)
    → key_in strict m.key (keys_for n) ≡ Some (key_for key) → At h done m ms k
    → setting_in strict (key_for key).values m.value ≡ None
    → Reported strict h (KnownFault strict) m.value (k + length m.white + length m.key + 1)
reported_value strict h n key done m ms k is known at bad =
    let between : Text = m.white ++ (m.key ++ colon ∷ []) in
    record {
      front = head_text (up_to h done) ++ between;
      rest = m.value ++ modifiers_text ms;
      whole = parted (head_front h) (modifiers_text done) between (m.value ++ modifiers_text ms)
          (head_text h) (split h done m ms at.all
          ∙ ap (λ x. head_front h ++ (modifiers_text done ++ x)) (words m.white m.key m.value (modifiers_text ms)));
      index = omega (
        arith,
        at.index,
        front_length h done between,
        length-append m.white (m.key ++ colon ∷ []),
        length-append m.key (colon ∷ []),
      );
      is = λ tail stops. (
        inr (inl (record {
          name = Some n;
          at = head_text (up_to h done) ++ m.white;
          after = white_front strict h n done m ms k is at;
          key_word = m.key;
          key_bytes = zero_from_one is_key_byte m.key at.this.key;
          before = sym (append_assoc (head_text (up_to h done)) m.white (m.key ++ colon ∷ []));
          value = at.this.value;
          more = modifiers_text ms ++ tail;
          whole = append_assoc m.value (modifiers_text ms) tail;
          stops = stops_name ms tail at.later stops;
          key = key;
          known = known;
          bad = bad;
        })),
        wanted_slot strict (head_text (up_to h done) ++ between) m.value (Some (slots.Value key)) (inr (record {
          name = Some n;
          at = head_text (up_to h done) ++ m.white;
          after = white_front strict h n done m ms k is at;
          key_word = m.key;
          key_bytes = zero_from_one is_key_byte m.key at.this.key;
          whole = sym (append_assoc (head_text (up_to h done)) m.white (m.key ++ colon ∷ []))
              ∙ ap (λ t. (head_text (up_to h done) ++ m.white) ++ (m.key ++ t)) (sym (one_colon m.value at.this.value));
          key = Some key;
          known = sym known;
          slot = refl;
        })) (slots.Value key) refl,
      );
    }
  where
    words : (w k v r : Text)
        → ((w ++ k) ++ (colon ∷ v)) ++ r ≡ (w ++ (k ++ colon ∷ [])) ++ (v ++ r)
    words w k v r =
        append_assoc (w ++ k) (colon ∷ v) r ∙ append_assoc w k (colon ∷ (v ++ r))
        ∙ ap (λ t. w ++ t) (sym (append_assoc k (colon ∷ []) (v ++ r)))
        ∙ sym (append_assoc w (k ++ colon ∷ []) (v ++ r))

no_setting : (o : Option Setting) → not (is_some o) ≡ true → o ≡ None
no_setting None e = refl
no_setting (Some s) e = absurd (true≢false (sym e))

one_reported : (strict : Bool) (h : Head) (n : Name) (done : List Modifier) (m : Modifier)
    (ms : List Modifier) (k : ℕ) (seen : List Placed) → IsNameOf strict h.name (Some n)
    → At h done m ms k → (o : Option Key) → key_in strict m.key (keys_for n) ≡ o
    → Holds (GoodFault strict h) (bad_modifier strict o seen (placed_at k m))
one_reported strict h n done m ms k seen is at None e = reported_key strict h n done m ms k is at e
one_reported strict h n done m ms k seen is at (Some key) e =
    let code : OfCode key = found (λ x. x.key) OfCode strict m.key (keys_for n) key (name_keys n) e in
    holds_or (GoodFault strict h)
    (refuse (strict && is_set strict key.key seen) (duplicate_modifier key.key) (k + length m.white))
    (bad_value strict key (placed_at k m))
    (holds_refuse (GoodFault strict h) _ (duplicate_modifier key.key) (k + length m.white) tt)
    (holds_if (GoodFault strict h) (not (is_some (setting_in strict key.values m.value)))
    (invalid_modifier m.value) _ (λ bad. reported_value strict h n code.0 done m ms k is
    (e ∙ ap (λ x. Some x) code.1) at
    (ap (λ x. setting_in strict x.values m.value) (sym code.1)
    ∙ no_setting (setting_in strict key.values m.value) bad)))

bad_reported : (strict : Bool) (h : Head) (n : Name) → IsNameOf strict h.name (Some n) → IsHead h
    → (done ms : List Modifier) (k : ℕ) (seen : List Placed) → AreModifiers done → AreModifiers ms
    → h.modifiers ≡ done ++ ms
    → k ≡ name_index h + length h.name + length (modifiers_text done)
    → Holds (GoodFault strict h) (bad_modifiers strict (keys_for n) seen (placed_from k ms))
bad_reported strict h n is head done [] k seen before after all index = tt
bad_reported strict h n is head done (m ∷ ms) k seen before after all index =
    let at : At h done m ms k =
    record { is = head; before = before; this = after.0; later = after.1; all = all; index = index } in
    holds_or (GoodFault strict h)
    (bad_modifier strict (key_in strict m.key (keys_for n)) seen (placed_at k m))
    (bad_modifiers strict (keys_for n) (seen ++ placed_at k m ∷ [])
    (placed_from (k + length (modifier_text m)) ms))
    (one_reported strict h n done m ms k seen is at (key_in strict m.key (keys_for n)) refl)
    (bad_reported strict h n is head (done ++ m ∷ []) ms (k + length (modifier_text m))
    (seen ++ placed_at k m ∷ []) (both_are done (m ∷ []) before (after.0, tt)) after.1
    (all ∙ sym (append_assoc done (m ∷ []) ms))
    (omega (
      arith,
      index,
      ap length (modifiers_both done (m ∷ [])),
      length-append (modifiers_text done) (modifiers_text (m ∷ [])),
      length-append (modifier_text m) [],
    )))

all_reported : (strict : Bool) (h : Head) (n : Name) → IsNameOf strict h.name (Some n) → IsHead h
    → Holds (GoodFault strict h) (bad_modifiers strict (keys_for n) [] (placed h))
all_reported strict h n is head =
    bad_reported strict h n is head [] h.modifiers (name_index h + length h.name) [] tt head.modifiers
    refl (omega arith)

-- The other rules report no word of a modifier, and no name.
touching_reported : (strict : Bool) (h : Head) (ps : List PlacedDescription)
    → Holds (GoodFault strict h) (touching ps)
touching_reported strict h [] = tt
touching_reported strict h (p ∷ ps) =
    holds_refuse (GoodFault strict h) (not p.spaced) expected_white p.index tt

many_reported : (strict : Bool) (h : Head) (ps : List PlacedDescription)
    → Holds (GoodFault strict h) (too_many ps)
many_reported strict h [] = tt
many_reported strict h (p ∷ []) = tt
many_reported strict h (p ∷ q ∷ ps) = tt

refused_reported : (strict : Bool) (h : Head) (ps : List PlacedDescription)
    → Holds (GoodFault strict h) (nested_refused ps)
refused_reported strict h [] = tt
refused_reported strict h (p ∷ ps) = tt

wanted_reported : (P : Fault → Type 0) (kind : Kind) (ps : List PlacedDescription) (close : ℕ)
    → P (fault kind close) → Holds P (nested_wanted kind ps close)
wanted_reported P kind [] close h = h
wanted_reported P kind (p ∷ ps) close h = tt

misplaced_reported : (strict : Bool) (h : Head) (r : Refusal) (ms : List Placed)
    → Holds (GoodFault strict h) (misplaced r ms)
misplaced_reported strict h r [] = tt
misplaced_reported strict h r (m ∷ ms) =
    holds_or (GoodFault strict h) _ (misplaced r ms)
    (holds_refuse (GoodFault strict h) _ (invalid_combination r.key r.context) m.key_index tt)
    (misplaced_reported strict h r ms)

combined_reported : (strict : Bool) (h : Head) (rs : List Refusal) (ms : List Placed)
    → Holds (GoodFault strict h) (combined rs ms)
combined_reported strict h [] ms = tt
combined_reported strict h (r ∷ rs) ms =
    holds_or (GoodFault strict h) (misplaced r ms) (combined rs ms) (misplaced_reported strict h r ms)
    (combined_reported strict h rs ms)

combination_reported : (strict : Bool) (h : Head) (c : Component) (ms : List Placed)
    → Holds (GoodFault strict h) (combination strict c ms)
combination_reported true h c ms = combined_reported true h (refusals c) ms
combination_reported false h c ms = tt

abbrev IsGoodRow : Bool → Head → Result Component Kind → Type 0
IsGoodRow strict h (Ok c) = ⊤
IsGoodRow strict h (Err kind) = Good strict h kind (name_index h)

ignored_row : (strict : Bool) (h : Head) (s : Settings) → IsGoodRow strict h (ignored s.count)
ignored_row strict h s = by s.count
  where
    by : (o : _) → IsGoodRow strict h (ignored o)
    by None = tt
    by (Some n) = tt

good_row : (strict : Bool) (h : Head) (n : ComponentName) (s : Settings)
    → IsGoodRow strict h ((row_for n).component s)
good_row strict h ComponentName.Day s = tt
good_row strict h ComponentName.End s = tt
good_row strict h ComponentName.Hour s = tt
good_row strict h ComponentName.Ignore s = ignored_row strict h s
good_row strict h ComponentName.Minute s = tt
good_row strict h ComponentName.Month s = tt
good_row strict h ComponentName.OffsetHour s = tt
good_row strict h ComponentName.OffsetMinute s = tt
good_row strict h ComponentName.OffsetSecond s = tt
good_row strict h ComponentName.Ordinal s = tt
good_row strict h ComponentName.Period s = tt
good_row strict h ComponentName.Second s = tt
good_row strict h ComponentName.Subsecond s = tt
good_row strict h ComponentName.UnixTimestamp s = tt
good_row strict h ComponentName.Weekday s = tt
good_row strict h ComponentName.WeekNumber s = tt
good_row strict h ComponentName.Year s = tt

made_reported : (strict : Bool) (h : Head) (r : Result Component Kind) → IsGoodRow strict h r
    → HoldsOf (GoodFault strict h) (made strict h r)
made_reported strict h (Err kind) good = good
made_reported strict h (Ok c) good =
    holds_unless (GoodFault strict h) (combination strict c (placed h)) (component c)
    (combination_reported strict h c (placed h))

row_reported : (strict : Bool) (h : Head) (n : ComponentName)
    → IsNameOf strict h.name (Some (Name.Component n)) → IsHead h
    → HoldsOf (GoodFault strict h) (component_verdict strict h (Some (row_for n)))
row_reported strict h n is head =
    holds_after (GoodFault strict h) (bad_modifiers strict (row_for n).keys [] (placed h))
    (made strict h ((row_for n).component (settings strict (row_for n).keys (placed h))))
    (all_reported strict h (Name.Component n) is head)
    (made_reported strict h ((row_for n).component (settings strict (row_for n).keys (placed h)))
    (good_row strict h n (settings strict (row_for n).keys (placed h))))

component_reported : (strict : Bool) (h : Head) → IsHead h
    → same strict (codes "optional") h.name ≡ false → same strict (codes "first") h.name ≡ false
    → (r : Option Row) → row_of strict h.name ≡ r
    → HoldsOf (GoodFault strict h) (component_verdict strict h r)
component_reported strict h head o f None e = record {
  front = left ∷ h.white;
  rest = h.name ++ modifiers_text h.modifiers;
  whole = append_assoc (left ∷ h.white) h.name (modifiers_text h.modifiers);
  index = omega arith;
  is = λ tail stops. record {
    word = head.name;
    more = modifiers_text h.modifiers ++ tail;
    whole = append_assoc h.name (modifiers_text h.modifiers) tail;
    stops = stops_name h.modifiers tail head.modifiers stops;
    unknown = (o, f, e);
  };
}
component_reported strict h head o f (Some r) e =
    let n : OfName r = row_found strict h.name r e in
    subst (λ x. HoldsOf (GoodFault strict h) (component_verdict strict h (Some x))) (sym n.1)
    (row_reported strict h n.0 (o, f, e ∙ ap (λ x. Some x) n.1) head)

optional_reported : (strict : Bool) (h : Head) (ps : List PlacedDescription) (close : ℕ) → IsHead h
    → same strict (codes "optional") h.name ≡ true
    → HoldsOf (GoodFault strict h) (optional_verdict strict h ps close)
optional_reported strict h ps close head o =
    let P : Fault → Type 0 = GoodFault strict h in
    holds_unless P
    (bad_modifiers strict (format ∷ []) [] (placed h) or too_many ps or nested_wanted
    expected_nested ps close or refuse (not strict) optional_item 0)
    (optional (is_formatted strict (placed h)) (only ps))
    (holds_or P (bad_modifiers strict (format ∷ []) [] (placed h))
    (too_many ps or nested_wanted expected_nested ps close or refuse (not strict) optional_item 0)
    (all_reported strict h Name.Optional o head)
    (holds_or P (too_many ps)
    (nested_wanted expected_nested ps close or refuse (not strict) optional_item 0)
    (many_reported strict h ps)
    (holds_or P (nested_wanted expected_nested ps close) (refuse (not strict) optional_item 0)
    (wanted_reported P expected_nested ps close tt)
    (holds_refuse P (not strict) optional_item 0 tt))))

any_reported : (strict : Bool) (h : Head) (ps : List Placed)
    → Holds (GoodFault strict h) (bad_modifiers strict [] [] ps)
    → Holds (GoodFault strict h) (any_modifier ps)
any_reported strict h [] t = tt
any_reported strict h (p ∷ ps) t = t

first_part : (strict : Bool) (h : Head) (b : Bool) (ps : List PlacedDescription) (close : ℕ)
    → Holds (GoodFault strict h) (if b then nested_wanted expected_alternative ps close else Some
    (fault first_item 0))
first_part strict h true ps close = wanted_reported (GoodFault strict h) expected_alternative ps close tt
first_part strict h false ps close = tt

first_reported : (strict : Bool) (h : Head) (ps : List PlacedDescription) (close : ℕ) → IsHead h
    → same strict (codes "optional") h.name ≡ false → same strict (codes "first") h.name ≡ true
    → HoldsOf (GoodFault strict h) (first_verdict strict h ps close)
first_reported strict h ps close head o f =
    let P : Fault → Type 0 = GoodFault strict h in
    holds_unless P
    (any_modifier (placed h) or (if strict then nested_wanted expected_alternative ps close else
    Some (fault first_item 0)))
    (first (trees (map (λ p. pack p.trees) ps)))
    (holds_or P (any_modifier (placed h))
    (if strict then nested_wanted expected_alternative ps close else Some (fault first_item 0))
    (any_reported strict h (placed h) (all_reported strict h Name.First (o, f) head))
    (first_part strict h strict ps close))

by_name : (strict : Bool) (h : Head) (ps : List PlacedDescription) (close : ℕ) → IsHead h
    → (o : Bool) → same strict (codes "optional") h.name ≡ o
    → (f : Bool) → same strict (codes "first") h.name ≡ f
    → HoldsOf (GoodFault strict h) (if o then optional_verdict strict h ps close
    else if f then first_verdict strict h ps close
    else after (nested_refused ps) (component_verdict strict h (row_of strict h.name)))
by_name strict h ps close head true o f is = optional_reported strict h ps close head o
by_name strict h ps close head false o true f = first_reported strict h ps close head o f
by_name strict h ps close head false o false f =
    holds_after (GoodFault strict h) (nested_refused ps)
    (component_verdict strict h (row_of strict h.name)) (refused_reported strict h ps)
    (component_reported strict h head o f (row_of strict h.name) refl)

pub verdict_reported : (strict : Bool) (h : Head) (ps : List PlacedDescription) (close : ℕ) → IsHead h
    → HoldsOf (GoodFault strict h) (verdict strict h ps close)
verdict_reported strict h ps close head =
    holds_after (GoodFault strict h) (touching ps)
    (if same strict (codes "optional") h.name then optional_verdict strict h ps close
    else if same strict (codes "first") h.name then first_verdict strict h ps close
    else after (nested_refused ps) (component_verdict strict h (row_of strict h.name)))
    (touching_reported strict h ps)
    (by_name strict h ps close head (same strict (codes "optional") h.name) refl
    (same strict (codes "first") h.name) refl)

-- A word names something, or nothing.
pub named_one : (strict : Bool) (word : Text) → (o : Option Name) × IsNameOf strict word o
named_one strict word =
    by (same strict (codes "optional") word) refl (same strict (codes "first") word) refl
    (row_of strict word) refl
  where
    by : (o : Bool) → same strict (codes "optional") word ≡ o → (f : Bool)
        → same strict (codes "first") word ≡ f → (r : Option Row) → row_of strict word ≡ r
        → (n : Option Name) × IsNameOf strict word n
    by true o f is_first r row = (Some Name.Optional, o)
    by false o true is_first r row = (Some Name.First, (o, is_first))
    by false o false is_first None row = (None, (o, is_first, row))
    by false o false is_first (Some r) row =
        let n : OfName r = row_found strict word r row in
        (Some (Name.Component n.0), (o, is_first, row ∙ ap (λ x. Some x) n.1))
