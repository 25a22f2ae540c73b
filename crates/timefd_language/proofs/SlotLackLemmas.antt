-- Where a fault is, none of the words stands that should have been there.
use Rattle.std.proofs.Common.{ℕ, suc, ◌≡◌, ◌+◌, ◌<◌, ◌⊎◌, inl, inr, Bool, true, false, List, [], ◌∷◌, ◌++◌, length, length-append, drop, take, map, Option, Some, None, refl, sym, ap, ◌∙◌, subst, arith, append-nil}
use Rattle.std.specs.Prelude.{codes}
use Rattle.std.specs.List.{prefix_len}
use Rattle.std.proofs.Math.Seq.{drop-append_seam, take-append_seam}
use Rattle.std.proofs.lemmas.Option.{same_Some}
use Rattle.timefd_lang_component.specs.Tree.{Text}
use Rattle.timefd_lang_fault.specs.Faults.{Kind, Fault, fault, unclosed_bracket, invalid_name, invalid_modifier, missing_name, missing_modifier, expected, not_supported, duplicate_modifier, invalid_combination}
use Rattle.timefd_lang_fault.specs.declared.key.Key as code_key
use Rattle.timefd_lang_fault.specs.declared.key.Key.TheVariants as keys
use Rattle.timefd_lang_fault.specs.declared.name.Name.{Name}
use Rattle.timefd_lang_fault.specs.declared.rule.Slot.{Slot}
use Rattle.timefd_lang_fault.specs.declared.rule.Slot.TheVariants as slots
use Rattle.timefd_language.specs.declared.setting.Setting.{Setting}
use Rattle.timefd_language.specs.Bytes.{colon, same, named, is_version_three, is_word_byte, is_key_byte, ZeroOrMore, OneOrMore, StopsBefore}
use Rattle.timefd_language.specs.FaultSpans.{HasNone, SlotsLack, word_at, key_at}
use Rattle.timefd_language.specs.Head.{Head}
use Rattle.timefd_language.specs.Lookup.{IsNameOf, key_for, keys_for, keys_of}
use Rattle.timefd_language.specs.Names.{rows}
use Rattle.timefd_language.specs.Slots.{EndsInHead, IsSlotAt, IsSlotIn, colon_before, names, values, words_of, IsWantedOf}
use Rattle.timefd_language.specs.Values as table
use Rattle.timefd_language.specs.Values.{Value, Values, key_in, setting_in, sets_of}
use Rattle.timefd_language.proofs.FaultShapes.{StandsAt, ShapeAt, in_text, rest_at}
use Rattle.timefd_language.proofs.ModifierFaults.{KeyFault, ValueFault, ColonFault, ModifierFault, NameFault}
use Rattle.timefd_language.proofs.SlotLemmas.{key_named, value_named, key_words, no_room, keys_named, same_front, colon_stops, one_colon, some_bytes}
use Rattle.timefd_language.proofs.SpanLemmas.{prefix_cut}
use Rattle.timefd_language.proofs.Spans.{zero_from_one}

-- Words of a table.

named_words : {A : Type 0} (name : A → Text) (strict : Bool) (w : Text) (xs : List A)
    → named name strict w xs ≡ None → named (λ t. t) strict w (map name xs) ≡ None
named_words name strict w [] e = refl
named_words {A = A} name strict w (x ∷ xs) e =
    by (named name strict w xs) (named (λ t. t) strict w (map name xs)) (named_words name strict w xs)
    (same strict (name x) w) e
  where
    by : (o : Option A) (p : Option Text) → (o ≡ None → p ≡ None) → (t : Bool)
        → elim t as (λ _. Option A) [
          | true ↦ Some x
          | false ↦ o
        ] ≡ None
        → elim t as (λ _. Option Text) [
          | true ↦ Some (name x)
          | false ↦ p
        ] ≡ None
    by o p more true e = absurd cc
    by o p more false e = more e

skipped : (strict : Bool) (w x : Text) (xs : List Text) → same strict x w ≡ false
    → named (λ t. t) strict w xs ≡ None → named (λ t. t) strict w (x ∷ xs) ≡ None
skipped strict w x xs other e = by (same strict x w) other
  where
    by : (t : Bool) → t ≡ false → elim t as (λ _. Option Text) [
      | true ↦ Some x
      | false ↦ named (λ t. t) strict w xs
    ] ≡ None
    by true is = absurd cc
    by false is = e

no_setting : (o : Option (Value Setting)) → sets_of o ≡ None → o ≡ None
no_setting None e = refl
no_setting (Some v) e = absurd cc

words_lack : (strict : Bool) (vs : Values) (word : Text) → setting_in strict vs word ≡ None
    → named (λ t. t) strict word (words_of vs) ≡ None
words_lack strict (table.words vs) word e =
    named_words (λ v. v.word) strict word vs (no_setting (named (λ v. v.word) strict word vs) e)
words_lack strict table.numbers word e = refl

-- No value begins with a colon.
no_colon : (strict : Bool) (k : code_key.Key) (x : Text)
    → named (λ t. t) strict (colon ∷ x) (values k) ≡ None
no_colon true keys.Padding x = refl
no_colon true keys.TrailingInput x = refl
no_colon true keys.HourRepr x = refl
no_colon true keys.Count x = refl
no_colon true keys.MonthRepr x = refl
no_colon true keys.CaseSensitive x = refl
no_colon true keys.Sign x = refl
no_colon true keys.Case x = refl
no_colon true keys.Digits x = refl
no_colon true keys.Precision x = refl
no_colon true keys.WeekdayRepr x = refl
no_colon true keys.OneIndexed x = refl
no_colon true keys.WeekNumberRepr x = refl
no_colon true keys.YearRepr x = refl
no_colon true keys.Range x = refl
no_colon true keys.Base x = refl
no_colon true keys.Format x = refl
no_colon false keys.Padding x = refl
no_colon false keys.TrailingInput x = refl
no_colon false keys.HourRepr x = refl
no_colon false keys.Count x = refl
no_colon false keys.MonthRepr x = refl
no_colon false keys.CaseSensitive x = refl
no_colon false keys.Sign x = refl
no_colon false keys.Case x = refl
no_colon false keys.Digits x = refl
no_colon false keys.Precision x = refl
no_colon false keys.WeekdayRepr x = refl
no_colon false keys.OneIndexed x = refl
no_colon false keys.WeekNumberRepr x = refl
no_colon false keys.YearRepr x = refl
no_colon false keys.Range x = refl
no_colon false keys.Base x = refl
no_colon false keys.Format x = refl

-- The word that stands there.

front_is : (test : ℕ → Bool) (rest word more : Text) → rest ≡ word ++ more → ZeroOrMore test word
    → StopsBefore test more → take (prefix_len test rest) rest ≡ word
front_is test rest word more e passes stops =
    ap (λ t. take (prefix_len test t) t) e
    ∙ ap (λ n. take n (word ++ more)) (prefix_cut test word more passes stops)
    ∙ take-append_seam word more

colon_word : (more : Text) → word_at (colon ∷ more) ≡ colon ∷ take (prefix_len is_word_byte more) more
colon_word more =
    let one : prefix_len is_word_byte (colon ∷ more) ≡ suc (prefix_len is_word_byte more) = omega arith in
    ap (λ n. take n (colon ∷ more)) one

name_lacks : (strict : Bool) (front name rest : Text) → NameFault strict front name rest
    → HasNone strict slots.Name rest
name_lacks strict front name rest f =
    subst (λ t. named (λ w. w) strict t (names strict) ≡ None)
    (sym (front_is is_word_byte rest name f.more f.whole (zero_from_one is_word_byte name f.word) f.stops))
    (by strict f.unknown)
  where
    by : (s : Bool) → IsNameOf s name None → named (λ w. w) s name (names s) ≡ None
    by true none =
        skipped true name (codes "optional") (codes "first" ∷ map (λ r. r.name) rows) none.0
        (skipped true name (codes "first") (map (λ r. r.name) rows) none.1
        (named_words (λ r. r.name) true name rows none.2))
    by false none = named_words (λ r. r.name) false name rows none.2

-- a key
key_lacks : (strict : Bool) (front word rest : Text) (f : KeyFault strict front word rest) (slot : Slot)
    (h : Head) (between : Text) → EndsInHead front h between → IsSlotAt strict h.name between word slot
    → HasNone strict slot rest
key_lacks strict front word rest f slots.Name h between ends at = absurd at
key_lacks strict front word rest f (slots.Key m) h between ends at = λ later e.
    let k = key_named strict front front f.name f.after [] word refl (sym (append-nil front)) h between m
    ends at in
    let is : key_at rest ≡ word =
    front_is is_key_byte rest word f.more f.whole (zero_from_one is_key_byte word f.key) f.stops in
    let more : f.more ≡ colon ∷ later =
    sym (drop-append_seam word f.more)
    ∙ ap (drop (length word)) (sym f.whole ∙ e ∙ ap (λ t. t ++ colon ∷ later) is)
    ∙ drop-append_seam word (colon ∷ later) in
    subst (λ t. named (λ w. w) strict t (map (λ x. x.key) (keys_for m)) ≡ None) (sym is)
    (named_words (λ x. x.key) strict word (keys_for m)
    (subst (λ ks. key_in strict word ks ≡ None)
    (keys_named strict f.after.head.name f.name m f.after.named k.0) (f.unknown later more)))
key_lacks strict front word rest f (slots.Value k) h between ends at =
    let s = value_named strict front front f.name f.after [] word refl (sym (append-nil front)) h between k
    ends at in
    absurd (no_room word at.1 (some_bytes is_key_byte word f.key) (sym s.1))

-- a value
value_lacks : (strict : Bool) (front word rest : Text) (f : ValueFault strict front word rest)
    (slot : Slot) (h : Head) (between : Text) → EndsInHead front h between
    → IsSlotAt strict h.name between word slot → HasNone strict slot rest
value_lacks strict front word rest f slots.Name h between ends at = absurd at
value_lacks strict front word rest f (slots.Key m) h between ends at =
    let key : Text = f.key_word ++ colon_before word in
    let whole : front ≡ f.at ++ key =
    f.before ∙ ap (λ t. f.at ++ (f.key_word ++ t)) (sym (one_colon word f.value)) in
    absurd (no_room word f.key_word at.2 (key_named strict front f.at f.name f.after key word
    (key_words f.key_word word f.key_bytes) whole h between m ends at).1)
value_lacks strict front word rest f (slots.Value k) h between ends at =
    let key : Text = f.key_word ++ colon_before word in
    let whole : front ≡ f.at ++ key =
    f.before ∙ ap (λ t. f.at ++ (f.key_word ++ t)) (sym (one_colon word f.value)) in
    let s = value_named strict front f.at f.name f.after key word
    (key_words f.key_word word f.key_bytes) whole h between k ends at in
    let words = same_front is_key_byte f.key_word (colon_before word) at.1 (colon_before word) s.1
    f.key_bytes at.4 (colon_stops word) (colon_stops word) in
    let one : key_for f.key ≡ key_for k =
    same_Some (key_for f.key) (key_for k) (sym f.known
    ∙ ap (λ ks. key_in strict f.key_word ks)
    (keys_named strict f.after.head.name f.name at.2 f.after.named s.0)
    ∙ ap (λ t. key_in strict t (keys_for at.2)) words.0 ∙ at.7) in
    subst (λ t. named (λ w. w) strict t (values k) ≡ None)
    (sym (front_is is_word_byte rest word f.more f.whole (zero_from_one is_word_byte word f.value) f.stops))
    (subst (λ x. named (λ w. w) strict word (words_of x.values) ≡ None) one
    (words_lack strict (key_for f.key).values word f.bad))

-- a colon
colon_lacks : (strict : Bool) (front word rest : Text) (f : ColonFault strict front word rest)
    (slot : Slot) (h : Head) (between : Text) → EndsInHead front h between
    → IsSlotAt strict h.name between word slot → HasNone strict slot rest
colon_lacks strict front word rest f slots.Name h between ends at = absurd at
colon_lacks strict front word rest f (slots.Key m) h between ends at =
    absurd (omega (arith, at.2, ap length f.none))
colon_lacks strict front word rest f (slots.Value k) h between ends at =
    subst (λ t. named (λ w. w) strict t (values k) ≡ None) (sym (ap word_at f.whole ∙ colon_word f.more))
    (no_colon strict k (take (prefix_len is_word_byte f.more) f.more))

modifier_lacks : (strict : Bool) (front word rest : Text) → ModifierFault strict front word rest
    → (slot : Slot) → IsSlotIn strict front word slot → HasNone strict slot rest
modifier_lacks strict front word rest (inl f) slot is =
    key_lacks strict front word rest f slot is.0 is.1 is.2 is.3
modifier_lacks strict front word rest (inr (inl f)) slot is =
    value_lacks strict front word rest f slot is.0 is.1 is.2 is.3
modifier_lacks strict front word rest (inr (inr f)) slot is =
    colon_lacks strict front word rest f slot is.0 is.1 is.2 is.3

-- A fault of a text.

at_kind : (strict : Bool) (text : Text) (kind : Kind) (k : ℕ) (slot : Slot) → ShapeAt strict text kind k
    → IsWantedOf strict (take k text) kind (Some slot) → HasNone strict slot (drop k text)
at_kind strict text (invalid_name name) k slot s wanted =
    let is : slot ≡ slots.Name = same_Some slot slots.Name wanted in
    subst (λ x. HasNone strict x (drop k text)) (sym is)
    (subst (HasNone strict slots.Name) (sym (rest_at (NameFault strict) text name k s))
    (name_lacks strict s.front name s.rest s.is))
at_kind strict text (invalid_modifier word) k slot s wanted =
    let front : take k text ≡ s.front =
    ap (λ n. take n text) s.index ∙ ap (take (length s.front)) s.whole
    ∙ take-append_seam s.front s.rest in
    subst (HasNone strict slot) (sym (rest_at (ModifierFault strict) text word k s))
    (modifier_lacks strict s.front word s.rest s.is slot
    (subst (λ t. IsSlotIn strict t word slot) front wanted))
at_kind strict text unclosed_bracket k slot s wanted = absurd (cc)
at_kind strict text missing_name k slot s wanted = absurd (cc)
at_kind strict text (missing_modifier key) k slot s wanted = absurd (cc)
at_kind strict text (expected what) k slot s wanted = absurd (cc)
at_kind strict text (not_supported what context) k slot s wanted = absurd (cc)
at_kind strict text (duplicate_modifier key) k slot s wanted = absurd (cc)
at_kind strict text (invalid_combination key context) k slot s wanted = absurd (cc)

pub slots_lack_law : SlotsLack
slots_lack_law v limit text f slot is wanted =
    at_kind (is_version_three v) text f.kind f.index slot (in_text v limit text f is) wanted
