-- What a word after a head should have been: there is one answer.
use Rattle.std.proofs.Common.{ℕ, ◌≡◌, ◌≢◌, ◌<◌, ◌≤◌, ◌+◌, List, [], ◌∷◌, ◌++◌, length, length-append, Option, Some, None, refl, sym, ap, subst, ◌∙◌, arith, append-nil}
use Rattle.std.specs.Prelude.{Bool, true, false, MatchOption, bytes_eq, nat_eq}
use Rattle.std.specs.Borrow.{Bor}
use Rattle.std.specs.List.{list_all, prefix_len}
use Rattle.std.proofs.lemmas.Bool.{and_parts, and_from, eq-eqb, true≢false}
use Rattle.std.proofs.lemmas.Option.{same_Some, none-some}
use Rattle.timefd_parse.specs.Tree.{Text}
use Rattle.timefd_lang_fault.specs.declared.name.Name.{Name}
use Rattle.timefd_lang_fault.specs.declared.name.Name.TheVariants.{Optional, First, Component}
use Rattle.timefd_language.specs.Bytes.{colon, is_white, is_word_byte, is_key_byte, ZeroOrMore, OneOrMore, StopsBefore}
use Rattle.timefd_language.specs.Cut.{IsCut}
use Rattle.timefd_language.specs.Head.{Modifier, IsModifier, modifier_text}
use Rattle.timefd_language.specs.Lookup.{IsNameOf, key_for, keys_for}
use Rattle.timefd_language.specs.Values.{key_in}
use Rattle.timefd_language.specs.Names.{row_for}
use Rattle.timefd_language.proofs.Spans.{all-append, all-implied, zero_from_one, stops_one, stops_zero, white-not_word, key-not_white}
use Rattle.timefd_parse.proofs.BracketLemmas.{SameCut, same_cut}
use Rattle.timefd_lang_fault.specs.declared.rule.Slot.{Slot}
use Rattle.timefd_lang_fault.specs.declared.rule.Slot.TheVariants as slots
use Rattle.timefd_language.specs.Slots.{colon_before, IsSlotAt, IsSlotIn, IsSlotAfter}
use Rattle.timefd_lint_lsp.specs.Editor.SlotSearches.{is_inside, EndsHead, BeginsNoModifier, NamesHead, IsNamedHead}
use Rattle.timefd_lint_lsp.proofs.EditorLemmas.SlotLemmas.{white-inside, key-inside, word_after, cut_white}

some_bytes : (test : ℕ → Bool) (text : Text) → OneOrMore test text → 0 < length text
some_bytes test [] some = absurd some
some_bytes test (b ∷ text) some = omega arith

-- What precedes a word ends the head.

white_stops : (text : Text) → OneOrMore is_white text → StopsBefore is_word_byte text
white_stops [] some = absurd some
white_stops (b ∷ text) some = white-not_word b (and_parts (is_white b) (list_all is_white text) some).0

white_no_modifier : (text : Text) → OneOrMore is_white text → BeginsNoModifier text
white_no_modifier text white m after is stops e =
    let c = same_cut is_white (modifier_text m ++ after) m.white (word_after m after) text []
    (cut_white m after is) (sym e ∙ sym (append-nil text)) (zero_from_one is_white text white) tt in
    omega (arith, ap length c.rest, length-append m.key (colon ∷ (m.value ++ after)))

ends_white : (text : Text) → OneOrMore is_white text → EndsHead text
ends_white text white = record {
  inside = all-implied is_white is_inside white-inside text (zero_from_one is_white text white);
  stops = white_stops text white;
  none = white_no_modifier text white;
}

colon_inside : (word : Text) → ZeroOrMore is_inside (colon_before word)
colon_inside [] = refl
colon_inside (b ∷ word) = refl

colon_not_white : (word : Text) → StopsBefore is_white (colon_before word)
colon_not_white [] = tt
colon_not_white (b ∷ word) = refl

colon_no_key : (word : Text) → StopsBefore is_key_byte (colon_before word)
colon_no_key [] = tt
colon_no_key (b ∷ word) = refl

colon_short : (word : Text) → length (colon_before word) ≤ 1
colon_short [] = omega arith
colon_short (b ∷ word) = omega arith

key_not_white : (key word : Text) → ZeroOrMore is_key_byte key
    → StopsBefore is_white (key ++ colon_before word)
key_not_white key word k =
    stops_zero is_key_byte is_white key-not_white key (colon_before word) k (colon_not_white word)

key_no_modifier : (white key word : Text) → OneOrMore is_white white → ZeroOrMore is_key_byte key
    → BeginsNoModifier (white ++ (key ++ colon_before word))
key_no_modifier white key word w k m after is stops e =
    let words = same_cut is_white (modifier_text m ++ after) m.white (word_after m after) white
    (key ++ colon_before word) (cut_white m after is) (sym e) (zero_from_one is_white white w)
    (key_not_white key word k) in
    let c : IsCut is_key_byte (word_after m after) m.key (colon ∷ (m.value ++ after)) =
    record { whole = refl; passes = zero_from_one is_key_byte m.key is.key; stops = refl } in
    let ends = same_cut is_key_byte (word_after m after) m.key (colon ∷ (m.value ++ after)) key
    (colon_before word) c words.rest k (colon_no_key word) in
    omega (
      arith,
      ap length ends.rest,
      length-append m.value after,
      some_bytes is_word_byte m.value is.value,
      colon_short word,
    )

ends_key : (white key word : Text) → OneOrMore is_white white → ZeroOrMore is_key_byte key
    → EndsHead (white ++ (key ++ colon_before word))
ends_key white key word w k = record {
  inside = all-append is_inside white (key ++ colon_before word)
      (all-implied is_white is_inside white-inside white (zero_from_one is_white white w))
      (all-append is_inside key (colon_before word)
      (all-implied is_key_byte is_inside key-inside key k) (colon_inside word));
  stops = stops_one is_white is_word_byte white-not_word white (key ++ colon_before word) w;
  none = key_no_modifier white key word w k;
}

ends_head : (strict : Bool) (name between word : Text) (slot : Slot)
    → IsSlotAt strict name between word slot → EndsHead between
ends_head strict name between word slots.Name at = absurd at
ends_head strict name between word (slots.Key named) at = ends_white between at.1
ends_head strict name between word (slots.Value key) at =
    subst EndsHead (sym at.5) (ends_key at.0 at.1 word at.3 at.4)

-- What a word after a text should have been.

pub nothing_in : (strict : Bool) (front word : Text) → NamesHead front None
    → (slot : Slot) → ¬ IsSlotIn strict front word slot
nothing_in strict front word names slot is =
    names is.0 is.1 (ends_head strict is.0.name is.1 word slot is.3) is.2

no_slot : (strict : Bool) (front word : Text) (name between : Bor (List ℕ))
    → NamesHead front (Some (name, between))
    → ((slot : Slot) → ¬ IsSlotAt strict name.now between.now word slot)
    → (slot : Slot) → ¬ IsSlotIn strict front word slot
no_slot strict front word name between names none slot is =
    let same = names is.0 is.1 (ends_head strict is.0.name is.1 word slot is.3) is.2 in
    none slot (subst (λ n. IsSlotAt strict n between.now word slot) (sym same.0)
    (subst (λ t. IsSlotAt strict is.0.name t word slot) (sym same.1) is.3))

pub slot_of : (r : Option Slot) (strict : Bool) (front word : Text) (name between : Bor (List ℕ))
    → IsNamedHead front name.now between.now → NamesHead front (Some (name, between))
    → MatchOption r ((slot : Slot) → ¬ IsSlotAt strict name.now between.now word slot)
    (IsSlotAt strict name.now between.now word)
    → IsSlotAfter strict front word r
slot_of None strict front word name between named names none =
    no_slot strict front word name between names none
slot_of (Some slot) strict front word name between named names at =
    (named.0, between.now, named.2, subst (λ n. IsSlotAt strict n between.now word slot) named.1 at)

-- What the cuts of the text say.

abbrev IsCutAt : Bool → Text → Text → Text → Text → Text → Text → Slot → Type 0
IsCutAt strict name white rest key after word slots.Name = ⊥
IsCutAt strict name white rest key after word (slots.Key named) =
    IsNameOf strict name (Some named) × OneOrMore is_white white × (rest ≡ []) × (0 < length word)
IsCutAt strict name white rest key after word (slots.Value k) =
    (named : Name) × IsNameOf strict name (Some named) × OneOrMore is_white white
    × (after ≡ colon_before word) × (key_in strict key (keys_for named) ≡ Some (key_for k))

cut_at : (strict : Bool) (name between word white rest key after : Text) (slot : Slot)
    → IsCut is_white between white rest → IsCut is_key_byte rest key after
    → IsSlotAt strict name between word slot → IsCutAt strict name white rest key after word slot
cut_at strict name between word white rest key after slots.Name w k at = at
cut_at strict name between word white rest key after (slots.Key named) w k at =
    let same = same_cut is_white between white rest between [] w (sym (append-nil between))
    (zero_from_one is_white between at.1) tt in
    (at.0, subst (OneOrMore is_white) (sym same.front) at.1, same.rest, at.2)
cut_at strict name between word white rest key after (slots.Value k) w c at =
    let words = same_cut is_white between white rest at.0 (at.1 ++ colon_before word) w at.5
    (zero_from_one is_white at.0 at.3) (key_not_white at.1 word at.4) in
    let parts = same_cut is_key_byte rest key after at.1 (colon_before word) c words.rest at.4
    (colon_no_key word) in (
      at.2,
      at.6,
      subst (OneOrMore is_white) (sym words.front) at.3,
      parts.rest,
      subst (λ t. key_in strict t (keys_for at.2) ≡ Some (key_for k)) (sym parts.front) at.7,
    )

unnamed : (strict : Bool) (word : Text) (name : Name) → IsNameOf strict word None
    → ¬ IsNameOf strict word (Some name)
unnamed strict word Optional none is = true≢false (sym is ∙ none.0)
unnamed strict word First none is = true≢false (sym is.1 ∙ none.1)
unnamed strict word (Component name) none is =
    none-some (row_for name) (sym none.2 ∙ is.2)

pub no_name : (strict : Bool) (name between word : Text) → IsNameOf strict name None
    → (slot : Slot) → ¬ IsSlotAt strict name between word slot
no_name strict name between word none slots.Name is = is
no_name strict name between word none (slots.Key named) is = unnamed strict name named none is.0
no_name strict name between word none (slots.Value key) is = unnamed strict name is.2 none is.6

same_keys : (strict : Bool) (word : Text) (n m : Name) → IsNameOf strict word (Some n)
    → IsNameOf strict word (Some m) → keys_for n ≡ keys_for m
same_keys strict word Optional Optional a b = refl
same_keys strict word Optional First a b = absurd (true≢false (sym a ∙ b.0))
same_keys strict word Optional (Component m) a b = absurd (true≢false (sym a ∙ b.0))
same_keys strict word First Optional a b = absurd (true≢false (sym b ∙ a.0))
same_keys strict word First First a b = refl
same_keys strict word First (Component m) a b = absurd (true≢false (sym a.1 ∙ b.1))
same_keys strict word (Component n) Optional a b = absurd (true≢false (sym b ∙ a.0))
same_keys strict word (Component n) First a b = absurd (true≢false (sym b.1 ∙ a.1))
same_keys strict word (Component n) (Component m) a b =
    ap (λ r. r.keys) (same_Some (row_for n) (row_for m) (sym a.2 ∙ b.2))

-- Nothing is known without white bytes, ..
pub no_white : (strict : Bool) (name between word white rest key after : Text)
    → IsCut is_white between white rest → IsCut is_key_byte rest key after → length white ≡ 0
    → (slot : Slot) → ¬ IsSlotAt strict name between word slot
no_white strict name between word white rest key after w k none slot at =
    wordless slot (cut_at strict name between word white rest key after slot w k at)
  where
    wordless : (slot : Slot) → ¬ IsCutAt strict name white rest key after word slot
    wordless slots.Name is = is
    wordless (slots.Key named) is = omega (arith, none, some_bytes is_white white is.1)
    wordless (slots.Value k) is = omega (arith, none, some_bytes is_white white is.2)

-- .. or with something other than a colon after the key, ..
pub no_colon : (strict : Bool) (name between word white rest key after : Text)
    → IsCut is_white between white rest → IsCut is_key_byte rest key after
    → (rest ≡ [] → ¬ (0 < length word)) → after ≢ colon_before word
    → (slot : Slot) → ¬ IsSlotAt strict name between word slot
no_colon strict name between word white rest key after w k no_key other slot at =
    mismatched slot (cut_at strict name between word white rest key after slot w k at)
  where
    mismatched : (slot : Slot) → ¬ IsCutAt strict name white rest key after word slot
    mismatched slots.Name is = is
    mismatched (slots.Key named) is = no_key is.2 is.3
    mismatched (slots.Value k) is = other is.3

-- .. or with a key that the bracket doesn't take.
pub no_key : (strict : Bool) (name between word white rest key after : Text) (named : Name)
    → IsCut is_white between white rest → IsCut is_key_byte rest key after
    → (rest ≡ [] → ¬ (0 < length word)) → IsNameOf strict name (Some named)
    → key_in strict key (keys_for named) ≡ None
    → (slot : Slot) → ¬ IsSlotAt strict name between word slot
no_key strict name between word white rest key after named w k not_key is_named none slot at =
    unkeyed slot (cut_at strict name between word white rest key after slot w k at)
  where
    unkeyed : (slot : Slot) → ¬ IsCutAt strict name white rest key after word slot
    unkeyed slots.Name is = is
    unkeyed (slots.Key other) is = not_key is.2 is.3
    unkeyed (slots.Value k) is =
        none-some (key_for k) (sym none ∙ subst (λ ks. key_in strict key ks ≡ Some (key_for k))
        (same_keys strict name is.0 named is.1 is_named) is.4)

same_bytes : (a : Text) → bytes_eq a a ≡ true
same_bytes [] = refl
same_bytes (b ∷ a) = and_from (nat_eq b b) (bytes_eq a a) (eq-eqb b b refl) (same_bytes a)

pub unequal : (a b : Text) → false ≡ bytes_eq a b → a ≢ b
unequal a b e same =
    true≢false (sym (subst (λ t. bytes_eq a t ≡ true) same (same_bytes a)) ∙ sym e)
