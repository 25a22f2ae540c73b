-- In versions 1 and 2 the case of letters in heads makes no difference.
use Rattle.std.proofs.Common.{ℕ, ◌≡◌, ◌+◌, ◌-◌, ◌*◌, ◌<◌, ◌≤◌, ◌==◌, ◌&&◌, ◌⊎◌, inl, inr, cond, not, Bool, true, false, List, [], ◌∷◌, ◌++◌, map, Result, Ok, Option, Some, None, length, refl, sym, ◌∙◌, ap, ap₂, subst, arith, codes, nat_le, leb-true, eqb-true, eq-eqb, ne_eqb, is_some, Err}
use Rattle.std.specs.List.{list_all}
use Rattle.std.proofs.lemmas.Bool.{and_parts, and_from, both_ways, false≢true, lt-leb}
use Rattle.timefd_language.specs.declared.description_version.DescriptionVersion.{DescriptionVersion}
use Rattle.timefd_lang_component.specs.Tree.{Text, Tree, literal, optional, first, trees}
use Rattle.timefd_language.specs.Bytes.{lowered, equal, same, is_word_byte, is_key_byte, is_version_three, plus, colon, right, ZeroOrMore, OneOrMore}
use Rattle.timefd_lang_fault.specs.Faults.{Fault, Kind, fault}
use Rattle.timefd_lang_fault.specs.Words.{expected_nested, first_item}
use Rattle.timefd_language.specs.Head.{Modifier, Head, AreModifiers, IsHead, Placed, placed_at, placed_from, placed, name_index, modifier_text, head_text}
use Rattle.timefd_language.specs.declared.setting.Setting.{Setting}
use Rattle.timefd_language.specs.declared.setting.Settings.{Settings}
use Rattle.timefd_language.specs.Settings.{defaults}
use Rattle.timefd_language.specs.Values.{Values, words, numbers, Key, sets_of, key_in, setting_in, counted, count_of, digits_of, digits_value, format}
use Rattle.timefd_language.specs.Names.{Row, rows, row_of}
use Rattle.timefd_lang_component.specs.declared.component.Component.{Component}
use Rattle.timefd_language.specs.Verdict.{PlacedDescription, ◌or◌, unless, after, refuse, bad_modifier, bad_modifiers, setting_of, with_option, settings_from, settings, made, any_modifier, is_formatted, only, optional_verdict, first_verdict, component_verdict, verdict}
use Rattle.timefd_language.specs.Grammar.{Pieces, no_pieces, run, escape, closing, bracket, Nested, no_nested, nested, items, nested_text, BeginsNoRun, ArePieces, bracket_verdict, parts_from}
use Rattle.timefd_language.specs.Laws.{Recasing}
use Rattle.timefd_language.proofs.Roomy.{after_ok}
use Rattle.timefd_language.proofs.Lookup.{named-recased}
use Rattle.timefd_language.proofs.Lift.{bracket_refuses, unless_fault}
use Rattle.timefd_language.specs.Recased.{SameButCase, RecasedModifiers, RecasedHead, Recased}

-- Bytes.

-- a byte below `A` isn't a letter, so a byte with the same lower case is equal to it
fixed : (b c : ℕ) → lowered b ≡ lowered c → b < 65 → c ≡ b
fixed b c e low = by (nat_le 65 c && nat_le c 90) refl
  where
    b_is : lowered b ≡ b
    b_is = rw (lt-leb 65 b low) refl

    by : (t : Bool) → (nat_le 65 c && nat_le c 90) ≡ t → c ≡ b
    by true h =
        let c_is : lowered c ≡ c + 32 = rw h refl in
        let c_low : 65 ≤ c = leb-true 65 c (and_parts (nat_le 65 c) (nat_le c 90) h).0 in
        absurd (omega (arith, b_is))
    by false h = let c_is : lowered c ≡ c = rw h refl in sym c_is ∙ sym e ∙ b_is

key_byte : (b : ℕ) → 65 ≤ b → (b ≡ 91 → ⊥) → (b ≡ 92 → ⊥) → (b ≡ 93 → ⊥) → is_key_byte b ≡ true
key_byte b low not_91 not_92 not_93 =
    rw (
      ne_eqb b 58 (λ e. omega arith),
      ne_eqb b 91 not_91,
      ne_eqb b 93 not_93,
      ne_eqb b 92 not_92,
      ne_eqb b 9 (λ e. omega arith),
      ne_eqb b 10 (λ e. omega arith),
      ne_eqb b 12 (λ e. omega arith),
      ne_eqb b 13 (λ e. omega arith),
      ne_eqb b 32 (λ e. omega arith),
    ) refl

-- a letter, of either case, is a word byte and a key byte
letter-key : (b : ℕ) → 65 ≤ b → b ≤ 122 → (b < 91) ⊎ (93 < b) → is_key_byte b ≡ true
letter-key b low high (inl h) = key_byte b low (λ e. omega arith) (λ e. omega arith)
    (λ e. omega arith)
letter-key b low high (inr h) = key_byte b low (λ e. omega arith) (λ e. omega arith)
    (λ e. omega arith)

-- a test that gives the same for a letter of either case
Keeps : (ℕ → Bool) → Type 0
Keeps test = (b : ℕ) → test (lowered b) ≡ test b

keeps_from_letters : (test : ℕ → Bool)
    → ((b : ℕ) → 65 ≤ b → b ≤ 122 → (b < 91) ⊎ (93 < b) → test b ≡ true) → Keeps test
unfolding Keeps
keeps_from_letters test letters b = by (nat_le 65 b && nat_le b 90) refl
  where
    by : (t : Bool) → (nat_le 65 b && nat_le b 90) ≡ t → test (cond t (b + 32) b) ≡ test b
    by true h =
        let p = and_parts (nat_le 65 b) (nat_le b 90) h in
        let low : 65 ≤ b = leb-true 65 b p.0 in
        let high : b ≤ 90 = leb-true b 90 p.1 in
        letters (b + 32) (omega arith) (omega arith) (inr (omega arith)) ∙
        sym (letters b low (omega arith) (inl (omega arith)))
    by false h = refl

key_keeps : Keeps is_key_byte
key_keeps = keeps_from_letters is_key_byte letter-key

word_keeps : Keeps is_word_byte
word_keeps = keeps_from_letters is_word_byte
    (λ b low high r. (and_parts (not (b == colon)) (is_word_byte b) (letter-key b low high r)).1)

test_same : (test : ℕ → Bool) → Keeps test → (b c : ℕ) → lowered b ≡ lowered c → test b ≡ test c
unfolding Keeps
test_same test keeps b c e = sym (keeps b) ∙ ap test e ∙ keeps c

zero_recased : (test : ℕ → Bool) → Keeps test → (a b : Text) → SameButCase a b → ZeroOrMore test a
    → ZeroOrMore test b
zero_recased test keeps [] [] e h = refl
zero_recased test keeps [] (y ∷ b) e h = absurd cc
zero_recased test keeps (x ∷ a) [] e h = absurd cc
zero_recased test keeps (x ∷ a) (y ∷ b) e h =
    let p = and_parts (test x) (list_all test a) h in
    let x_y : lowered x ≡ lowered y = cc in
    and_from (test y) _ (sym (test_same test keeps x y x_y) ∙ p.0)
    (zero_recased test keeps a b (cc) p.1)

one_recased : (test : ℕ → Bool) → Keeps test → (a b : Text) → SameButCase a b → OneOrMore test a
    → OneOrMore test b
one_recased test keeps [] b e h = absurd h
one_recased test keeps (x ∷ a) [] e h = absurd cc
one_recased test keeps (x ∷ a) (y ∷ b) e h = zero_recased test keeps (x ∷ a) (y ∷ b) e h

modifiers_recased : (ms ns : List Modifier) → RecasedModifiers ms ns → AreModifiers ms
    → AreModifiers ns
modifiers_recased [] ns r are = subst AreModifiers (sym r) tt
modifiers_recased (m ∷ ms) ns r are =
    subst AreModifiers (sym r.2) (
      record {
        white = subst (OneOrMore _) r.3.white are.0.white;
        key = one_recased is_key_byte key_keeps m.key r.0.key r.3.key are.0.key;
        value = one_recased is_word_byte word_keeps m.value r.0.value r.3.value are.0.value;
      },
      modifiers_recased ms r.1 r.4 are.1,
    )

head_recased : (h g : Head) → RecasedHead h g → IsHead h → IsHead g
head_recased h g r ih = record {
  white = subst (ZeroOrMore _) r.white ih.white;
  name = one_recased is_word_byte word_keeps h.name g.name r.name ih.name;
  modifiers = modifiers_recased h.modifiers g.modifiers r.modifiers ih.modifiers;
}

-- Tables.

-- one byte at a time: digits and the sign aren't letters
is_digit : ℕ → Bool
is_digit b = nat_le 48 b && nat_le b 57

digit-fixed : (b c : ℕ) → lowered b ≡ lowered c → (nat_le 48 b && nat_le b 57) ≡ true → c ≡ b
digit-fixed b c e h = let high : b ≤ 57 =
    leb-true b 57 (and_parts (nat_le 48 b) (nat_le b 57) h).1 in fixed b c e (omega arith)

digits-recased : (n : ℕ) (a b : Text) → SameButCase a b → digits_value n a ≡ digits_value n b
digits-recased n [] [] e = refl
digits-recased n [] (y ∷ b) e = absurd cc
digits-recased n (x ∷ a) [] e = absurd cc
digits-recased n (x ∷ a) (y ∷ b) e =
    by (λ m. digits-recased m a b (cc)) (cc) (nat_le 48 x && nat_le x 57) refl
    (nat_le 48 y && nat_le y 57) refl
  where
    by : ((m : ℕ) → digits_value m a ≡ digits_value m b) → lowered x ≡ lowered y
        → (t : Bool) → (nat_le 48 x && nat_le x 57) ≡ t → (u : Bool)
        → (nat_le 48 y && nat_le y 57) ≡ u
        → ◌≡◌ {A = Option ℕ} (elim t [ true ↦ digits_value (n * 10 + (x - 48)) a | false ↦ None ])
        (elim u [ true ↦ digits_value (n * 10 + (y - 48)) b | false ↦ None ])
    by more l true h true k = more (n * 10 + (x - 48)) ∙
        ap (λ z. digits_value (n * 10 + (z - 48)) b) (sym (digit-fixed x y l h))
    by more l true h false k = absurd
        (both_ways (nat_le 48 y && nat_le y 57) k
        (subst (λ z. (nat_le 48 z && nat_le z 57) ≡ true) (sym (digit-fixed x y l h)) h))
    by more l false h true k = absurd
        (both_ways (nat_le 48 x && nat_le x 57) h
        (subst (λ z. (nat_le 48 z && nat_le z 57) ≡ true) (sym (digit-fixed y x (sym l) k)) k))
    by more l false h false k = refl

digits_of-recased : (a b : Text) → SameButCase a b → digits_of a ≡ digits_of b
digits_of-recased [] [] e = refl
digits_of-recased [] (y ∷ b) e = absurd cc
digits_of-recased (x ∷ a) [] e = absurd cc
digits_of-recased (x ∷ a) (y ∷ b) e = digits-recased 0 (x ∷ a) (y ∷ b) e

count_of-recased : (a b : Text) → SameButCase a b → count_of a ≡ count_of b
count_of-recased [] [] e = refl
count_of-recased [] (y ∷ b) e = absurd cc
count_of-recased (x ∷ a) [] e = absurd cc
count_of-recased (x ∷ a) (y ∷ b) e = by (cc) (x == plus) refl (y == plus) refl
  where
    by : lowered x ≡ lowered y → (t : Bool) → (x == plus) ≡ t → (u : Bool) → (y == plus) ≡ u
        → ◌≡◌ {A = Option Setting} (elim t
        [ true ↦ counted (digits_of a) | false ↦ counted (digits_of (x ∷ a)) ])
        (elim u [ true ↦ counted (digits_of b) | false ↦ counted (digits_of (y ∷ b)) ])
    by l true h true k = ap counted (digits_of-recased a b (cc))
    by l true h false k =
        let is : x ≡ 43 = eqb-true x plus h in
        absurd (both_ways (y == plus) k (eq-eqb y plus (fixed x y l (omega arith) ∙ is)))
    by l false h true k =
        let is : y ≡ 43 = eqb-true y plus k in
        absurd (both_ways (x == plus) h (eq-eqb x plus (fixed y x (sym l) (omega arith) ∙ is)))
    by l false h false k = ap counted (digits_of-recased (x ∷ a) (y ∷ b) e)

setting_in-recased : (values : Values) (a b : Text) → SameButCase a b
    → setting_in false values a ≡ setting_in false values b
setting_in-recased (words vs) a b e = ap sets_of (named-recased (λ v. v.word) a b vs e)
setting_in-recased numbers a b e = count_of-recased a b e

setting_of-recased : (keys : List Key) (x y a b : Text) → SameButCase x y → SameButCase a b
    → setting_of false (key_in false x keys) a ≡ setting_of false (key_in false y keys) b
setting_of-recased keys x y a b e h =
    ap (λ o. setting_of false o a) (named-recased (λ k. k.key) x y keys e) ∙
    by (key_in false y keys)
  where
    by : (o : Option Key) → setting_of false o a ≡ setting_of false o b
    by None = refl
    by (Some k) = setting_in-recased k.values a b h

-- Modifiers.

pub or_none : (a b : Option Fault) → (a or b) ≡ None → (a ≡ None) × (b ≡ None)
or_none (Some f) b e = absurd cc
or_none None b e = (refl, e)

pub none_or : (a b : Option Fault) → a ≡ None → b ≡ None → (a or b) ≡ None
none_or (Some f) b e h = absurd cc
none_or None b e h = h

pub refuse_none : (b : Bool) (kind : Kind) (index : ℕ) → refuse b kind index ≡ None → b ≡ false
refuse_none true kind index e = absurd cc
refuse_none false kind index e = refl

pub none_refused : (b : Bool) (kind : Kind) (index : ℕ) → b ≡ false → refuse b kind index ≡ None
none_refused true kind index e = absurd (false≢true (sym e))
none_refused false kind index e = refl

-- the first modifier is good
good_modifier : (o p : Option Key) (before before' : List Placed) (m n : Placed) → o ≡ p
    → SameButCase m.value n.value
    → bad_modifier false o before m ≡ None → bad_modifier false p before' n ≡ None
good_modifier None p before before' m n e v h = absurd cc
good_modifier (Some k) None before before' m n e v h = absurd cc
good_modifier (Some k) (Some l) before before' m n e v h =
    let same_key : k ≡ l = cc in
    subst (λ x. bad_modifier false (Some x) before' n ≡ None) same_key
    (none_refused (not (is_some (setting_in false k.values n.value))) _ _
    (ap (λ x. not (is_some x)) (sym (setting_in-recased k.values m.value n.value v)) ∙
    refuse_none (not (is_some (setting_in false k.values m.value))) _ _ h))

good_modifiers : (keys : List Key) (ms ns : List Modifier) (j k : ℕ) (before before' : List Placed)
    → RecasedModifiers ms ns
    → bad_modifiers false keys before (placed_from j ms) ≡ None
    → bad_modifiers false keys before' (placed_from k ns) ≡ None
good_modifiers keys [] ns j k before before' r h =
    subst (λ x. bad_modifiers false keys before' (placed_from k x) ≡ None) (sym r) refl
good_modifiers keys (m ∷ ms) ns j k before before' r h =
    subst (λ x. bad_modifiers false keys before' (placed_from k x) ≡ None) (sym r.2)
    (none_or _ _
    (good_modifier (key_in false m.key keys) (key_in false r.0.key keys) before before'
    (placed_at j m) (placed_at k r.0) (named-recased (λ k. k.key) m.key r.0.key keys r.3.key)
    r.3.value
    (or_none (bad_modifier false (key_in false m.key keys) before (placed_at j m))
    (bad_modifiers false keys (before ++ placed_at j m ∷ [])
    (placed_from (j + length (modifier_text m)) ms)) h).0)
    (good_modifiers keys ms r.1 (j + length (modifier_text m)) (k + length (modifier_text r.0))
    (before ++ placed_at j m ∷ []) (before' ++ placed_at k r.0 ∷ []) r.4
    (or_none (bad_modifier false (key_in false m.key keys) before (placed_at j m))
    (bad_modifiers false keys (before ++ placed_at j m ∷ [])
    (placed_from (j + length (modifier_text m)) ms)) h).1))

settings_from-recased : (keys : List Key) (s : Settings) (ms ns : List Modifier) (j k : ℕ)
    → RecasedModifiers ms ns
    → settings_from false keys s (placed_from j ms) ≡ settings_from false keys s (placed_from k ns)
settings_from-recased keys s [] ns j k r =
    subst (λ x. s ≡ settings_from false keys s (placed_from k x)) (sym r) refl
settings_from-recased keys s (m ∷ ms) ns j k r =
    subst (λ x. settings_from false keys s (placed_from j (m ∷ ms)) ≡ settings_from false keys s
    (placed_from k x)) (sym r.2)
    (settings_from-recased keys (with_option s (setting_of false (key_in false m.key keys) m.value))
    ms r.1
    (j + length (modifier_text m)) (k + length (modifier_text r.0)) r.4
    ∙ ap (λ x. settings_from false keys (with_option s x)
    (placed_from (k + length (modifier_text r.0)) r.1))
    (setting_of-recased keys m.key r.0.key m.value r.0.value r.3.key r.3.value))

-- Brackets.

pub after_none : (o : Option Fault) (r : Result Tree Fault) (t : Tree) → after o r ≡ Ok t
    → o ≡ None
after_none (Some f) r t e = absurd cc
after_none None r t e = refl

pub none_after : (o : Option Fault) (r : Result Tree Fault) → o ≡ None → after o r ≡ r
none_after (Some f) r e = absurd cc
none_after None r e = refl

made-recased : (h g : Head) (r : Result Component Kind) (tree : Tree) → made false h r ≡ Ok tree
    → made false g r ≡ Ok tree
made-recased h g (Err kind) tree e = absurd cc
made-recased h g (Ok c) tree e = e

component-recased : (h g : Head) (o : Option Row) (tree : Tree) → RecasedHead h g
    → component_verdict false h o ≡ Ok tree → component_verdict false g o ≡ Ok tree
component-recased h g None tree r e = absurd cc
component-recased h g (Some row) tree r e =
    none_after (bad_modifiers false row.keys [] (placed g))
    (made false g (row.component (settings false row.keys (placed g))))
    (good_modifiers row.keys h.modifiers g.modifiers _ _ [] [] r.modifiers
    (after_none (bad_modifiers false row.keys [] (placed h))
    (made false h (row.component (settings false row.keys (placed h)))) tree e))
    ∙ ap (λ s. made false g (row.component s))
    (sym (settings_from-recased row.keys (defaults false) h.modifiers g.modifiers
    (name_index h + length h.name) (name_index g + length g.name) r.modifiers))
    ∙ made-recased h g (row.component (settings false row.keys (placed h))) tree
    (after_ok (bad_modifiers false row.keys [] (placed h))
    (made false h (row.component (settings false row.keys (placed h)))) tree e)

pub unless_two : (a b : Option Fault) (f : Fault) (t u : Tree) → unless (a or b or Some f) t ≡ Ok u
    → ⊥
unless_two (Some x) b f t u e = cc
unless_two None (Some x) f t u e = cc
unless_two None None f t u e = cc

verdict-recased : (h g : Head) (close close' : ℕ) (tree : Tree) → RecasedHead h g
    → verdict false h [] close ≡ Ok tree → verdict false g [] close' ≡ Ok tree
verdict-recased h g close close' tree r e =
    ap₂ (λ x y. cond (equal (map lowered (codes "optional")) x) (optional_verdict false g [] close')
    (cond (equal (map lowered (codes "first")) x) (first_verdict false g [] close')
    (component_verdict false g y)))
    (sym r.name) (sym (named-recased (λ r. r.name) h.name g.name rows r.name))
    ∙ optional_case (same false (codes "optional") h.name) (same false (codes "first") h.name) e
  where
    optional_case : (t u : Bool)
        → cond t (optional_verdict false h [] close)
        (cond u (first_verdict false h [] close)
        (component_verdict false h (row_of false h.name))) ≡ Ok tree
        → cond t (optional_verdict false g [] close')
        (cond u (first_verdict false g [] close')
        (component_verdict false g (row_of false h.name))) ≡ Ok tree
    optional_case true u c = absurd
        (unless_two (bad_modifiers false (format ∷ []) [] (placed h)) None
        (fault expected_nested close) (optional (is_formatted false (placed h)) (only [])) tree c)
    optional_case false true c = absurd
        (unless_fault (any_modifier (placed h)) (fault first_item 0) (first (trees [])) tree c)
    optional_case false false c = component-recased h g (row_of false h.name) tree r c

not_strict : (v : DescriptionVersion) → is_version_three v ≡ false
    → (h : Head) (parts : List PlacedDescription) (close : ℕ)
    → verdict (is_version_three v) h parts close ≡ verdict false h parts close
not_strict v e h parts close = ap (λ s. verdict s h parts close) e

recased_verdict : (v : DescriptionVersion) (h g : Head) (ns : Nested) (white : Text) (tree : Tree)
    → is_version_three v ≡ false → RecasedHead h g
    → bracket_verdict v h ns white ≡ Ok tree → bracket_verdict v g ns white ≡ Ok tree
recased_verdict v h g no_nested white tree s r e =
    not_strict v s g [] _ ∙ verdict-recased h g _ _ tree r (sym (not_strict v s h [] _) ∙ e)
recased_verdict v h g (nested w ps ns) white tree s r e = absurd
    (bracket_refuses h w ps ns white tree
    (sym (not_strict v s h (parts_from (length (head_text h)) (nested w ps ns))
    (length (head_text h ++ nested_text (nested w ps ns) ++ white))) ∙ e))

recased_begins : (ps qs : Pieces) → Recased ps qs → BeginsNoRun ps → BeginsNoRun qs
recased_begins no_pieces qs r b = subst BeginsNoRun (sym r) tt
recased_begins (run bytes rest) qs r b = absurd b
recased_begins (escape x y rest) qs r b = subst BeginsNoRun (sym r.1) tt
recased_begins (closing rest) qs r b = subst BeginsNoRun (sym r.1) tt
recased_begins (bracket h ns white tree rest) qs r b = subst BeginsNoRun (sym r.2) tt

recased : (v : DescriptionVersion) (limit n : ℕ) (ps qs : Pieces) → is_version_three v ≡ false
    → ArePieces v limit n ps → Recased ps qs
    → ArePieces v limit n qs × (items qs ≡ items ps)
recased v limit n no_pieces qs s are r = (subst (ArePieces v limit n) (sym r) tt, ap items r)
recased v limit n (run bytes rest) qs s are r =
    let more = recased v limit n rest r.0 s are.2 r.2 in (
      subst (ArePieces v limit n) (sym r.1) (are.0, recased_begins rest r.0 r.2 are.1, more.0),
      ap items r.1 ∙ ap (λ x. literal bytes ∷ x) more.1,
    )
recased v limit n (escape a b rest) qs s are r =
    let more = recased v limit n rest r.0 s are.1 r.2 in (
      subst (ArePieces v limit n) (sym r.1) (are.0, more.0),
      ap items r.1 ∙
          ap (λ x. literal (b ∷ []) ∷ x) more.1,
    )
recased v limit n (closing rest) qs s are r =
    let more = recased v limit n rest r.0 s are.2 r.2 in (
      subst (ArePieces v limit n) (sym r.1) (are.0, are.1, more.0),
      ap items r.1 ∙
          ap (λ x. literal (right ∷ []) ∷ x) more.1,
    )
recased v limit n (bracket h ns white tree rest) qs s are r =
    let more = recased v limit n rest r.1 s are.4 r.4 in (
      subst (ArePieces v limit n) (sym r.2) (
        head_recased h r.0 r.3 are.0,
        are.1,
        are.2,
        recased_verdict v h r.0 ns white tree s r.3 are.3,
        more.0,
      ),
      ap items r.2 ∙ ap (λ x. tree ∷ x) more.1,
    )

pub recasing_law : Recasing
recasing_law v limit n ps qs s are r = recased v limit n ps qs s are r
