-- Heads, read a modifier at a time.
use Rattle.std.proofs.Common.{◌≡◌, ℕ, ◌+◌, ◌<◌, Bool, List, [], ◌∷◌, ◌++◌, length, Option, refl, sym, ap, ◌∙◌, subst, arith, append_assoc, append-nil, length-append}
use Rattle.std.specs.List.{list_all}
use Rattle.std.proofs.lemmas.Bool.{and_parts, true≢false}
use Rattle.timefd_lang_component.specs.Tree.{Text}
use Rattle.timefd_language.specs.declared.description_version.DescriptionVersion.{DescriptionVersion}
use Rattle.timefd_parse.specs.declared.head.modifier.Modifier as code
use Rattle.timefd_parse.specs.declared.head.modifiers.Modifiers as code_modifiers
use Rattle.timefd_parse.specs.declared.head.Head as code_head
use Rattle.timefd_lang_fault.specs.declared.name.Name.{Name}
use Rattle.timefd_lang_fault.specs.declared.read_error.Fault as code_fault
use Rattle.timefd_lang_fault.specs.declared.rule.Rule.TheVariants as broken
use Rattle.timefd_language.specs.Bytes.{left, is_white, is_word_byte, OneOrMore, StopsBefore}
use Rattle.timefd_language.specs.Head.{Modifier, IsModifier, AreModifiers, modifier_text, modifiers_text, Head, IsHead, Placed, placed_at, placed_from}
use Rattle.timefd_language.specs.Broken.{Misfit, no_colon, no_key, no_value, misfit_fault, nameless, ill_modified, name_wanted_index, BeginsNoEscape}
use Rattle.timefd_language.specs.Cut.{IsCut}
use Rattle.timefd_language.specs.Lookup.{IsNameOf}
use Rattle.timefd_parse.specs.Checked.{Checks}
use Rattle.timefd_lang_fault.specs.ReadErrors.{IsFault}
use Rattle.timefd_language.specs.FaultMeaning.{IsFaultAt}
use Rattle.timefd_parse.specs.ReadModifiers.{IsPlaced, IsWord, IsNoWord, BeginsWithWord}
use Rattle.timefd_parse.specs.Heads.{BeginsWithHead}
use Rattle.timefd_parse.proofs.ModifierLemmas.{empty, one_or_more}

-- Modifiers.

-- the modifiers that were taken from a text, and the rest of it
pub record ModifiersBefore (strict : Bool) (name : Option Name) (start : Text)
    (c : code_modifiers.Modifiers) (rest : Text) : Type 0 where
  pub list : List Modifier
  pub are : AreModifiers list
  pub whole : start ≡ modifiers_text list ++ rest
  pub stops : StopsBefore is_word_byte rest
  pub checks : (k total : ℕ) → k + length start ≡ total
      → Checks strict name total c (placed_from k list)

pub no_modifiers : (strict : Bool) (name : Option Name) (start : Text)
    (c : code_modifiers.Modifiers) → StopsBefore is_word_byte start
    → ((name : Option Name) (total : ℕ) → Checks strict name total c [])
    → ModifiersBefore strict name start c start
no_modifiers strict name start c stops new =
    record {
      list = [];
      are = tt;
      whole = refl;
      stops = stops;
      checks =
          λ k total e. new name total;
    }

pub modifiers_more : (ms : List Modifier) (m : Modifier) → AreModifiers ms → IsModifier m
    → AreModifiers (ms ++ m ∷ [])
modifiers_more [] m are is = (is, tt)
modifiers_more (x ∷ ms) m are is = (are.0, modifiers_more ms m are.1 is)

pub modifiers_text_more : (ms : List Modifier) (m : Modifier)
    → modifiers_text (ms ++ m ∷ []) ≡ modifiers_text ms ++ modifier_text m
modifiers_text_more [] m = append-nil (modifier_text m)
modifiers_text_more (x ∷ ms) m = ap (λ t. modifier_text x ++ t) (modifiers_text_more ms m) ∙
    sym (append_assoc (modifier_text x) (modifiers_text ms) (modifier_text m))

pub placed_more : (k : ℕ) (ms : List Modifier) (m : Modifier)
    → placed_from k (ms ++ m ∷ []) ≡ placed_from k ms ++ placed_at (k + length (modifiers_text ms))
    m ∷ []
placed_more k [] m = ap (λ j. placed_at j m ∷ []) (omega arith)
placed_more k (x ∷ ms) m =
    let same : k + length (modifier_text x) + length (modifiers_text ms) ≡ k + length
    (modifiers_text (x ∷ ms)) =
    omega (arith, length-append (modifier_text x) (modifiers_text ms)) in
    ap (λ l. placed_at k x ∷ l) (placed_more (k + length (modifier_text x)) ms m ∙
    ap (λ j. placed_from (k + length (modifier_text x)) ms ++ placed_at j m ∷ []) same)

pub white_between : (rest white after word after_word : Text) → StopsBefore is_word_byte rest
    → IsCut is_white rest white after → IsCut is_word_byte after word after_word → 0 < length word
    → OneOrMore is_white white
white_between rest (b ∷ white) after word after_word stops w u some = w.passes
white_between rest [] after [] after_word stops w u some = absurd (omega arith)
white_between rest [] after (c ∷ word) after_word stops w u some =
    let front = subst (StopsBefore is_word_byte) (w.whole ∙ u.whole) stops in
    absurd (true≢false (sym (and_parts (is_word_byte c) (list_all is_word_byte word) u.passes).0 ∙
    front))

pub modifiers_step : (strict : Bool) (name : Option Name)
    (start rest white after word after_word : Text) (c c' : code_modifiers.Modifiers)
    (item : code.Modifier)
    → ModifiersBefore strict name start c rest → IsCut is_white rest white after
    → BeginsWithWord after word after_word → IsWord word (length after) item
    → ((total : ℕ) (ps : List Placed) (p : Placed) → Checks strict name total c ps
    → IsPlaced total item p → Checks strict name total c' (ps ++ p ∷ []))
    → ModifiersBefore strict name start c' after_word
modifiers_step strict name start rest white after word after_word c c' item before w u is takes =
    let m : Modifier = record { white = white; key = item.key.now; value = item.value.now } in
    let spaced : OneOrMore is_white white =
    white_between rest white after word after_word before.stops w u.cut u.some in
    let a : length start ≡ length (modifiers_text before.list) + length rest =
    ap length before.whole ∙ length-append (modifiers_text before.list) rest in
    let b : length rest ≡ length white + length after =
    ap length w.whole ∙ length-append white after in
    record {
      list = before.list ++ m ∷ [];
      are = modifiers_more before.list m before.are
          (record { white = spaced; key = is.key; value = is.value });
      whole = before.whole ∙ ap (λ t. modifiers_text before.list ++ t)
          (w.whole ∙ ap (λ t. white ++ t) (u.cut.whole ∙ ap (λ t. t ++ after_word) is.whole)) ∙
          rw (modifiers_text_more before.list m) (simp append_assoc);
      stops = u.cut.stops;
      checks = λ k total e.
          subst (Checks strict name total c') (sym (placed_more k before.list m))
          (takes total (placed_from k before.list)
          (placed_at (k + length (modifiers_text before.list)) m) (before.checks k total e)
          (record {
            key = refl;
            key_position = omega (arith, is.key_position);
            value = refl;
            value_position =
                omega (arith, is.value_position);
          }));
    }

-- Heads.

-- a text without a name where one is needed
pub nameless_fault : (v : DescriptionVersion) (limit n : ℕ) (inside white named name after : Text)
    (remaining len : ℕ)
    → BeginsNoEscape v inside → IsCut is_white inside white named
    → IsCut is_word_byte named name after → length name ≡ 0
    → remaining + name_wanted_index white ≡ length inside + 1
    → IsFaultAt v limit n (left ∷ inside)
    (record { rule = broken.MissingName; remaining = remaining; len = len })
nameless_fault v limit n inside white named name after remaining len none_escaped w u none position = (
  nameless white named,
  (
    w.passes,
    w.stops,
    subst (StopsBefore is_word_byte)
        (sym (u.whole ∙ ap (λ t. t ++ after) (empty name none))) u.stops,
    subst (BeginsNoEscape v) w.whole none_escaped,
  ),
  ap (λ t. left ∷ t) w.whole,
  record { kind = refl; position = omega (arith, position) },
)

head_of : Text → Text → List Modifier → Head
head_of white name ms = record { white = white; name = name; modifiers = ms }

is_head : (inside white named name after : Text) (ms : List Modifier)
    → IsCut is_white inside white named → IsCut is_word_byte named name after → 0 < length name
    → AreModifiers ms
    → IsHead (head_of white name ms)
unfolding head_of
is_head inside white named name after ms w u some are =
    record { white = w.passes; name = one_or_more is_word_byte name some u.passes; modifiers = are }

pub head_found : (strict : Bool) (inside white named word start : Text) (rest after : Text)
    (head : code_head.Head) (modifiers : code_modifiers.Modifiers)
    → IsCut is_white inside white named → IsCut is_word_byte named word start → 0 < length word
    → ModifiersBefore strict head.name start modifiers rest
    → IsCut is_white rest head.white.now after → StopsBefore is_word_byte after
    → head.word.now ≡ word → head.remaining ≡ length named → IsNameOf strict head.word.now head.name
    → (h : Head) × BeginsWithHead strict (left ∷ inside) head modifiers after h
unfolding head_of
head_found strict inside white named word start rest after head modifiers w u some before w' stops
    word_is remaining_is name_is =
    let a : length inside ≡ length white + length named =
    ap length w.whole ∙ length-append white named in
    let b : length named ≡ length word + length start =
    ap length u.whole ∙ length-append word start in (
      head_of white word before.list,
      record {
        is = is_head inside white named word start before.list w u some before.are;
        whole = ap (λ t. left ∷ t) (w.whole ∙
            ap (λ t. white ++ t) (u.whole ∙
            ap (λ t. word ++ t) (before.whole ∙
            ap (λ t. modifiers_text before.list ++ t) w'.whole))) ∙ simp append_assoc;
        all_white = w'.passes;
        stops_white = w'.stops;
        stops_word = stops;
        shows = record {
          word = sym word_is;
          position = omega (arith, remaining_is);
          name = name_is;
          checks = before.checks _ _ (omega arith);
        };
      },
    )

misfit_raised : (m : Misfit) (k : ℕ) (remaining total : ℕ) (f : code_fault.Fault)
    → IsFault remaining f (misfit_fault m 0) → k + remaining ≡ total
    → IsFault total f (misfit_fault m k)
misfit_raised (no_colon word) k remaining total f is e =
    record { kind = is.kind; position = omega (arith, is.position) }
misfit_raised (no_key value) k remaining total f is e =
    record { kind = is.kind; position = omega (arith, is.position) }
misfit_raised (no_value key) k remaining total f is e =
    record { kind = is.kind; position = omega (arith, is.position) }

pub modifier_fault : (v : DescriptionVersion) (limit n : ℕ) (strict : Bool) (name : Option Name)
    (inside white named name_word start : Text) (c : code_modifiers.Modifiers)
    (rest white' after : Text) (f : code_fault.Fault)
    → IsCut is_white inside white named → IsCut is_word_byte named name_word start
    → 0 < length name_word → ModifiersBefore strict name start c rest
    → IsCut is_white rest white' after
    → ((word : Text) × (after_word : Text) × BeginsWithWord after word after_word
    × IsNoWord word (length after) f)
    → IsFaultAt v limit n (left ∷ inside) f
unfolding head_of
modifier_fault v limit n strict name inside white named name_word start c rest white' after f w u
    some before w' bad =
    let h : Head = head_of white name_word before.list in
    let is = bad.3 in
    let a : length inside ≡ length white + length named =
    ap length w.whole ∙ length-append white named in
    let b : length named ≡ length name_word + length start =
    ap length u.whole ∙ length-append name_word start in
    let d : length start ≡ length (modifiers_text before.list) + length rest =
    ap length before.whole ∙ length-append (modifiers_text before.list) rest in
    let e : length rest ≡ length white' + length after =
    ap length w'.whole ∙ length-append white' after in (
      ill_modified h white' is.0 bad.1,
      (
        is_head inside white named name_word start before.list w u some before.are,
        white_between rest white' after bad.0 bad.1 before.stops w' bad.2.cut bad.2.some,
        is.1,
        bad.2.cut.stops,
      ),
      ap (λ t. left ∷ t) (w.whole ∙
          ap (λ t. white ++ t) (u.whole ∙
          ap (λ t. name_word ++ t) (before.whole ∙
          ap (λ t. modifiers_text before.list ++ t)
          (w'.whole ∙ ap (λ t. white' ++ t) (bad.2.cut.whole ∙ ap (λ t. t ++ bad.1) is.2))))) ∙
          simp append_assoc,
      misfit_raised is.0 _ (length after) _ f is.3 (simp length-append (omega arith)),
    )

pub name_wanted_none : (white : Text) → length white ≡ 0 → name_wanted_index white ≡ 0
name_wanted_none [] e = refl
name_wanted_none (b ∷ white) e = absurd (omega arith)

pub name_wanted_some : (white : Text) → (length white ≡ 0 → ⊥) → name_wanted_index white ≡ 1
name_wanted_some [] e = absurd (e refl)
name_wanted_some (b ∷ white) e = refl
