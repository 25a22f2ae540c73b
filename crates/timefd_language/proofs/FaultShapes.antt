-- What stands where a fault of a text is, and so where it ends and which words aren't there.
use Rattle.std.proofs.Common.{ℕ, suc, ◌≡◌, ◌+◌, ◌<◌, ◌≤◌, ◌⊎◌, inl, inr, Bool, true, false, not, ◌==◌, List, [], ◌∷◌, ◌++◌, length, length-append, drop, take, min, map, Option, Some, None, Result, Err, refl, sym, ap, ◌∙◌, subst, arith, append_assoc, append-nil, IsUtf8}
use Rattle.std.specs.Prelude.{⊤, IsTrue}
use Rattle.std.specs.List.{list_all, prefix_len}
use Rattle.std.specs.Str.{IsCharBoundary}
use Rattle.std.proofs.Math.Seq.{drop-append_seam, take-append_seam}
use Rattle.std.proofs.lemmas.Bool.{and_parts, and_right, true≢false}
use Rattle.timefd_lang_component.specs.Tree.{Text, Tree}
use Rattle.timefd_lang_fault.specs.Faults.{Kind, Fault, fault, unclosed_bracket, invalid_name, invalid_modifier, missing_name, missing_modifier, expected, not_supported, duplicate_modifier, invalid_combination}
use Rattle.timefd_lang_fault.specs.declared.name.Name.{Name}
use Rattle.timefd_language.specs.declared.description_version.DescriptionVersion.{DescriptionVersion}
use Rattle.timefd_language.specs.declared.description_version.Language.TheVariants.{Version, Strftime}
use Rattle.timefd_language.specs.Bytes.{left, right, colon, is_version_three, is_white, is_word_byte, is_key_byte, ZeroOrMore, OneOrMore, StopsBefore}
use Rattle.timefd_language.specs.Broken.{Misfit, no_colon, no_key, no_value, misfit_text, misfit_fault, IsMisfit, Broken, bare_closing, half_escape, nameless, ill_modified, too_deep, broken_inside, cut_off, unclosed, refused, IsBroken, broken_text, broken_fault, before_inner, FaultOf}
use Rattle.timefd_language.specs.Fault.{enclosed}
use Rattle.timefd_language.specs.FaultSpans.{FaultsLieBetween, StrftimeFaultsLieBetween, LiesBetween}
use Rattle.timefd_language.specs.Grammar.{Nested, no_nested, nested, spelling, nested_text, parts_from, AreNested}
use Rattle.timefd_language.specs.Head.{Head, IsHead, head_text, modifiers_text}
use Rattle.timefd_language.specs.Lookup.{IsNameOf, keys_of}
use Rattle.timefd_language.specs.Names.{Row, row_of}
use Rattle.timefd_language.specs.Slots.{EndsAfterHead}
use Rattle.timefd_language.specs.Spans.{this_many, version_extent}
use Rattle.timefd_language.specs.Verdict.{verdict}
use Rattle.timefd_language.proofs.LieLemmas as lie
use Rattle.timefd_language.proofs.LieLemmas.{Follows, lies_between, word_between}
use Rattle.timefd_language.proofs.ModifierFaults.{KeyFault, ValueFault, ColonFault, KnownFault, ModifierFault, NameFault, Reported, Good, GoodFault, HoldsOf, name_after, modifier_after, named_one, verdict_reported}
use Rattle.timefd_language.proofs.PositionsBetween.{placed_between_law, strftime_placed_between_law}
use Rattle.timefd_language.proofs.Spans.{white-not_word, zero_from_one}

-- At this index of the text, this stands.
pub record StandsAt (P : Text → Text → Text → Type 0) (text word : Text) (k : ℕ) : Type 0 where
  pub front : Text
  pub rest : Text
  pub whole : text ≡ front ++ rest
  pub index : k ≡ length front
  pub is : P front word rest

abbrev pub ShapeAt : Bool → Text → Kind → ℕ → Type 0
ShapeAt strict text (invalid_name name) k = StandsAt (NameFault strict) text name k
ShapeAt strict text (invalid_modifier word) k = StandsAt (ModifierFault strict) text word k
ShapeAt strict text unclosed_bracket k = ⊤
ShapeAt strict text missing_name k = ⊤
ShapeAt strict text (missing_modifier key) k = ⊤
ShapeAt strict text (expected what) k = ⊤
ShapeAt strict text (not_supported what context) k = ⊤
ShapeAt strict text (duplicate_modifier key) k = ⊤
ShapeAt strict text (invalid_combination key context) k = ⊤

-- After other bytes the index is greater.
later : (P : Text → Text → Text → Type 0) (p text word : Text) (k j : ℕ)
    → ((front rest : Text) → P front word rest → P (p ++ front) word rest) → j ≡ k + length p
    → StandsAt P text word k → StandsAt P (p ++ text) word j
later P p text word k j more e s = record {
  front = p ++ s.front;
  rest = s.rest;
  whole = ap (λ t. p ++ t) s.whole ∙ sym (append_assoc p s.front s.rest);
  index = omega (arith, e, s.index, length-append p s.front);
  is = more s.front s.rest s.is;
}

shape_later : (strict : Bool) (p text : Text) (kind : Kind) (k : ℕ) → ShapeAt strict text kind k
    → ShapeAt strict (p ++ text) kind (k + length p)
shape_later strict p text (invalid_name name) k s =
    later (NameFault strict) p text name k (k + length p)
    (λ front rest f. name_after strict p front name rest f) refl s
shape_later strict p text (invalid_modifier word) k s =
    later (ModifierFault strict) p text word k (k + length p)
    (λ front rest f. modifier_after strict p front word rest f) refl s
shape_later strict p text unclosed_bracket k s = tt
shape_later strict p text missing_name k s = tt
shape_later strict p text (missing_modifier key) k s = tt
shape_later strict p text (expected what) k s = tt
shape_later strict p text (not_supported what context) k s = tt
shape_later strict p text (duplicate_modifier key) k s = tt
shape_later strict p text (invalid_combination key context) k s = tt

shape_enclosed : (strict : Bool) (p text : Text) (kind : Kind) (k : ℕ) → ShapeAt strict text kind k
    → let f = enclosed kind k (length p) in ShapeAt strict (p ++ text) f.kind f.index
shape_enclosed strict p text unclosed_bracket k s = tt
shape_enclosed strict p text (invalid_name name) k s = shape_later strict p text (invalid_name name) k s
shape_enclosed strict p text (invalid_modifier word) k s =
    shape_later strict p text (invalid_modifier word) k s
shape_enclosed strict p text missing_name k s = tt
shape_enclosed strict p text (missing_modifier key) k s = tt
shape_enclosed strict p text (expected what) k s = tt
shape_enclosed strict p text (not_supported what context) k s = tt
shape_enclosed strict p text (duplicate_modifier key) k s = tt
shape_enclosed strict p text (invalid_combination key context) k s = tt

-- Broken texts.

-- after a head and white bytes
misfit_front : (strict : Bool) (h : Head) (white : Text) → IsHead h → OneOrMore is_white white
    → (name : Option Name) × EndsAfterHead strict (head_text h ++ white) name
misfit_front strict h white is spaced =
    let n = named_one strict h.name in (
      n.0,
      record {
        head = h;
        white = white;
        ends = record { before = []; is = is; whole = refl };
        all_white = spaced;
        named = n.1;
      },
    )

no_later_colon : (rest : Text) (later : Text) → StopsBefore is_word_byte rest → rest ≡ colon ∷ later → ⊥
no_later_colon rest later stops e = true≢false (subst (StopsBefore is_word_byte) e stops)

word_stops_key : (rest : Text) → StopsBefore is_word_byte rest → StopsBefore is_key_byte rest
word_stops_key [] stops = tt
word_stops_key (b ∷ rest) stops = and_right (not (b == colon)) (is_word_byte b) stops

misfit_shape : (strict : Bool) (h : Head) (white : Text) (m : Misfit) (rest : Text) → IsHead h
    → OneOrMore is_white white → IsMisfit m → StopsBefore is_word_byte rest
    → let f = misfit_fault m (length (head_text h ++ white)) in
    ShapeAt strict ((head_text h ++ white) ++ (misfit_text m ++ rest)) f.kind f.index
misfit_shape strict h white (no_colon word) rest is spaced misfit stops =
    let n = misfit_front strict h white is spaced in
    record {
      front = head_text h ++ white;
      rest = word ++ rest;
      whole = refl;
      index = refl;
      is = inl (record {
        name = n.0;
        after = n.1;
        key = misfit;
        more = rest;
        whole = refl;
        stops = word_stops_key rest stops;
        unknown = λ later e. absurd (no_later_colon rest later stops e);
      });
    }
misfit_shape strict h white (no_key value) rest is spaced misfit stops =
    let n = misfit_front strict h white is spaced in
    record {
      front = head_text h ++ white;
      rest = colon ∷ (value ++ rest);
      whole = refl;
      index = refl;
      is = inr (inr (record {
        name = n.0;
        at = head_text h ++ white;
        after = n.1;
        key_word = [];
        key_bytes = refl;
        before = sym (append-nil (head_text h ++ white));
        none = refl;
        more = value ++ rest;
        whole = refl;
      }));
    }
misfit_shape strict h white (no_value key) rest is spaced misfit stops =
    let n = misfit_front strict h white is spaced in
    record {
      front = (head_text h ++ white) ++ key;
      rest = colon ∷ rest;
      whole = ap (λ t. (head_text h ++ white) ++ t) (append_assoc key (colon ∷ []) rest)
          ∙ sym (append_assoc (head_text h ++ white) key (colon ∷ rest));
      index = omega (arith, length-append (head_text h ++ white) key);
      is = inr (inr (record {
        name = n.0;
        at = head_text h ++ white;
        after = n.1;
        key_word = key;
        key_bytes = zero_from_one is_key_byte key misfit;
        before = refl;
        none = refl;
        more = rest;
        whole = refl;
      }));
    }

-- what follows the head of a closed bracket is no word
nested_stops : (v : DescriptionVersion) (limit n : ℕ) (ns : Nested) (white rest : Text)
    → AreNested v limit n ns → ZeroOrMore is_white white
    → StopsBefore is_word_byte (nested_text ns ++ (white ++ right ∷ rest))
nested_stops v limit n no_nested [] rest are all = refl
nested_stops v limit n no_nested (b ∷ white) rest are all =
    white-not_word b (and_parts (is_white b) (list_all is_white white) all).0
nested_stops v limit n (nested [] ps ns) white rest are all = refl
nested_stops v limit n (nested (b ∷ w) ps ns) white rest are all =
    white-not_word b (and_parts (is_white b) (list_all is_white w) are.0).0

reported_at : (strict : Bool) (P : Text → Text → Text → Type 0) (h : Head) (word tail : Text) (k : ℕ)
    → StopsBefore is_word_byte tail → Reported strict h P word k → StandsAt P (head_text h ++ tail) word k
reported_at strict P h word tail k stops r = record {
  front = r.front;
  rest = r.rest ++ tail;
  whole = ap (λ t. t ++ tail) r.whole ∙ append_assoc r.front r.rest tail;
  index = r.index;
  is = r.is tail stops;
}

known_at : (strict : Bool) (h : Head) (word tail : Text) (k : ℕ) → StopsBefore is_word_byte tail
    → Reported strict h (KnownFault strict) word k
    → StandsAt (ModifierFault strict) (head_text h ++ tail) word k
known_at strict h word tail k stops r =
    let s = reported_at strict (KnownFault strict) h word tail k stops r in
    record { front = s.front; rest = s.rest; whole = s.whole; index = s.index; is = s.is.0 }

good_at : (strict : Bool) (h : Head) (tail : Text) (kind : Kind) (k : ℕ)
    → StopsBefore is_word_byte tail → Good strict h kind k → ShapeAt strict (head_text h ++ tail) kind k
good_at strict h tail (invalid_name name) k stops good =
    reported_at strict (NameFault strict) h name tail k stops good
good_at strict h tail (invalid_modifier word) k stops good =
    known_at strict h word tail k stops good
good_at strict h tail unclosed_bracket k stops good = tt
good_at strict h tail missing_name k stops good = tt
good_at strict h tail (missing_modifier key) k stops good = tt
good_at strict h tail (expected what) k stops good = tt
good_at strict h tail (not_supported what context) k stops good = tt
good_at strict h tail (duplicate_modifier key) k stops good = tt
good_at strict h tail (invalid_combination key context) k stops good = tt

in_broken : (v : DescriptionVersion) (limit n : ℕ) (b : Broken) → IsBroken v limit n b
    → ShapeAt (is_version_three v) (broken_text b) (broken_fault b).kind (broken_fault b).index
in_broken v limit n (bare_closing rest) is = tt
in_broken v limit n (half_escape rest) is = tt
in_broken v limit n (nameless white rest) is = tt
in_broken v limit n (ill_modified h white m rest) is =
    let f = misfit_fault m (length (head_text h ++ white)) in
    subst (λ t. ShapeAt (is_version_three v) t f.kind f.index)
    (sym (append_assoc (head_text h ++ white) (misfit_text m) rest))
    (misfit_shape (is_version_three v) h white m rest is.0 is.1 is.2 is.3)
in_broken v limit n (too_deep h ns white rest) is = tt
in_broken v limit n (broken_inside h ns white front inner) is =
    shape_enclosed (is_version_three v) (before_inner h ns white ++ spelling front) (broken_text inner)
    (broken_fault inner).kind (broken_fault inner).index (in_broken v limit (suc n) inner is.5)
in_broken v limit n (cut_off h ns white front) is = tt
in_broken v limit n (unclosed h ns white rest) is = tt
in_broken v limit n (refused h ns white f rest) is =
    subst (λ t. ShapeAt (is_version_three v) t f.kind f.index)
    (sym (append_assoc (head_text h ++ nested_text ns) white (right ∷ rest)
    ∙ append_assoc (head_text h) (nested_text ns) (white ++ right ∷ rest)))
    (good_at (is_version_three v) h (nested_text ns ++ (white ++ right ∷ rest)) f.kind f.index
    (nested_stops v limit n ns white rest is.1 is.2)
    (subst (HoldsOf (GoodFault (is_version_three v) h)) is.3
    (verdict_reported (is_version_three v) h (parts_from (length (head_text h)) ns)
    (length (head_text h ++ nested_text ns ++ white)) is.0)))

pub in_text : (v : DescriptionVersion) (limit : ℕ) (text : Text) (f : Fault) → FaultOf v limit text f
    → ShapeAt (is_version_three v) text f.kind f.index
in_text v limit text f is =
    let g = broken_fault is.1 in
    subst (λ (x : Fault). ShapeAt (is_version_three v) text x.kind x.index) (sym is.5)
    (subst (λ t. ShapeAt (is_version_three v) t g.kind (g.index + length (spelling is.0))) (sym is.4)
    (shape_later (is_version_three v) (spelling is.0) (broken_text is.1) g.kind g.index
    (in_broken v limit 0 is.1 is.3)))

-- Where it ends.

follows_key : (more : Text) → StopsBefore is_key_byte more → Follows more
follows_key [] stops = tt
follows_key (b ∷ more) stops = lie.no_key b stops

follows_word : (more : Text) → StopsBefore is_word_byte more → Follows more
follows_word [] stops = tt
follows_word (b ∷ more) stops = lie.no_word b stops

word_more : (strict : Bool) (front word rest : Text) → 0 < length word
    → ModifierFault strict front word rest → (more : Text) × (rest ≡ word ++ more) × Follows more
word_more strict front word rest some (inl f) = (f.more, f.whole, follows_key f.more f.stops)
word_more strict front word rest some (inr (inl f)) = (f.more, f.whole, follows_word f.more f.stops)
word_more strict front word rest some (inr (inr f)) = absurd (omega (arith, some, ap length f.none))

pub rest_at : (P : Text → Text → Text → Type 0) (text word : Text) (k : ℕ) → (s : StandsAt P text word k)
    → drop k text ≡ s.rest
rest_at P text word k s =
    ap (λ n. drop n text) s.index ∙ ap (drop (length s.front)) s.whole ∙ drop-append_seam s.front s.rest

many : (strict : Bool) (text : Text) (kind : Kind) (k n : ℕ) → version_extent kind ≡ this_many n
    → ShapeAt strict text kind k → IsCharBoundary (drop k text) (min n (length (drop k text)))
many strict text (invalid_modifier []) k n e s = absurd (cc)
many strict text (invalid_modifier (b ∷ word)) k n e s =
    let len : length (b ∷ word) ≡ n = cc in
    let w = word_more strict s.front (b ∷ word) s.rest (omega arith) s.is in
    let whole : drop k text ≡ (b ∷ word) ++ w.0 =
    rest_at (ModifierFault strict) text (b ∷ word) k s ∙ w.1 in
    subst (IsCharBoundary (drop k text))
    (omega (arith, len, ap length whole, length-append (b ∷ word) w.0))
    (word_between (drop k text) (b ∷ word) w.0 whole w.2)
many strict text unclosed_bracket k n e s = absurd (cc)
many strict text (invalid_name name) k n e s = absurd (cc)
many strict text missing_name k n e s = absurd (cc)
many strict text (missing_modifier key) k n e s = absurd (cc)
many strict text (expected what) k n e s = absurd (cc)
many strict text (not_supported what context) k n e s = absurd (cc)
many strict text (duplicate_modifier key) k n e s = absurd (cc)
many strict text (invalid_combination key context) k n e s = absurd (cc)

pub faults_lie_between_law : FaultsLieBetween
faults_lie_between_law v limit text f utf8 is =
    lies_between (Version v) text f utf8 (placed_between_law v limit text f utf8 is)
    (λ n e. many (is_version_three v) text f.kind f.index n e (in_text v limit text f is))

pub strftime_faults_lie_between_law : StrftimeFaultsLieBetween
strftime_faults_lie_between_law text f utf8 is =
    lies_between Strftime text f utf8 (strftime_placed_between_law text f utf8 is) (λ n e. absurd (cc))
