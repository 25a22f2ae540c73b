-- Which bytes of a text are at fault.
use Rattle.std.proofs.Common.{◌≡◌, ℕ, zero, suc, ◌+◌, ◌-◌, ◌*◌, ◌<◌, ◌≤◌, Bool, true, List, [], ◌∷◌, ◌++◌, length, drop, min, refl, sym, ap, ◌∙◌, subst, arith, append_assoc, length-append}
use Rattle.std.specs.Prelude.{chars}
use Rattle.std.specs.Str.{IsAscii}
use Rattle.std.specs.List.{list_all, prefix_len}
use Rattle.std.proofs.lemmas.Bool.{and_parts}
use Rattle.std.proofs.lemmas.Str.{IsUtf8-from_ascii, chars-IsAscii, chars-append, chars-nil, len_utf8_ascii}
use Rattle.std.proofs.lemmas.Str.Ascii.{IsAscii-cons, IsAscii-nil}
use Rattle.std.proofs.Math.Seq.{drop-append_seam}
use Rattle.timefd_lang_component.specs.Tree.{Text}
use Rattle.timefd_lang_fault.specs.Faults.{Kind, fault}
use Rattle.timefd_lang_fault.specs.BorrowedFaults.{IsBorrowedFault, to_borrowed_fault}
use Rattle.timefd_lang_fault.specs.RuleKinds.{rule_kind}
use Rattle.timefd_lang_fault.specs.Slots.{wanted_by}
use Rattle.timefd_lang_fault.specs.declared.read_error.Fault as code_fault
use Rattle.timefd_lang_fault.specs.declared.borrowed_fault.BorrowedFault.{BorrowedFault}
use Rattle.timefd_lang_fault.specs.declared.rule.Rule.{Rule}
use Rattle.timefd_language.specs.Bytes.{is_word_byte, is_key_byte, ZeroOrMore, StopsBefore}
use Rattle.timefd_language.specs.Slots.{IsWanted, WantsIn}
use Rattle.timefd_language.specs.declared.description_version.Language.{Language}
use Rattle.timefd_language.specs.Spans.{Extent, one_character, whole_word, whole_key, this_many, modifier_extent, version_extent, extent_of, first_len, measured, IsSpanned, SpansIn, SpansVersion}

-- A text within another.

pub spans_after : (extent : Kind → Extent) (wants : Text → Rule → Type 0)
    → ((before front : Text) (r : Rule) → wants front r → wants (before ++ front) r)
    → (whole front text : Text) (f : code_fault.Fault) → whole ≡ front ++ text
    → SpansIn extent wants text f → SpansIn extent wants whole f
spans_after extent wants more whole front text f e s = record {
  before = front ++ s.before;
  rest = s.rest;
  whole = e ∙ ap (λ t. front ++ t) s.whole ∙ sym (append_assoc front s.before s.rest);
  start = s.start;
  len = s.len;
  within = s.within;
  wanted = more front s.before f.rule s.wanted;
}

-- The first character.

pub ascii_len : (b : ℕ) (rest : Text) → b < 128 → first_len (chars (b ∷ rest)) ≡ 1
ascii_len b rest ascii =
    let is : IsAscii (b ∷ []) = IsAscii-cons b [] ascii IsAscii-nil in
    let apart : chars (b ∷ rest) ≡ b ∷ chars rest =
    chars-append (b ∷ []) rest (IsUtf8-from_ascii (b ∷ []) is)
    ∙ ap (λ l. l ++ chars rest) (chars-IsAscii (b ∷ []) is) in
    ap first_len apart ∙ len_utf8_ascii b ascii

pub no_len : first_len (chars []) ≡ 0
no_len = ap first_len chars-nil

-- Runs.

-- the length of the front of a cut
pub prefix_cut : (test : ℕ → Bool) (front rest : Text) → ZeroOrMore test front
    → StopsBefore test rest → prefix_len test (front ++ rest) ≡ length front
prefix_cut test [] [] passes stops = refl
prefix_cut test [] (b ∷ rest) passes stops = rw stops refl
prefix_cut test (b ∷ front) rest passes stops =
    let both = and_parts (test b) (list_all test front) passes in
    let more = prefix_cut test front rest both.1 stops in
    rw both.0 (omega (arith, more))

pub some_extent : (value : Text) → 0 < length value → modifier_extent value ≡ this_many (length value)
some_extent [] some = absurd (omega arith)
some_extent (b ∷ value) some = refl

pub no_extent : (value : Text) → length value ≡ 0 → modifier_extent value ≡ one_character
no_extent [] none = refl
no_extent (b ∷ value) none = absurd (omega arith)

-- Faults, by what stands there.

-- a byte of ASCII
pub spans_byte : (extent : Kind → Extent) (wants : Text → Rule → Type 0) (text before : Text) (b : ℕ)
    (rest : Text) (f : code_fault.Fault) → text ≡ before ++ b ∷ rest → b < 128
    → extent (rule_kind f.rule) ≡ one_character → f.remaining ≡ length (b ∷ rest) → f.len ≡ 1
    → wants before f.rule → SpansIn extent wants text f
spans_byte extent wants text before b rest f e ascii is at len wanted = record {
  before = before;
  rest = b ∷ rest;
  whole = e;
  start = at;
  len = len ∙ sym (ap (λ x. measured x (b ∷ rest)) is ∙ ascii_len b rest ascii);
  within = omega (arith, len);
  wanted = wanted;
}

-- any character, or the end
pub spans_character : (extent : Kind → Extent) (wants : Text → Rule → Type 0) (text before rest : Text)
    (f : code_fault.Fault) → text ≡ before ++ rest → extent (rule_kind f.rule) ≡ one_character
    → f.remaining ≡ length rest → f.len ≡ first_len (chars rest) → f.len ≤ length rest
    → wants before f.rule → SpansIn extent wants text f
spans_character extent wants text before rest f e is at len within wanted = record {
  before = before;
  rest = rest;
  whole = e;
  start = at;
  len = len ∙ sym (ap (λ x. measured x rest) is);
  within = within;
  wanted = wanted;
}

module _ (strict : Bool) (text before front after : Text) (f : code_fault.Fault)
    (e : text ≡ before ++ (front ++ after)) (at : f.remaining ≡ length (front ++ after))
    (len : f.len ≡ length front) (wanted : WantsIn strict before f.rule) where
  front_within : f.len ≤ length (front ++ after)
  front_within = omega (arith, len, length-append front after)

  pub spans_word : ZeroOrMore is_word_byte front → StopsBefore is_word_byte after
      → version_extent (rule_kind f.rule) ≡ whole_word → SpansVersion strict text f
  spans_word passes stops is = record {
    before = before;
    rest = front ++ after;
    whole = e;
    start = at;
    len = len ∙ sym (ap (λ x. measured x (front ++ after)) is ∙ prefix_cut is_word_byte front after passes stops);
    within = front_within;
    wanted = wanted;
  }

  pub spans_key : ZeroOrMore is_key_byte front → StopsBefore is_key_byte after
      → version_extent (rule_kind f.rule) ≡ whole_key → SpansVersion strict text f
  spans_key passes stops is = record {
    before = before;
    rest = front ++ after;
    whole = e;
    start = at;
    len = len ∙ sym (ap (λ x. measured x (front ++ after)) is ∙ prefix_cut is_key_byte front after passes stops);
    within = front_within;
    wanted = wanted;
  }

  pub spans_bytes : version_extent (rule_kind f.rule) ≡ this_many (length front)
      → SpansVersion strict text f
  spans_bytes is =
      let cut : min (length front) (length (front ++ after)) ≡ length front =
      omega (arith, length-append front after) in
      record {
        before = before;
        rest = front ++ after;
        whole = e;
        start = at;
        len = len ∙ sym (ap (λ x. measured x (front ++ after)) is ∙ cut);
        within = front_within;
        wanted = wanted;
      }

-- The fault that is borrowed.

pub spanned : (extent : Kind → Extent) (wants : Text → Rule → Type 0) (language : Language)
    (text : Text) (f : code_fault.Fault) (g : BorrowedFault)
    → ((k : Kind) → extent_of language k ≡ extent k)
    → ((before rest : Text) → text ≡ before ++ rest → wants before f.rule
    → IsWanted language text (fault (rule_kind f.rule) (length before)) (wanted_by f.rule))
    → SpansIn extent wants text f → IsBorrowedFault (length text) f g → IsSpanned language text g
spanned extent wants language text f g same slot s borrowed =
    let joined : length text ≡ length s.before + length s.rest =
    ap length s.whole ∙ length-append s.before s.rest in
    let start : g.start ≡ length s.before = omega (arith, borrowed.start, s.start, joined) in
    let cut : min f.len f.remaining ≡ f.len = omega (arith, s.within, s.start) in
    let end : g.end ≡ g.start + f.len = borrowed.end ∙ ap (λ n. g.start + n) cut in
    let there : drop g.start text ≡ s.rest =
    ap (λ n. drop n text) start ∙ ap (drop (length s.before)) s.whole
    ∙ drop-append_seam s.before s.rest in
    let is : extent_of language (rule_kind g.rule) ≡ extent (rule_kind f.rule) =
    same (rule_kind g.rule) ∙ ap extent borrowed.kind in
    record {
      end = end
          ∙ ap (λ n. g.start + n) (s.len ∙ sym (ap (λ x. measured x (drop g.start text)) is
          ∙ ap (measured (extent (rule_kind f.rule))) there));
      order = omega (arith, end);
      within = omega (arith, end, start, joined, s.within);
      slot = subst (IsWanted language text (to_borrowed_fault g)) (sym borrowed.wanted)
          (subst (λ k. IsWanted language text (fault k g.start) (wanted_by f.rule)) (sym borrowed.kind)
          (subst (λ n. IsWanted language text (fault (rule_kind f.rule) n) (wanted_by f.rule))
          (sym start) (slot s.before s.rest s.whole s.wanted)));
    }
