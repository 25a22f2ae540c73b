-- The field of a record without quotes.
use Rattle.std.proofs.Common.{ℕ, zero, suc, ◌≡◌, ◌≢◌, ◌∙◌, ◌+◌, ◌-◌, ◌<◌, ◌≤◌, ◌++◌, ◌==◌, ◌||◌, Bool, true, false, List, [], ◌∷◌, All, Option, Some, None, length, take, drop, get_or, refl, sym, ap, subst, arith, append_assoc, append-nil, eqb-true, length-append, length-take, length-drop}
use Rattle.std.proofs.lemmas.Bool.Decides.{nat_tests}
use Rattle.std.proofs.lemmas.List.{take_all, take_more, take-append-drop}
use Rattle.std.proofs.lemmas.List.Elements.{All-drop, All-take}
use Rattle.std.proofs.Math.Seq.{drop-append-add, drop-append_seam, take-append_seam}
use Rattle.memchr.specs.Find.{IsFirstByte, is_byte, is_byte2}
use Rattle.timefd_lang_component.specs.Tree.{Text}
use Rattle.timefd_lint_rewrite.specs.Lines.{end_of, without_newline}
use Rattle.timefd_format.specs.declared.quoting.FieldQuoting.TheVariants.{Start}
use Rattle.timefd_format.specs.Fields.{field_after, fields, joined, with_field}
use Rattle.timefd_format.specs.PlainCells.{IsAhead, IsFieldLen}
use Rattle.timefd_format.specs.RecordBatches.{IsPlainRecord}
use Rattle.timefd_format.proofs.FieldLemmas.{has_first, has_first_with, joined_fields, joined_more, whole_line}
use Rattle.timefd_format.proofs.PlainLemmas.{first_field, whole_row}
use Rattle.timefd_format.proofs.PlainRecordLemmas.{without_quotes}

-- Without quotes, the first comma is the first comma or quote.

other_by : (b : ℕ) (comma quote : Bool) → (quote ≡ true → ⊥) → (comma || quote) ≡ true → comma ≡ true
other_by b true quote plain either = refl
other_by b false quote plain either = absurd (plain either)

other_than : (b : ℕ) → b ≢ 34 → is_byte2 44 34 b ≡ true → is_byte 44 b ≡ true
other_than b plain either = other_by b (b == 44) (b == 34) (λ is. plain (eqb-true b 34 is)) either

either_of : (b : ℕ) → is_byte 44 b ≡ true → is_byte2 44 34 b ≡ true
either_of b is = rw is refl

first_mark : (text : Text) (r : Option ℕ) → All (λ b. b ≢ 34) text → IsFirstByte (is_byte 44) text r
    → IsFirstByte (is_byte2 44 34) text r
first_mark text None plain none =
    λ i low high is. none i low high (other_than (get_or text i 0) (plain i 0 high) is)
first_mark text (Some at) plain found = (
  record {
    low = found.0.low;
    high = found.0.high;
    before = λ i low high is.
        found.0.before i low high
        (other_than (get_or text i 0) (plain i 0 (omega (arith, high, found.0.high))) is);
  },
  either_of (get_or text at 0) found.1,
)

-- What comes before the field that is looked for.

pub at_start : (content : Text) (n : ℕ) → IsAhead content n content n
at_start content n = record { front = []; whole = refl; joins = λ new. refl; finds = refl }

pub plain_ahead : (row content text : Text) (n left : ℕ) → IsPlainRecord row → content ≡ without_newline row
    → IsAhead content n text left → All (λ b. b ≢ 34) text
plain_ahead row content text n left plain is ahead =
    let all : All (λ b. b ≢ 34) (content ++ end_of row) =
    subst (All (λ b. b ≢ 34)) (whole_line row ∙ ap (λ c. c ++ end_of row) (sym is)) (without_quotes row plain) in
    let first : All (λ b. b ≢ 34) content =
    subst (All (λ b. b ≢ 34)) (take-append_seam content (end_of row))
    (All-take (λ b. b ≢ 34) (length content) (content ++ end_of row) all) in
    subst (All (λ b. b ≢ 34)) (drop-append_seam ahead.front text)
    (subst (λ c. All (λ b. b ≢ 34) (drop (length ahead.front) c)) ahead.whole
    (All-drop (λ b. b ≢ 34) (length ahead.front) content first))

one_less : (content text more field : Text) (n left less : ℕ) → left ≡ suc less → IsAhead content n text left
    → fields text ≡ field ∷ fields more → text ≡ field ++ 44 ∷ more → IsAhead content n more less
one_less content text more field n left less one ahead is whole =
    let others = λ (new : Text). with_field less new (fields more) in
    let rest = λ (new : Text). joined (with_field less new (fields more)) in record {
      front = ahead.front ++ (field ++ 44 ∷ []);
      whole = ahead.whole ∙ ap (λ t. ahead.front ++ t) (whole ∙ sym (append_assoc field (44 ∷ []) more))
          ∙ sym (append_assoc ahead.front (field ++ 44 ∷ []) more);
      joins = λ new. ahead.joins new
          ∙ ap (λ k. ahead.front ++ joined (with_field k new (fields text))) one
          ∙ ap (λ fs. ahead.front ++ joined (with_field (suc less) new fs)) is
          ∙ ap (λ t. ahead.front ++ t) (
          joined_more field (with_field less new (fields more))
          (has_first_with less new (fields more) (has_first Start more))
          ∙ sym (append_assoc field (44 ∷ []) (joined (with_field less new (fields more))))
          )
          ∙ sym (append_assoc ahead.front (field ++ 44 ∷ []) (joined (with_field less new (fields more))));
      finds = ahead.finds ∙ ap (λ k. field_after k (fields text)) one ∙ ap (field_after (suc less)) is;
    }

pub next_ahead : (row content text more : Text) (n left less at : ℕ) → IsPlainRecord row
    → content ≡ without_newline row → IsAhead content n text left → left ≡ suc less
    → IsFirstByte (is_byte 44) text (Some at) → more ≡ drop (at + 1) text → IsAhead content n more less
next_ahead row content text more n left less at plain is ahead one found is_more =
    let split = first_field text (take at text) more at
    (first_mark text (Some at) (plain_ahead row content text n left plain is ahead) found)
    (eqb-true (get_or text at 0) 44 found.1) refl is_more in
    one_less content text more (take at text) n left less one ahead split.0 split.1

-- The first field, and what follows it.

pub up_to_comma : (text : Text) (at : ℕ) → All (λ b. b ≢ 34) text → IsFirstByte (is_byte 44) text (Some at)
    → IsFieldLen text at
up_to_comma text at plain found =
    let more = drop (at + 1) text in
    let split = first_field text (take at text) (drop (at + 1) text) at (first_mark text (Some at) plain found)
    (eqb-true (get_or text at 0) 44 found.1) refl refl in
    let rest : drop at text ≡ 44 ∷ drop (at + 1) text =
    ap (drop at) split.1 ∙ ap (λ k. drop k (take at text ++ 44 ∷ drop (at + 1) text)) (omega (arith, length-take at text, found.0.high))
    ∙ drop-append_seam (take at text) (44 ∷ drop (at + 1) text) in record {
      within = omega (arith, found.0.high);
      others = fields (drop (at + 1) text);
      first = split.0;
      joins = λ new. joined_more new (fields (drop (at + 1) text)) (has_first Start (drop (at + 1) text))
          ∙ ap (λ t. new ++ 44 ∷ t) (joined_fields Start (drop (at + 1) text)) ∙ ap (λ t. new ++ t) (sym rest);
    }

pub up_to_end : (text : Text) (len : ℕ) → All (λ b. b ≢ 34) text → IsFirstByte (is_byte 44) text None
    → len ≡ length text → IsFieldLen text len
up_to_end text len plain none is = record {
  within = omega (arith, is);
  others = [];
  first = (whole_row text (first_mark text None plain none)).0
      ∙ ap (λ t. t ∷ []) (sym (take_all len text (omega (arith, is))));
  joins = λ new. sym (ap (λ t. new ++ t) (nothing_left text len is) ∙ append-nil new);
}
  where
    nothing : (rest : Text) → length rest ≡ 0 → rest ≡ []
    nothing [] none = refl
    nothing (b ∷ bs) none = absurd (omega (arith, none))

    nothing_left : (text : Text) (len : ℕ) → len ≡ length text → drop len text ≡ []
    nothing_left text len is = nothing (drop len text) (omega (arith, length-drop len text, is))

-- The field with what is before and after it.

pub cell_is : (row content text front field after : Text) (n left from len : ℕ) → content ≡ without_newline row
    → IsAhead content n text left → left ≡ 0 → IsFieldLen text len → from ≡ length content - length text
    → front ≡ take from row → field ≡ take len text → after ≡ drop (from + len) row
    → (field_after n (fields (without_newline row)) ≡ Some field)
    × ((new : Text) → front ++ (new ++ after)
    ≡ joined (with_field n new (fields (without_newline row))) ++ end_of row)
cell_is row content text front field after n left from len is ahead none first from_is front_is field_is after_is =
    let whole : row ≡ ahead.front ++ (text ++ end_of row) =
    whole_line row ∙ ap (λ c. c ++ end_of row) (sym is ∙ ahead.whole) ∙ append_assoc ahead.front text (end_of row) in
    let size : from ≡ length ahead.front =
    omega (arith, from_is, ap length ahead.whole, length-append ahead.front text) in
    let before : front ≡ ahead.front =
    front_is ∙ ap (λ k. take k row) size ∙ ap (take (length ahead.front)) whole ∙ take-append_seam ahead.front (text ++ end_of row) in
    let parted : text ≡ take len text ++ drop len text = sym (take-append-drop len text) in
    let long : row ≡ (ahead.front ++ take len text) ++ (drop len text ++ end_of row) =
    whole ∙ ap (λ t. ahead.front ++ (t ++ end_of row)) parted
    ∙ ap (λ t. ahead.front ++ t) (append_assoc (take len text) (drop len text) (end_of row))
    ∙ sym (append_assoc ahead.front (take len text) (drop len text ++ end_of row)) in
    let reach : from + len ≡ length (ahead.front ++ take len text) =
    omega (arith, size, length-append ahead.front (take len text), length-take len text, first.within) in
    let rest_is : after ≡ drop len text ++ end_of row =
    after_is ∙ ap (λ k. drop k row) reach ∙ ap (drop (length (ahead.front ++ take len text))) long
    ∙ drop-append_seam (ahead.front ++ take len text) (drop len text ++ end_of row) in (
      ap (λ c. field_after n (fields c)) (sym is) ∙ ahead.finds ∙ ap (λ k. field_after k (fields text)) none
          ∙ ap (field_after 0) first.first ∙ ap Some (sym field_is),
      λ new. ap (λ f. f ++ (new ++ after)) before ∙ ap (λ a. ahead.front ++ (new ++ a)) rest_is
          ∙ ap (λ t. ahead.front ++ t) (sym (append_assoc new (drop len text) (end_of row)))
          ∙ sym (append_assoc ahead.front (new ++ drop len text) (end_of row))
          ∙ ap (λ t. (ahead.front ++ t) ++ end_of row) (sym (first.joins new))
          ∙ ap (λ fs. (ahead.front ++ joined (with_field 0 new fs)) ++ end_of row) (sym first.first)
          ∙ ap (λ k. (ahead.front ++ joined (with_field k new (fields text))) ++ end_of row) (sym none)
          ∙ ap (λ t. t ++ end_of row) (sym (ahead.joins new))
          ∙ ap (λ c. joined (with_field n new (fields c)) ++ end_of row) is,
    )

-- Where the parts of a record are.

pub ahead_fits : (content text : Text) (n left : ℕ) → IsAhead content n text left → length text ≤ length content
ahead_fits content text n left ahead = omega (arith, ap length ahead.whole, length-append ahead.front text)

pub cell_fits : (row content text : Text) (n left len from : ℕ) → content ≡ without_newline row
    → IsAhead content n text left → IsFieldLen text len → from ≡ length content - length text
    → from + len ≤ length row
cell_fits row content text n left len from is ahead first from_is =
    omega (
      arith,
      from_is,
      first.within,
      ap length ahead.whole,
      length-append ahead.front text,
      ap length is,
      ap length (whole_line row),
      length-append (without_newline row) (end_of row),
    )

pub cell_plain : (text field : Text) (len : ℕ) → All (λ b. b ≢ 34) text → field ≡ take len text
    → All (λ b. b ≢ 34) field
cell_plain text field len plain is = subst (All (λ b. b ≢ 34)) (sym is) (All-take (λ b. b ≢ 34) len text plain)
