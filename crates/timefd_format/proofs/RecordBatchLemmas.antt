-- Records that are read and written many at once.
use Rattle.std.proofs.Common.{ℕ, zero, suc, ◌≡◌, ◌≢◌, ◌∙◌, ◌+◌, ◌-◌, ◌==◌, ◌||◌, ◌<◌, ◌≤◌, ◌++◌, Bool, true, false, cond, List, [], ◌∷◌, All, Option, Some, None, Result, Ok, Err, length, take, drop, map, nat_eq, refl, sym, ap, subst, arith, append_assoc, length-append, length-take, length-drop}
use Rattle.std.specs.List.{list_any, starts_with}
use Rattle.std.proofs.lemmas.Bool.Decides.{nat_tests}
use Rattle.std.proofs.lemmas.List.Elements.{All-head}
use Rattle.timefd_lang_component.specs.Tree.{Text, trees}
use Rattle.timefd_date_format.specs.Appends.{IsAppended, IsKept, TriesToAppend}
use Rattle.timefd_date_format.specs.declared.field.Unshown.{Unshown}
use Rattle.timefd_date_format.specs.Written.{written_all}
use Rattle.timefd_date_format.proofs.AppendLemmas.{both_appended, kept, kept_after, part, tries_after}
use Rattle.timefd_date_moment.specs.declared.moment.Moment.{Moment}
use Rattle.timefd_lang_node_list.specs.declared.leaves.Leaf.{Leaf}
use Rattle.timefd_lang_node_list.specs.LeafMeaning.{leaf_tree}
use Rattle.timefd_parse.specs.declared.parsing.BorrowedOutput.{BorrowedOutput}
use Rattle.timefd_format.specs.declared.fast.batch.Batch.{Batch}
use Rattle.timefd_format.specs.declared.frame.Cell.{Cell}
use Rattle.timefd_format.specs.declared.frame.LineFrame.TheVariants as frames
use Rattle.timefd_format.specs.declared.source.MomentSource.{MomentSource}
use Rattle.timefd_format.specs.Batches.{no_batch}
use Rattle.timefd_format.specs.Fields.{IsCell, text_of}
use Rattle.timefd_format.specs.Frames.{field_of, framed, is_quoted, wants_quotes}
use Rattle.timefd_format.specs.ReadBack.{IsMadeOf}
use Rattle.timefd_format.specs.RecordBatches.{AreRecordsShown, IsPlainRecord, IsRecordBatch, IsRecordShownAs, TriesToAppendRecord, in_cell}
use Rattle.timefd_format.specs.Sources.{IsMomentIn}
use Rattle.timefd_format.specs.Written.{written_of}
use Rattle.timefd_format.proofs.BatchLemmas.{end_inside, read_more}
use Rattle.timefd_format.proofs.FrontLemmas.{by_leaves}
use Rattle.timefd_format.proofs.PlainLemmas.{text_plain}

-- The text of a moment, in place of a field without quotes.

unquoted : (field : Text) → All (λ b. b ≢ 34) field → is_quoted field ≡ false
unquoted [] plain = refl
unquoted (b ∷ bs) plain =
    let e : nat_eq 34 b ≡ false = grind (arith, nat_tests, All-head (λ x. x ≢ 34) b bs plain) in rw e refl

as_it_is : (field text : Text) → All (λ b. b ≢ 34) field → list_any wants_quotes text ≡ false
    → field_of field text ≡ text
as_it_is field text plain none = rw (unquoted field plain) (rw none refl)

cell_by : (x : Result Text Unshown) (cell : Cell) (front after old one two new : Text) (at begin end : ℕ)
    (r : Option ℕ) → front ≡ cell.front.now → after ≡ cell.after.now → All (λ b. b ≢ 34) cell.field.now
    → at ≤ length old → IsAppended front old at one begin → TriesToAppend x one begin two (Some end)
    → list_any wants_quotes (take (end - begin) (drop begin two)) ≡ false
    → TriesToAppend (Ok after) two end new r → TriesToAppend (in_cell cell x) old at new r
cell_by (Err u) cell front after old one two new at begin end r front_is after_is plain room first second none third =
    absurd second
cell_by (Ok text) cell front after old one two new at begin end r front_is after_is plain room first second none third =
    let inside : begin ≤ length one = end_inside front old one at begin room first in
    let fits : begin + length text ≤ length one =
    omega (arith, second.ends, second.same, end_inside text one two begin end inside second) in
    let written : take (end - begin) (drop begin two) ≡ text = part text one two begin end fits second in
    let whole : framed (frames.Field cell) text ≡ (front ++ text) ++ after =
    ap (λ t. cell.front.now ++ (t ++ cell.after.now))
    (as_it_is cell.field.now text plain (ap (list_any wants_quotes) (sym written) ∙ none))
    ∙ ap (λ f. f ++ (text ++ cell.after.now)) (sym front_is) ∙ ap (λ a. front ++ (text ++ a)) (sym after_is)
    ∙ sym (append_assoc front text after) in
    subst (λ t. TriesToAppend (Ok t) old at new r) (sym whole)
    (tries_after (front ++ text) after old two new at end r room
    (both_appended front text old one two at begin end first second) third)

pub cell_appended : (m : Moment) (o : BorrowedOutput) (leaves : List Leaf) (cell : Cell)
    (front after old one two new : Text) (at begin end : ℕ) (r : Option ℕ) → IsMadeOf o leaves
    → front ≡ cell.front.now → after ≡ cell.after.now → All (λ b. b ≢ 34) cell.field.now → at ≤ length old
    → TriesToAppend (Ok front) old at one (Some begin)
    → TriesToAppend (written_all m (trees (map leaf_tree leaves))) one begin two (Some end)
    → list_any wants_quotes (take (end - begin) (drop begin two)) ≡ false
    → TriesToAppend (Ok after) two end new r → TriesToAppend (in_cell cell (written_of m o)) old at new r
cell_appended m o leaves cell front after old one two new at begin end r made front_is after_is plain room first
    second none third =
    subst (λ x. TriesToAppend (in_cell cell x) old at new r) (by_leaves m o leaves made)
    (cell_by (written_all m (trees (map leaf_tree leaves))) cell front after old one two new at begin end r front_is
    after_is plain room first second none third)

-- What is in front stays, if the text isn't written or needs quotes.

pub front_within : (front old one : Text) (at begin : ℕ) → at ≤ length old
    → TriesToAppend (Ok front) old at one (Some begin) → begin ≤ length one
front_within front old one at begin room first = end_inside front old one at begin room first

pub kept_before_text : (front old one new : Text) (at begin : ℕ) → at ≤ length old
    → TriesToAppend (Ok front) old at one (Some begin) → IsKept one begin new → IsKept old at new
kept_before_text front old one new at begin room first same = kept_after front old one new at begin room first same

pub kept_before_quotes : (x : Result Text Unshown) (front old one two : Text) (at begin end : ℕ) → at ≤ length old
    → TriesToAppend (Ok front) old at one (Some begin) → TriesToAppend x one begin two (Some end) → IsKept old at two
kept_before_quotes (Ok text) front old one two at begin end room first second =
    kept_after front old one two at begin room first
    (kept_after text one two two begin end (end_inside front old one at begin room first) second (kept two end))
kept_before_quotes (Err u) front old one two at begin end room first second = absurd second

-- A record that is appended.

appended_text : (x : Result Text Unshown) (old new : Text) (at end : ℕ) → TriesToAppend x old at new (Some end)
    → (shown : Text) × (x ≡ Ok shown) × IsAppended shown old at new end
appended_text (Ok text) old new at end put = (text, refl, put)
appended_text (Err u) old new at end put = absurd put

pub record_appended : (source : MomentSource) (o : BorrowedOutput) (n : ℕ) (row old new : Text) (at : ℕ) (cell : Cell)
    (m : Moment) (r : Option ℕ) → IsCell n row cell → All (λ b. b ≢ 34) cell.field.now
    → (length cell.field.now == 0) ≡ false → IsMomentIn source o cell.field.now (Ok m)
    → TriesToAppend (in_cell cell (written_of m o)) old at new r
    → TriesToAppendRecord source o n row old at new r
record_appended source o n row old new at cell m None is plain some moment put = put
record_appended source o n row old new at cell m (Some end) is plain some moment put =
    let h = appended_text (in_cell cell (written_of m o)) old new at end put in (
      h.0,
      (
        cell,
        m,
        is,
        λ none. absurd (let z = rw none at some in cc),
        subst (λ t. IsMomentIn source o t (Ok m)) (sym (text_plain cell.field.now plain)) moment,
        h.1,
      ),
      h.2,
    )

-- A batch that grows.

pub empty_batch : (source : MomentSource) (o : BorrowedOutput) (n : ℕ) (text room : Text)
    → IsRecordBatch source o n text room no_batch
empty_batch source o n text room = ((refl, refl), omega arith, omega arith, omega arith)

pub same_batch : (source : MomentSource) (o : BorrowedOutput) (n : ℕ) (text old new : Text) (batch : Batch)
    → IsRecordBatch source o n text old batch → IsKept old batch.written new → IsRecordBatch source o n text new batch
same_batch source o n text old new batch is same = (
  subst (λ w. AreRecordsShown source o n batch.line_count (take batch.read text) w) (sym same.front) is.0,
  is.1,
  is.2,
  omega (arith, is.3, same.same),
)

pub one_more : (source : MomentSource) (o : BorrowedOutput) (n : ℕ) (text rest row old new : Text) (batch : Batch)
    (len end : ℕ) → IsRecordBatch source o n text old batch → rest ≡ drop batch.read text → len ≤ length rest
    → IsPlainRecord (take len rest) → row ≡ take len rest
    → TriesToAppendRecord source o n row old batch.written new (Some end)
    → IsRecordBatch source o n text new
    (record { line_count = batch.line_count + 1; read = batch.read + len; written = end })
one_more source o n text rest row old new batch len end is is_rest within plain is_row put =
    let some : 1 ≤ len =
    omega (arith, length-take len rest, ap length plain.2, length-append plain.0 (10 ∷ [])) in
    let next : suc batch.line_count ≡ batch.line_count + 1 = omega arith in
    let records : AreRecordsShown source o n (suc batch.line_count) (take (batch.read + len) text) (take end new) = (
      take batch.read text,
      take len rest,
      take batch.written old,
      put.0,
      is.0,
      plain,
      subst (λ r. IsRecordShownAs source o n r put.0) is_row put.1,
      read_more text rest batch.read len is.2 is_rest,
      put.2.front,
    ) in (
      subst (λ k. AreRecordsShown source o n k (take (batch.read + len) text) (take end new)) next records,
      omega (arith, is.1, some),
      omega (arith, is.2, within, ap length is_rest, length-drop batch.read text),
      end_inside put.0 old new batch.written end is.3 put.2,
    )
