-- A record, read line after line.
use Rattle.std.proofs.Common.{ℕ, ◌≡◌, ◌≢◌, ◌<◌, ◌≤◌, ◌++◌, cond, Bool, true, false, ◌&&◌, not, ◌==◌, List, [], ◌∷◌, length, take, drop, ◌-◌, Option, Some, None, IfSome, refl, sym, ap, subst, ◌∙◌, arith, append-nil, length-append, if◌then◌else◌}
use Rattle.std.specs.Prelude.{⊤}
use Rattle.std.proofs.lemmas.Bool.Decides.{nat_tests}
use Rattle.std.proofs.lemmas.List.{append_assoc}
use Rattle.std.proofs.Math.Seq.{drop-append_seam}
use Rattle.std.specs.Io.BufRead.{drop_through, take_through}
use Rattle.std.specs.Io.KnownBytes.{IsAtEnd}
use Rattle.timefd_lang_component.specs.Tree.{Text}
use Rattle.timefd_lint_rewrite.specs.Lines.{IsNextLine}
use Rattle.timefd_format.specs.declared.lines.LineRead.{LineRead}
use Rattle.timefd_format.specs.declared.lines.LineRead.TheVariants as lines
use Rattle.timefd_format.specs.declared.quoting.FieldQuoting.{FieldQuoting}
use Rattle.timefd_format.specs.declared.quoting.FieldQuoting.TheVariants.{Start, Bare, Inside, Closed}
use Rattle.timefd_format.specs.declared.records.RecordRead.{RecordRead}
use Rattle.timefd_format.specs.declared.records.RecordRead.TheVariants as reads
use Rattle.timefd_format.specs.Failures.{IsSourceAfterLine, IsSourceAfterRecord}
use Rattle.timefd_format.specs.Fields.{after, after_all, is_inside}
use Rattle.timefd_format.specs.Records.{IsNextRecord, IsRecordRead, at_end, ends_record, is_open, left_from, record_from}
use Rattle.timefd_format.specs.Written.{IsReadMore}
use Rattle.timefd_format.proofs.FieldLemmas.{slice_to_end}

after_more : (q : FieldQuoting) (xs ys : Text) → after_all q (xs ++ ys) ≡ after_all (after_all q xs) ys
after_more q [] ys = refl
after_more q (x ∷ xs) ys = after_more (after q x) xs ys

-- A line that leaves no quotes open ends the record.
abbrev pub EndsBy : FieldQuoting → Text → Type 0
EndsBy q ys = (record_from q ys ≡ take_through 10 ys) × (left_from q ys ≡ drop_through 10 ys)

-- A line that leaves quotes open does not.
abbrev pub GoesOn : FieldQuoting → Text → Type 0
GoesOn q ys =
    (record_from q ys ≡ take_through 10 ys ++ record_from (after_all q (take_through 10 ys)) (drop_through 10 ys))
    × (left_from q ys ≡ left_from (after_all q (take_through 10 ys)) (drop_through 10 ys))

shut_at_newline : (q : FieldQuoting) → is_inside (after q 10) ≡ false → is_inside q ≡ false
shut_at_newline Start is = refl
shut_at_newline Bare is = refl
shut_at_newline Inside is = is
shut_at_newline Closed is = refl

open_at_newline : (q : FieldQuoting) → is_inside (after q 10) ≡ true → (is_inside q ≡ true) × (after q 10 ≡ q)
open_at_newline Start is = absurd cc
open_at_newline Bare is = absurd cc
open_at_newline Inside is = (refl, refl)
open_at_newline Closed is = absurd cc

ten : (y : ℕ) → (y == 10) ≡ true → y ≡ 10
ten y is = grind (arith, nat_tests)

not_ending : (q : FieldQuoting) (y : ℕ) → (y == 10) ≡ false → ends_record q y ≡ false
not_ending q y is = rw is refl

ending : (q : FieldQuoting) → is_inside q ≡ false → ends_record q 10 ≡ true
ending q is = rw is refl

inside_goes_on : (q : FieldQuoting) → is_inside q ≡ true → ends_record q 10 ≡ false
inside_goes_on q is = rw is refl

record_at_newline : (q : FieldQuoting) (ys : Text) → is_inside q ≡ false → EndsBy q (10 ∷ ys)
record_at_newline q ys is =
    (rw (ending q is) refl, rw (ending q is) refl)

record_over_newline : (q : FieldQuoting) (ys : Text) → is_inside q ≡ true → after q 10 ≡ q → GoesOn q (10 ∷ ys)
record_over_newline q ys is same =
    (rw (inside_goes_on q is) refl, rw (inside_goes_on q is) refl)

through_more : (y : ℕ) (ys : Text) → (y == 10) ≡ false → take_through 10 (y ∷ ys) ≡ y ∷ take_through 10 ys
through_more y ys is = rw is refl

drop_more : (y : ℕ) (ys : Text) → (y == 10) ≡ false → drop_through 10 (y ∷ ys) ≡ drop_through 10 ys
drop_more y ys is = rw is refl

record_more : (q : FieldQuoting) (y : ℕ) (ys : Text) → (y == 10) ≡ false
    → record_from q (y ∷ ys) ≡ y ∷ record_from (after q y) ys
record_more q y ys is = rw (not_ending q y is) refl

left_more : (q : FieldQuoting) (y : ℕ) (ys : Text) → (y == 10) ≡ false
    → left_from q (y ∷ ys) ≡ left_from (after q y) ys
left_more q y ys is = rw (not_ending q y is) refl

ends_by : (q : FieldQuoting) (y : ℕ) (ys : Text) (b : Bool) → (y == 10) ≡ b
    → is_inside (after_all q (take_through 10 (y ∷ ys))) ≡ false
    → (is_inside (after_all (after q y) (take_through 10 ys)) ≡ false → EndsBy (after q y) ys)
    → EndsBy q (y ∷ ys)
ends_by q y ys true is shut more =
    subst (λ c. is_inside (after_all q (take_through 10 (c ∷ ys))) ≡ false → EndsBy q (c ∷ ys))
    (sym (ten y is)) (λ s. record_at_newline q ys (shut_at_newline q s)) shut
ends_by q y ys false is shut more =
    let rest : EndsBy (after q y) ys =
    more (ap (λ l. is_inside (after_all q l)) (sym (through_more y ys is)) ∙ shut) in (
      record_more q y ys is ∙ ap (λ r. y ∷ r) rest.0 ∙ sym (through_more y ys is),
      left_more q y ys is ∙ rest.1 ∙ sym (drop_more y ys is),
    )

ends : (q : FieldQuoting) (ys : Text) → is_inside (after_all q (take_through 10 ys)) ≡ false → EndsBy q ys
ends q [] shut = (refl, refl)
ends q (y ∷ ys) shut = ends_by q y ys (y == 10) refl shut (ends (after q y) ys)

goes_by : (q : FieldQuoting) (y : ℕ) (ys : Text) (b : Bool) → (y == 10) ≡ b
    → is_inside (after_all q (take_through 10 (y ∷ ys))) ≡ true
    → (is_inside (after_all (after q y) (take_through 10 ys)) ≡ true → GoesOn (after q y) ys)
    → GoesOn q (y ∷ ys)
goes_by q y ys true is wide more =
    subst (λ c. is_inside (after_all q (take_through 10 (c ∷ ys))) ≡ true → GoesOn q (c ∷ ys))
    (sym (ten y is))
    (λ s. let at = open_at_newline q s in record_over_newline q ys at.0 at.1) wide
goes_by q y ys false is wide more =
    let rest : GoesOn (after q y) ys =
    more (ap (λ l. is_inside (after_all q l)) (sym (through_more y ys is)) ∙ wide) in (
      record_more q y ys is ∙ ap (λ r. y ∷ r) rest.0
          ∙ ap (λ l. l ++ record_from (after_all q l) (drop_through 10 ys)) (sym (through_more y ys is))
          ∙ ap (λ d. take_through 10 (y ∷ ys) ++ record_from (after_all q (take_through 10 (y ∷ ys))) d)
          (sym (drop_more y ys is)),
      left_more q y ys is ∙ rest.1
          ∙ ap (λ l. left_from (after_all q l) (drop_through 10 ys)) (sym (through_more y ys is))
          ∙ ap (λ d. left_from (after_all q (take_through 10 (y ∷ ys))) d) (sym (drop_more y ys is)),
    )

goes : (q : FieldQuoting) (ys : Text) → is_inside (after_all q (take_through 10 ys)) ≡ true → GoesOn q ys
goes q [] wide = (refl, refl)
goes q (y ∷ ys) wide = goes_by q y ys (y == 10) refl wide (goes (after q y) ys)

-- What is read of a record so far.
abbrev pub IsKnown : Option Text → Option Text → Text → FieldQuoting → Type 0
IsKnown None left row q = ⊤
IsKnown (Some xs) None row q = ⊥
IsKnown (Some xs) (Some ys) row q = (record_from Start xs ≡ row ++ record_from q ys)
    × (left_from Start xs ≡ left_from q ys)

pub IsSoFar : Option Text → Option Text → Text → FieldQuoting → Type 0
IsSoFar old left row q = (q ≡ after_all Start row) × IsKnown old left row q

pub known_so_far : (old left : Option Text) (row : Text) (q : FieldQuoting) → IsSoFar old left row q → IsKnown old left row q
unfolding IsSoFar
known_so_far old left row q so_far = so_far.1

pub starts : (old : Option Text) → IsSoFar old old [] Start
unfolding IsSoFar
starts None = (refl, tt)
starts (Some xs) = (refl, (refl, refl))

longer_is : (row line longer : Text) (q next : FieldQuoting) → q ≡ after_all Start row
    → longer ≡ row ++ line → next ≡ after_all q line → next ≡ after_all Start longer
longer_is row line longer q next so_far is next_is =
    next_is ∙ ap (λ s. after_all s line) so_far ∙ sym (after_more Start row line)
    ∙ ap (after_all Start) (sym is)

known_more : (old left new : Option Text) (row line longer : Text) (q next : FieldQuoting)
    → IsKnown old left row q → longer ≡ row ++ line → IsNextLine left line new
    → next ≡ after_all q line → is_inside next ≡ true → IsKnown old new longer next
known_more None left new row line longer q next so_far is read next_is wide = tt
known_more (Some xs) None new row line longer q next so_far is read next_is wide = absurd so_far
known_more (Some xs) (Some ys) new row line longer q next so_far is read next_is wide =
    let at : next ≡ after_all q (take_through 10 ys) = next_is ∙ ap (after_all q) read.1 in
    let on : GoesOn q ys = goes q ys (ap is_inside (sym at) ∙ wide) in
    subst (λ n. IsKnown (Some xs) n longer next) (sym read.2)
    (subst (λ s. (record_from Start xs ≡ longer ++ record_from s (drop_through 10 ys))
    × (left_from Start xs ≡ left_from s (drop_through 10 ys))) (sym at) (
      so_far.0 ∙ ap (λ r. row ++ r) on.0
          ∙ sym (append_assoc row (take_through 10 ys)
          (record_from (after_all q (take_through 10 ys)) (drop_through 10 ys)))
          ∙ ap (λ l. l ++ record_from (after_all q (take_through 10 ys)) (drop_through 10 ys))
          (ap (λ l. row ++ l) (sym read.1) ∙ sym is),
      so_far.1 ∙ on.1,
    ))

-- One more line, after which quotes are open.
pub goes_on : (old left new : Option Text) (row line longer : Text) (q next : FieldQuoting)
    → IsSoFar old left row q → longer ≡ row ++ line → IsNextLine left line new
    → next ≡ after_all q line → is_inside next ≡ true → IsSoFar old new longer next
unfolding IsSoFar
goes_on old left new row line longer q next so_far is read next_is wide = (
  longer_is row line longer q next so_far.0 is next_is,
  known_more old left new row line longer q next so_far.1 is read next_is wide,
)

no_line : (row line : Text) → row ++ line ≡ [] → line ≡ []
no_line [] line none = none
no_line (b ∷ bs) line none = absurd cc

record_done : (old left new : Option Text) (row line longer : Text) (q next : FieldQuoting)
    → IsKnown old left row q → longer ≡ row ++ line → IsNextLine left line new
    → next ≡ after_all q line → is_inside next ≡ false → IsNextRecord old longer new
record_done None left new row line longer q next so_far is read next_is shut = tt
record_done (Some xs) None new row line longer q next so_far is read next_is shut = absurd so_far
record_done (Some xs) (Some ys) new row line longer q next so_far is read next_is shut =
    let at : next ≡ after_all q (take_through 10 ys) = next_is ∙ ap (after_all q) read.1 in
    let by : EndsBy q ys = ends q ys (ap is_inside (sym at) ∙ shut) in
    let whole : longer ≡ record_from Start xs =
    is ∙ ap (λ l. row ++ l) (read.1 ∙ sym by.0) ∙ sym so_far.0 in (
      λ none. read.0 (no_line row line (sym is ∙ none)),
      whole,
      read.2 ∙ ap Some (sym by.1 ∙ sym so_far.1),
    )

-- One more line, after which no quotes are open.
pub is_done : (old left new : Option Text) (row line longer : Text) (q next : FieldQuoting)
    → IsSoFar old left row q → longer ≡ row ++ line → IsNextLine left line new
    → next ≡ after_all q line → is_inside next ≡ false
    → IsNextRecord old longer new × (is_open longer ≡ false)
unfolding IsSoFar
is_done old left new row line longer q next so_far is read next_is shut = (
  record_done old left new row line longer q next so_far.1 is read next_is shut,
  ap is_inside (sym (longer_is row line longer q next so_far.0 is next_is)) ∙ shut,
)

some_record : (x : ℕ) (xs : Text) (is : Bool)
    → (if is then x ∷ [] else x ∷ record_from (after Start x) xs) ≡ [] → ⊥
some_record x xs true none = absurd cc
some_record x xs false none = absurd cc

no_record : (xs : Text) → record_from Start xs ≡ [] → xs ≡ []
no_record [] none = refl
no_record (x ∷ xs) none = absurd (some_record x xs (ends_record Start x) none)

nothing_left : (old left : Option Text) (q : FieldQuoting) → IsSoFar old left [] q → IsAtEnd left → IsAtEnd old
unfolding IsSoFar
nothing_left None left q so_far end = tt
nothing_left (Some xs) None q so_far end = absurd so_far.1
nothing_left (Some xs) (Some ys) q so_far end =
    no_record xs (so_far.1.0 ∙ ap (record_from q) end)

whole_is : (old left new : Option Text) (b : ℕ) (bs : Text) (q : FieldQuoting) → IsKnown old left (b ∷ bs) q
    → IsAtEnd left → IfSome left (λ xs. new ≡ Some []) → IsNextRecord old (b ∷ bs) new
whole_is None left new b bs q known end none = tt
whole_is (Some xs) None new b bs q known end none = absurd known
whole_is (Some xs) (Some ys) new b bs q known end none = (
  λ empty. absurd cc,
  sym (known.0 ∙ ap (λ y. (b ∷ bs) ++ record_from q y) end ∙ append-nil (b ∷ bs)),
  none ∙ ap Some (sym (known.1 ∙ ap (left_from q) end)),
)

some_left : (old left new : Option Text) (b : ℕ) (bs : Text) (q : FieldQuoting) (is : Bool) → is_inside q ≡ is
    → IsSoFar old left (b ∷ bs) q → IsAtEnd left → IfSome left (λ xs. new ≡ Some [])
    → IsRecordRead old new (b ∷ bs) (at_end (b ∷ bs) q)
unfolding IsSoFar
some_left old left new b bs q true is so_far end none =
    rw is (whole_is old left new b bs q so_far.1 end none, ap is_inside (sym so_far.0) ∙ is)
some_left old left new b bs q false is so_far end none =
    rw is (whole_is old left new b bs q so_far.1 end none, ap is_inside (sym so_far.0) ∙ is)

-- No line is left.
pub ended : (old left new : Option Text) (row : Text) (q : FieldQuoting) → IsSoFar old left row q
    → IsAtEnd left → IfSome left (λ xs. new ≡ Some []) → IsRecordRead old new row (at_end row q)
ended old left new [] q so_far end none = nothing_left old left q so_far end
ended old left new (b ∷ bs) q so_far end none =
    some_left old left new b bs q (is_inside q) refl so_far end none

piece_is : (row line longer piece : Text) → longer ≡ row ++ line → piece ≡ drop (length row) longer
    → piece ≡ line
piece_is row line longer piece is cut =
    cut ∙ ap (drop (length row)) is ∙ drop-append_seam row line

-- One more line, after which quotes are open.
pub line_more : (old left new : Option Text) (row longer piece : Text) (q next : FieldQuoting) (r : LineRead)
    → IsSoFar old left row q → IsReadMore left new row longer r → r ≡ lines.Line
    → piece ≡ drop (length row) longer → next ≡ after_all q piece → is_inside next ≡ true
    → IsSoFar old new longer next
line_more old left new row longer piece q next r so_far read is cut next_is wide =
    let at : IsReadMore left new row longer lines.Line = subst (IsReadMore left new row longer) is read in
    goes_on old left new row at.0 longer q next so_far at.1 at.2
    (next_is ∙ ap (after_all q) (piece_is row at.0 longer piece at.1 cut)) wide

-- One more line, after which no quotes are open.
pub row_done : (old left new : Option Text) (row longer piece : Text) (q next : FieldQuoting) (r : LineRead)
    (count : ℕ) → IsSoFar old left row q → IsReadMore left new row longer r → r ≡ lines.Line
    → piece ≡ drop (length row) longer → next ≡ after_all q piece → is_inside next ≡ false
    → IsRecordRead old new longer (reads.Record count)
row_done old left new row longer piece q next r count so_far read is cut next_is shut =
    let at : IsReadMore left new row longer lines.Line = subst (IsReadMore left new row longer) is read in
    is_done old left new row at.0 longer q next so_far at.1 at.2
    (next_is ∙ ap (after_all q) (piece_is row at.0 longer piece at.1 cut)) shut

-- No more line.
pub row_ended : (old left new : Option Text) (row longer : Text) (q : FieldQuoting) (r : LineRead)
    (answer : RecordRead) → IsSoFar old left row q → IsReadMore left new row longer r → r ≡ lines.End
    → answer ≡ at_end longer q → IsRecordRead old new longer answer
row_ended old left new row longer q r answer so_far read is answer_is =
    let at : IsReadMore left new row longer lines.End = subst (IsReadMore left new row longer) is read in
    subst (IsRecordRead old new longer) (sym answer_is)
    (subst (λ t. IsRecordRead old new t (at_end t q)) (sym at.1) (ended old left new row q so_far at.0 at.2))

-- The source after a record, and after one more line of it.

pub line_counted : (old left new : ℕ) (failed : Bool) (r : LineRead) → left ≤ old
    → IsSourceAfterLine left new failed r → r ≡ lines.Line → new < old
line_counted old left new failed r few read is =
    let fewer : new < left = subst (IsSourceAfterLine left new failed) is read in omega (arith, few, fewer)

pub line_allowed : (old left new : ℕ) (failed : Bool) (r : LineRead) → left ≤ old
    → IsSourceAfterLine left new failed r → r ≡ lines.Line → new ≤ old
line_allowed old left new failed r few read is = omega (arith, line_counted old left new failed r few read is)

last_counted : (old new : ℕ) (failed is_open : Bool) → new < old
    → IsSourceAfterRecord old new failed (cond is_open reads.Open (reads.Record 1))
last_counted old new failed true fewer = fewer
last_counted old new failed false fewer = fewer

counted_at_end : (old new : ℕ) (failed : Bool) (row : Text) (q : FieldQuoting) → new < old
    → IsSourceAfterRecord old new failed (at_end row q)
counted_at_end old new failed [] q fewer = tt
counted_at_end old new failed (b ∷ bs) q fewer = last_counted old new failed (is_inside q) fewer

pub end_counted : (old left new : ℕ) (failed : Bool) (row : Text) (q : FieldQuoting) (r : LineRead)
    (answer : RecordRead) → left ≤ old → IsSourceAfterLine left new failed r → r ≡ lines.End
    → answer ≡ at_end row q → IsSourceAfterRecord old new failed answer
end_counted old left new failed row q r answer few read is answer_is =
    let fewer : new < left = subst (IsSourceAfterLine left new failed) is read in
    subst (IsSourceAfterRecord old new failed) (sym answer_is)
    (counted_at_end old new failed row q (omega (arith, few, fewer)))

-- The bytes after those that were there before.
pub piece_of : (row longer d : Text) (from : ℕ) → d ≡ longer → from ≡ length row
    → take (length d - from) (drop from d) ≡ drop (length row) longer
piece_of row longer d from is len =
    slice_to_end d from ∙ ap (λ k. drop k d) len ∙ ap (drop (length row)) is
