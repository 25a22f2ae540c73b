-- How many lines a record has.
use Rattle.std.proofs.Common.{ℕ, suc, ◌≡◌, ◌∙◌, ◌++◌, ◌+◌, ◌==◌, ◌⊎◌, inl, inr, cond, Bool, true, false, List, [], ◌∷◌, Option, Some, None, refl, sym, ap, subst, arith}
use Rattle.std.specs.Prelude.{All, ◌≢◌}
use Rattle.std.proofs.lemmas.Bool.Decides.{nat_tests}
use Rattle.std.proofs.lemmas.List.Elements.{All-head, All-tail}
use Rattle.std.specs.Io.BufRead.{drop_through, take_through}
use Rattle.std.specs.Io.Iter.{u64_saturate}
use Rattle.timefd_lang_component.specs.Tree.{Text}
use Rattle.timefd_lint_rewrite.specs.Lines.{IsNextLine}
use Rattle.timefd_format.specs.declared.lines.LineRead.{LineRead}
use Rattle.timefd_format.specs.declared.lines.LineRead.TheVariants as lines
use Rattle.timefd_format.specs.declared.quoting.FieldQuoting.{FieldQuoting}
use Rattle.timefd_format.specs.declared.records.RecordRead.{RecordRead}
use Rattle.timefd_format.specs.declared.records.RecordRead.TheVariants as reads
use Rattle.timefd_format.specs.Fields.{is_inside}
use Rattle.timefd_format.specs.RecordBatches.{IsPlainRecord}
use Rattle.timefd_format.specs.Records.{at_end}
use Rattle.timefd_format.specs.TableReports.{AreLinesIn, AreLinesOfRecord, CountsLines, newlines}
use Rattle.timefd_format.specs.Written.{IsReadMore}
use Rattle.timefd_format.proofs.PlainRecordLemmas.{IsInner}
use Rattle.timefd_format.proofs.RecordLemmas.{IsSoFar, known_so_far}

with_byte : (b : ℕ) (xs ys : Text) (is : Bool) → newlines (xs ++ ys) ≡ newlines xs + newlines ys
    → cond is (suc (newlines (xs ++ ys))) (newlines (xs ++ ys))
    ≡ cond is (suc (newlines xs)) (newlines xs) + newlines ys
with_byte b xs ys true more = omega (arith, more)
with_byte b xs ys false more = more

pub newlines-append : (xs ys : Text) → newlines (xs ++ ys) ≡ newlines xs + newlines ys
newlines-append [] ys = omega arith
newlines-append (b ∷ xs) ys = with_byte b xs ys (b == 10) (newlines-append xs ys)

-- A line has a newline, or nothing follows it.
through_by : (y : ℕ) (ys : Text) (is : Bool) → (y == 10) ≡ is
    → (newlines (take_through 10 ys) ≡ 1) ⊎ (drop_through 10 ys ≡ [])
    → (newlines (take_through 10 (y ∷ ys)) ≡ 1) ⊎ (drop_through 10 (y ∷ ys) ≡ [])
through_by y ys true is more = inl (rw is (rw is refl))
through_by y ys false is (inl one) = inl (rw is (rw is one))
through_by y ys false is (inr none) = inr (rw is none)

newline_or_end : (ys : Text) → (newlines (take_through 10 ys) ≡ 1) ⊎ (drop_through 10 ys ≡ [])
newline_or_end [] = inr refl
newline_or_end (y ∷ ys) = through_by y ys (y == 10) refl (newline_or_end ys)

pub none_counted : (old : Option Text) → AreLinesOfRecord old [] old 0
none_counted None = tt
none_counted (Some bytes) = inl refl

counted_by : (row line longer ys : Text) (new : Option Text) (count more : ℕ)
    → count ≡ u64_saturate (newlines row) → more ≡ u64_saturate (count + 1) → longer ≡ row ++ line
    → line ≡ take_through 10 ys → new ≡ Some (drop_through 10 ys)
    → (newlines (take_through 10 ys) ≡ 1) ⊎ (drop_through 10 ys ≡ []) → AreLinesIn longer new more
counted_by row line longer ys new count more counted one_more is read left (inl one) =
    let all : newlines longer ≡ newlines row + newlines line = ap newlines is ∙ newlines-append row line in
    let last : newlines line ≡ 1 = ap newlines read ∙ one in
    inl (omega (arith, counted, one_more, all, last))
counted_by row line longer ys new count more counted one_more is read left (inr none) =
    inr (left ∙ ap Some none)

no_line_of : (line : Text) (left : Option Text) (ys : Text) → line ≢ [] → line ≡ take_through 10 ys → left ≡ Some ys
    → left ≡ Some [] → ⊥
no_line_of line left [] some read is none = some read
no_line_of line left (y ∷ ys) some read is none = absurd cc

after_line : (row line longer ys : Text) (new : Option Text) (count more : ℕ)
    → AreLinesIn row (Some ys) count → more ≡ u64_saturate (count + 1) → longer ≡ row ++ line
    → IsNextLine (Some ys) line new → AreLinesIn longer new more
after_line row line longer ys new count more (inl counted) one_more is read =
    counted_by row line longer ys new count more counted one_more is read.1 read.2 (newline_or_end ys)
after_line row line longer ys new count more (inr none) one_more is read =
    absurd (no_line_of line (Some ys) ys read.0 read.1 refl none)

-- One more line of a record is counted.
pub row_counted : (old left new : Option Text) (row longer : Text) (q : FieldQuoting) (count more : ℕ) (r : LineRead)
    → IsSoFar old left row q → AreLinesOfRecord old row left count → IsReadMore left new row longer r
    → r ≡ lines.Line → more ≡ u64_saturate (count + 1) → AreLinesOfRecord old longer new more
row_counted None left new row longer q count more r so_far counted read is one_more = tt
row_counted (Some bytes) None new row longer q count more r so_far counted read is one_more = absurd (known_so_far (Some bytes) None row q so_far)
row_counted (Some bytes) (Some ys) new row longer q count more r so_far counted read is one_more =
    let at : IsReadMore (Some ys) new row longer lines.Line = subst (IsReadMore (Some ys) new row longer) is read in
    after_line row at.0 longer ys new count more counted one_more at.1 at.2

last_by : (old new : Option Text) (row : Text) (is_open : Bool) → AreLinesOfRecord old row new 1
    → CountsLines old row new (cond is_open reads.Open (reads.Record 1))
last_by old new row true counted = counted
last_by old new row false counted = counted

ended : (old new : Option Text) (row : Text) (q : FieldQuoting) → AreLinesOfRecord old row new 1
    → CountsLines old row new (at_end row q)
ended old new [] q counted = tt
ended old new (b ∷ bs) q counted = last_by old new (b ∷ bs) (is_inside q) counted

-- What ends the input has no line after it.
pub rest_counted : (old left new : Option Text) (row longer : Text) (q : FieldQuoting) (r : LineRead) (answer : RecordRead)
    → IsSoFar old left row q → IsReadMore left new row longer r → r ≡ lines.End → answer ≡ at_end longer q
    → CountsLines old longer new answer
rest_counted None left new row longer q r answer so_far read is answer_is =
    subst (CountsLines None longer new) (sym answer_is) (ended None new longer q tt)
rest_counted (Some bytes) None new row longer q r answer so_far read is answer_is = absurd (known_so_far (Some bytes) None row q so_far)
rest_counted (Some bytes) (Some ys) new row longer q r answer so_far read is answer_is =
    let at : IsReadMore (Some ys) new row longer lines.End = subst (IsReadMore (Some ys) new row longer) is read in
    subst (CountsLines (Some bytes) longer new) (sym answer_is) (ended (Some bytes) new longer q (inr at.2))

-- A record without quotes has one newline.

no_newline : (b : ℕ) (bs : Text) → b ≢ 10 → newlines (b ∷ bs) ≡ newlines bs
no_newline b bs other = let e : (b == 10) ≡ false = grind (arith, nat_tests, other) in rw e refl

none_inside : (text : Text) → All IsInner text → newlines text ≡ 0
none_inside [] plain = refl
none_inside (b ∷ bs) plain =
    no_newline b bs (All-head IsInner b bs plain).0 ∙ none_inside bs (All-tail IsInner b bs plain)

pub one_line : (row : Text) → IsPlainRecord row → newlines row ≡ 1
one_line row plain =
    let ended : newlines row ≡ newlines plain.0 + newlines (10 ∷ []) =
    ap newlines plain.2 ∙ newlines-append plain.0 (10 ∷ []) in
    ended ∙ ap (λ n. n + newlines (10 ∷ [])) (none_inside plain.0 plain.1)
