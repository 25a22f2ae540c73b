-- One more word, and one more line.
use Rattle.std.proofs.Common.{ℕ, ◌≡◌, ◌-◌, ◌<◌, ◌≤◌, take, drop, get_or, Bool, true, false, ◌||◌, List, [], ◌∷◌, length, Option, Some, None, refl, sym, ap, subst, ◌∙◌, arith}
use Rattle.std.proofs.Math.Seq.{take-length}
use Rattle.std.specs.Io.KnownBytes.{IsAtEnd}
use denote.Ref.{Bor}
use Rattle.timefd_lang_component.specs.Tree.{Text}
use Rattle.timefd_lint_diagnosis.specs.Words.{texts}
use Rattle.timefd_parse.specs.declared.parsing.BorrowedOutput.{BorrowedOutput}
use Rattle.timefd_lint_rewrite.specs.Lines.{AreLinesOf, IsNextLine, without_newline}
use Rattle.timefd_format.specs.declared.frame.LineFrame.TheVariants as frames
use Rattle.timefd_format.specs.declared.otherwise.Otherwise.{Otherwise}
use Rattle.timefd_format.specs.declared.outcome.WordOutcome.{WordOutcome}
use Rattle.timefd_format.specs.declared.outcome.WordTally.{WordTally}
use Rattle.timefd_format.specs.declared.source.MomentSource.{MomentSource}
use Rattle.timefd_format.specs.Tallies.{at_end, tally_of, both}
use Rattle.timefd_format.specs.declared.column.Column.{Column}
use Rattle.timefd_format.specs.declared.description.DescriptionReading.{DescriptionReading}
use Rattle.timefd_format.specs.declared.description.DescriptionReading.TheVariants as readings
use Rattle.timefd_format.specs.declared.end.RunOutcome.TheVariants as ends
use Rattle.timefd_format.specs.declared.language.Languages.{Languages}
use Rattle.timefd_format.specs.declared.warned.Warned.{Warned}
use Rattle.timefd_format.specs.declared.lines.LineRead.{LineRead}
use Rattle.timefd_format.specs.declared.lines.LineRead.TheVariants.{Line, End}
use Rattle.timefd_format.specs.Descriptions.{IsReading}
use Rattle.timefd_format.specs.Runs.{IsRunFrom, IsRunOf}
use Rattle.timefd_format.specs.Warned.{warned_by}
use Rattle.timefd_format.specs.Written.{IsOne, IsRead, Runs, RunsOn, RunsOver}

or_false : (b : Bool) → (b || false) ≡ b
or_false true = refl
or_false false = refl

or_true : (b : Bool) → (b || true) ≡ true
or_true true = refl
or_true false = refl

or_assoc : (a b c : Bool) → ((a || b) || c) ≡ (a || (b || c))
or_assoc true b c = refl
or_assoc false b c = refl

made : Bool → Bool → Bool → WordTally
made refused text failed = record { is_refused = refused; not_text = text; has_failed = failed }

tally_is : (a b : WordTally) → a.is_refused ≡ b.is_refused → a.not_text ≡ b.not_text
    → a.has_failed ≡ b.has_failed → a ≡ b
unfolding made
tally_is a b refused text failed =
    ap (λ x. made x a.not_text a.has_failed) refused
    ∙ (ap (λ x. made b.is_refused x a.has_failed) text
    ∙ ap (λ x. made b.is_refused b.not_text x) failed)

pub none_more : (t : WordTally) → both t (at_end false) ≡ t
none_more t =
    tally_is (both t (at_end false)) t (or_false t.is_refused) (or_false t.not_text) (or_false t.has_failed)

pub both_assoc : (a b c : WordTally) → both (both a b) c ≡ both a (both b c)
both_assoc a b c =
    tally_is (both (both a b) c) (both a (both b c))
    (or_assoc a.is_refused b.is_refused c.is_refused) (or_assoc a.not_text b.not_text c.not_text)
    (or_assoc a.has_failed b.has_failed c.has_failed)

-- No read failed in either part.
pub both_read : (a b sum : WordTally) → sum ≡ both a b → a.has_failed ≡ false → b.has_failed ≡ false
    → sum.has_failed ≡ false
both_read a b sum is first second =
    ap (λ t. t.has_failed) is ∙ (ap (λ f. f || b.has_failed) first ∙ second)

-- A read failed in the second part.
pub failed_after : (a failing sum : WordTally) → failing ≡ at_end true → sum ≡ both a failing → sum.has_failed ≡ true
failed_after a failing sum failing_is is =
    ap (λ t. t.has_failed) is ∙ (ap (λ t. a.has_failed || t.has_failed) failing_is ∙ or_true a.has_failed)

-- Running the rest after what is done runs all.
abbrev pub Completes : Otherwise → MomentSource → BorrowedOutput → List Text → List Text → Option Text
    → Option Text → WordTally → Type 0
Completes otherwise source o words rest before between tally = (after : Option Text) (more : WordTally)
    → Runs false otherwise source o rest between after more
    → Runs false otherwise source o words before after (both tally more)

pub starts : (otherwise : Otherwise) (source : MomentSource) (o : BorrowedOutput) (words : List Text) (before : Option Text)
    (tally : WordTally) → tally ≡ at_end false → Completes otherwise source o words words before before tally
starts otherwise source o words before tally none after more runs =
    subst (λ t. Runs false otherwise source o words before after (both t more)) (sym none) runs

pub goes_on : (otherwise : Otherwise) (source : MomentSource) (o : BorrowedOutput) (words rest after : List Text)
    (word : Text) (before between next : Option Text) (tally one sum : WordTally) (outcome : WordOutcome)
    → rest ≡ word ∷ after → Completes otherwise source o words rest before between tally
    → IsOne otherwise source o frames.Line word between next outcome → one ≡ tally_of outcome → sum ≡ both tally one
    → Completes otherwise source o words after before next sum
goes_on otherwise source o words rest after word before between next tally one sum outcome split so_far is
    is_one is_sum end more runs =
    subst (λ t. Runs false otherwise source o words before end t)
    (sym (ap (λ t. both t more) (is_sum ∙ ap (λ t. both tally t) is_one)
    ∙ both_assoc tally (tally_of outcome) more))
    (so_far end (both (tally_of outcome) more)
    (subst (λ ws. Runs false otherwise source o ws between end (both (tally_of outcome) more)) (sym split)
    (outcome, next, more, is, runs, refl)))

pub none_left : (words : List (Bor Text)) → length words < 1 → words ≡ []
none_left [] short = refl
none_left (word ∷ words) short = absurd (omega (arith, short))

pub is_done : (otherwise : Otherwise) (source : MomentSource) (o : BorrowedOutput) (words rest : List (Bor Text))
    (before after : Option Text) (tally : WordTally) → length rest < 1
    → Completes otherwise source o (texts words) (texts rest) before after tally
    → Runs false otherwise source o (texts words) before after tally
is_done otherwise source o words rest before after tally short so_far =
    subst (λ t. Runs false otherwise source o (texts words) before after t) (none_more tally)
    (so_far after (at_end false)
    (subst (λ ws. Runs false otherwise source o (texts ws) after after (at_end false))
    (sym (none_left rest short)) (refl, refl)))

-- A nonempty list of borrowed words is its first word and those after it, as a pattern takes them.
pub split_texts : (rest : List (Bor Text)) (n : ℕ) (d : Bor Text) (bytes : Text) → n ≡ length rest
    → 1 ≤ length rest → bytes ≡ (get_or rest 0 d).now
    → texts rest ≡ bytes ∷ texts (take (n - 1) (drop 1 rest))
split_texts [] n d bytes same some is = absurd (omega (arith, some))
split_texts (word ∷ rest) n d bytes same some is =
    let few : n - 1 ≡ length rest = omega (arith, same) in
    sym (ap (λ w. w ∷ texts (take (n - 1) rest)) is
    ∙ ap (λ k. word.now ∷ texts (take k rest)) few
    ∙ ap (λ r. word.now ∷ texts r) (take-length rest))

-- Running the rest of the lines after what is done runs all.
abbrev pub CompletesLines : Otherwise → MomentSource → BorrowedOutput → Option Text → Option Text → Option Text
    → Option Text → WordTally → Type 0
CompletesLines otherwise source o bytes left before between tally = (failed : Bool) (after : Option Text)
    (more : WordTally) → RunsOn failed otherwise source o left between after more
    → RunsOn failed otherwise source o bytes before after (both tally more)

pub lines_start : (otherwise : Otherwise) (source : MomentSource) (o : BorrowedOutput) (bytes before : Option Text)
    (tally : WordTally) → tally ≡ at_end false → CompletesLines otherwise source o bytes bytes before before tally
lines_start otherwise source o bytes before tally none failed after more runs =
    subst (λ t. RunsOn failed otherwise source o bytes before after (both t more)) (sym none) runs

pub more_lines : (bytes rest : Option Text) (line : Text) (lines : List Text) (failed : Bool)
    → IsNextLine bytes line rest → AreLinesOf rest lines failed
    → AreLinesOf bytes (line ∷ lines) failed
more_lines None rest line lines failed next are = tt
more_lines (Some xs) rest line lines true next are =
    let left = subst (λ r. AreLinesOf r lines true) next.2 are in
    (left.0, (next.0, next.1, left.1))
more_lines (Some xs) rest line lines false next are =
    (next.0, next.1, subst (λ r. AreLinesOf r lines false) next.2 are)

pub line_more : (otherwise : Otherwise) (source : MomentSource) (o : BorrowedOutput) (bytes left rest : Option Text)
    (line word : Text) (before between next : Option Text) (tally one sum : WordTally)
    (outcome : WordOutcome) (r : LineRead) → r ≡ Line
    → CompletesLines otherwise source o bytes left before between tally
    → IsRead left rest line r → word ≡ without_newline line
    → IsOne otherwise source o frames.Line word between next outcome → one ≡ tally_of outcome → sum ≡ both tally one
    → CompletesLines otherwise source o bytes rest before next sum
line_more otherwise source o bytes left rest line word before between next tally one sum outcome r is_line so_far
    read without is is_one is_sum failed end more runs =
    subst (λ t. RunsOn failed otherwise source o bytes before end t)
    (sym (ap (λ t. both t more) (is_sum ∙ ap (λ t. both tally t) is_one)
    ∙ both_assoc tally (tally_of outcome) more))
    (so_far failed end (both (tally_of outcome) more) (
      line ∷ runs.0,
      more_lines left rest line runs.0 failed
          (subst (λ x. IsRead left rest line x) is_line read) runs.1,
      (outcome, next, more, subst (λ w. IsOne otherwise source o frames.Line w between next outcome) without is, runs.2, refl),
    ))

pub no_line_left : (left : Option Text) → IsAtEnd left → AreLinesOf left [] false
no_line_left None end = tt
no_line_left (Some xs) end = end

pub no_line_read : (left : Option Text) → AreLinesOf left [] true
no_line_read None = tt
no_line_read (Some xs) = (xs, refl)

pub lines_end : (otherwise : Otherwise) (source : MomentSource) (o : BorrowedOutput) (bytes left rest before after : Option Text)
    (line : Text) (tally : WordTally) (r : LineRead) → r ≡ End
    → CompletesLines otherwise source o bytes left before after tally → IsRead left rest line r
    → RunsOver otherwise source o bytes before after tally
lines_end otherwise source o bytes left rest before after line tally r is so_far read = (
  false,
  subst (λ t. RunsOn false otherwise source o bytes before after t) (none_more tally)
      (so_far false after (at_end false)
      ([], no_line_left left (subst (λ x. IsRead left rest line x) is read), (refl, refl))),
)

pub lines_fail : (otherwise : Otherwise) (source : MomentSource) (o : BorrowedOutput) (bytes left before after : Option Text)
    (tally failing sum : WordTally) → CompletesLines otherwise source o bytes left before after tally
    → failing ≡ at_end true → sum ≡ both tally failing
    → RunsOver otherwise source o bytes before after sum
lines_fail otherwise source o bytes left before after tally failing sum so_far is is_sum = (
  true,
  subst (λ t. RunsOn true otherwise source o bytes before after t)
      (sym (is_sum ∙ ap (λ t. both tally t) is))
      (so_far true after (at_end true) ([], no_line_read left, (refl, refl))),
)

-- A run by a description that was read.
pub ran : (column : Option Column) (otherwise : Otherwise) (source : MomentSource) (quiet : Bool) (languages : Languages) (text : Text)
    (words : List Text) (input before after : Option Text) (r : DescriptionReading) (o : BorrowedOutput)
    (warned : Warned) (tally : WordTally) → r ≡ readings.Description o
    → IsReading languages.written text r → warned ≡ warned_by quiet languages source o
    → IsRunOf column otherwise source o words input before after tally
    → IsRunFrom column otherwise source quiet languages text words input before after (ends.Done warned tally)
ran column otherwise source quiet languages text words input before after r o warned tally is reading reported run =
    (o, subst (λ x. IsReading languages.written text x) is reading, reported, run)
