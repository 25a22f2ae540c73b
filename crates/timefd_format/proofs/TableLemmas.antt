-- One more record.
use Rattle.std.proofs.Common.{ℕ, ◌≡◌, ◌==◌, length, Bool, true, false, List, [], ◌∷◌, Option, Some, None, Result, Ok, Err, IfOk, refl, sym, ap, subst, ◌∙◌}
use Rattle.std.specs.Io.KnownBytes.{IsAtEnd}
use Rattle.timefd_lang_component.specs.Tree.{Text}
use Rattle.timefd_parse.specs.Grammar.{is_empty}
use Rattle.timefd_parse.specs.declared.parsing.BorrowedOutput.{BorrowedOutput}
use Rattle.timefd_lint_rewrite.specs.Lines.{without_newline}
use Rattle.timefd_format.specs.declared.frame.Cell.{Cell}
use Rattle.timefd_format.specs.declared.frame.LineFrame.TheVariants as frames
use Rattle.timefd_format.specs.declared.otherwise.Otherwise.{Otherwise}
use Rattle.timefd_format.specs.declared.outcome.RunError.{RunError}
use Rattle.timefd_format.specs.declared.outcome.WordTally.{WordTally}
use Rattle.timefd_format.specs.declared.source.MomentSource.{MomentSource}
use Rattle.timefd_format.specs.Fields.{IsCell, text_of}
use Rattle.timefd_format.specs.Records.{AreRecordsOf, IsNextRecord, is_open}
use Rattle.timefd_format.specs.Tables.{IsRecord, RunsRecordsOn, RunsRecordsOver}
use Rattle.timefd_format.specs.Tallies.{at_end, both}
use Rattle.timefd_format.specs.Written.{IsTallyOf}
use Rattle.timefd_format.proofs.RunLemmas.{both_assoc, none_more}

-- Writing the rest after what is done gives all.
pub Completes : Otherwise → MomentSource → BorrowedOutput → ℕ → Option Text → Option Text → Option Text
    → Option Text → WordTally → Type 0
Completes otherwise source o n bytes left before between tally = (failed : Bool) (after : Option Text)
    (more : WordTally) → RunsRecordsOn failed otherwise source o n left between after more
    → RunsRecordsOn failed otherwise source o n bytes before after (both tally more)

pub starts : (otherwise : Otherwise) (source : MomentSource) (o : BorrowedOutput) (n : ℕ) (bytes before : Option Text)
    (tally : WordTally) → tally ≡ at_end false
    → Completes otherwise source o n bytes bytes before before tally
unfolding Completes
starts otherwise source o n bytes before tally none failed after more runs =
    subst (λ t. RunsRecordsOn failed otherwise source o n bytes before after (both t more)) (sym none) runs

pub more_records : (bytes rest : Option Text) (row : Text) (records : List Text) (failed : Bool)
    → IsNextRecord bytes row rest → AreRecordsOf rest records failed
    → AreRecordsOf bytes (row ∷ records) failed
more_records None rest row records failed next are = tt
more_records (Some xs) rest row records true next are =
    let left = subst (λ r. AreRecordsOf r records true) next.2 are in
    (left.0, (next.0, next.1, left.1))
more_records (Some xs) rest row records false next are =
    (next.0, next.1, subst (λ r. AreRecordsOf r records false) next.2 are)

pub record_more : (otherwise : Otherwise) (source : MomentSource) (o : BorrowedOutput) (n : ℕ)
    (bytes left rest : Option Text) (row : Text) (before between next : Option Text)
    (tally one sum : WordTally) → Completes otherwise source o n bytes left before between tally
    → IsNextRecord left row rest → IsRecord otherwise source o n row between next one
    → sum ≡ both tally one → Completes otherwise source o n bytes rest before next sum
unfolding Completes
record_more otherwise source o n bytes left rest row before between next tally one sum so_far read is
    is_sum failed end more runs =
    subst (λ t. RunsRecordsOn failed otherwise source o n bytes before end t)
    (sym (ap (λ t. both t more) is_sum ∙ both_assoc tally one more))
    (so_far failed end (both one more) (
      row ∷ runs.0,
      more_records left rest row runs.0 failed read runs.1,
      (one, next, more, is, runs.2, refl),
    ))

pub no_record_left : (left : Option Text) → IsAtEnd left → AreRecordsOf left [] false
no_record_left None end = tt
no_record_left (Some xs) end = end

pub no_record_read : (left : Option Text) → AreRecordsOf left [] true
no_record_read None = tt
no_record_read (Some xs) = (xs, refl)

pub records_end : (otherwise : Otherwise) (source : MomentSource) (o : BorrowedOutput) (n : ℕ)
    (bytes left before after : Option Text) (tally : WordTally)
    → Completes otherwise source o n bytes left before after tally → IsAtEnd left
    → RunsRecordsOver otherwise source o n bytes before after tally
unfolding Completes
records_end otherwise source o n bytes left before after tally so_far end = (
  false,
  subst (λ t. RunsRecordsOn false otherwise source o n bytes before after t) (none_more tally)
      (so_far false after (at_end false) ([], no_record_left left end, (refl, refl))),
)

pub records_fail : (otherwise : Otherwise) (source : MomentSource) (o : BorrowedOutput) (n : ℕ)
    (bytes left before after : Option Text) (tally failing sum : WordTally)
    → Completes otherwise source o n bytes left before after tally → failing ≡ at_end true
    → sum ≡ both tally failing → RunsRecordsOver otherwise source o n bytes before after sum
unfolding Completes
records_fail otherwise source o n bytes left before after tally failing sum so_far is is_sum = (
  true,
  subst (λ t. RunsRecordsOn true otherwise source o n bytes before after t)
      (sym (is_sum ∙ ap (λ t. both tally t) is))
      (so_far true after (at_end true) ([], no_record_read left, (refl, refl))),
)

-- What the field of a record becomes.
pub of_cell : (otherwise : Otherwise) (source : MomentSource) (o : BorrowedOutput) (n : ℕ) (row text : Text)
    (cell : Cell) (before after : Option Text) (tally : WordTally) → is_open row ≡ false
    → is_empty (without_newline row) ≡ false → IsCell n row cell → text ≡ text_of cell.field.now
    → IsTallyOf otherwise source o (frames.Field cell) text before after tally
    → IsRecord otherwise source o n row before after tally
of_cell otherwise source o n row text cell before after tally shut some is text_is one =
    rw shut (rw some (rw is.0 (
      cell,
      is,
      subst (λ t. IsTallyOf otherwise source o (frames.Field cell) t before after tally) text_is one,
    )))

pub of_cell_ok : (otherwise : Otherwise) (source : MomentSource) (o : BorrowedOutput) (n : ℕ) (row text : Text)
    (cell : Cell) (before after : Option Text) (r : Result WordTally RunError) → is_open row ≡ false
    → is_empty (without_newline row) ≡ false → IsCell n row cell → text ≡ text_of cell.field.now
    → IfOk r (IsTallyOf otherwise source o (frames.Field cell) text before after)
    → IfOk r (IsRecord otherwise source o n row before after)
of_cell_ok otherwise source o n row text cell before after (Ok tally) shut some is text_is one =
    of_cell otherwise source o n row text cell before after tally shut some is text_is one
of_cell_ok otherwise source o n row text cell before after (Err e) shut some is text_is one = tt

some_of : (content : Text) → (length content == 0) ≡ false → is_empty content ≡ false
some_of [] filled = absurd cc
some_of (b ∷ bs) filled = refl

pub has_some : (line content : Text) (b : Bool) → b ≡ (length content == 0) → b ≡ false
    → content ≡ without_newline line → is_empty (without_newline line) ≡ false
has_some line content b is filled same =
    subst (λ t. is_empty t ≡ false) same (some_of content (sym is ∙ filled))
