-- Batches that are taken from a reader.
use Rattle.std.proofs.Common.{ℕ, zero, suc, ◌≡◌, ◌∙◌, ◌++◌, ◌<◌, ◌≤◌, [], ◌∷◌, length, take, drop, cond, Option, Some, None, Result, Ok, Err, IfOk, IfSome, refl, sym, ap, subst, arith, append_assoc, eq-eqb, length-append, true, false, Bool, List}
use Rattle.std.proofs.BufReadLemmas.{take_through-append, drop_through-append}
use Rattle.std.proofs.KnownBytes.{Appends-nil, Consumes-kept, Consumes-nil}
use Rattle.std.specs.Io.{StartsWith}
use Rattle.std.specs.Io.BufRead.{take_through, drop_through}
use Rattle.std.specs.Io.KnownBytes.{Appends, Consumes, IsAtEnd, Keeps}
use Rattle.timefd_lang_component.specs.Tree.{Text}
use Rattle.timefd_date_format.specs.declared.field.Unshown.{Unshown}
use Rattle.timefd_parse.specs.declared.parsing.BorrowedOutput.{BorrowedOutput}
use Rattle.timefd_lint_rewrite.specs.Lines.{IsNextLine, without_newline}
use Rattle.timefd_format.specs.declared.fast.batch.Batch.{Batch}
use Rattle.timefd_format.specs.declared.fast.take.BatchTaken.{BatchTaken}
use Rattle.timefd_format.specs.declared.fast.take.BatchTaken.TheVariants as takes
use Rattle.timefd_format.specs.declared.frame.LineFrame.TheVariants as frames
use Rattle.timefd_format.specs.declared.lines.LineRead.{LineRead}
use Rattle.timefd_format.specs.declared.lines.LineRead.TheVariants as reads
use Rattle.timefd_format.specs.declared.lines.NextLine.{NextLine}
use Rattle.timefd_format.specs.declared.lines.NextLine.TheVariants as nexts
use Rattle.timefd_format.specs.declared.otherwise.Otherwise.{Otherwise}
use Rattle.timefd_format.specs.declared.outcome.WordOutcome.TheVariants as came
use Rattle.timefd_format.specs.declared.outcome.RunError.{RunError}
use Rattle.timefd_format.specs.declared.outcome.WordTally.{WordTally}
use Rattle.timefd_format.specs.declared.source.MomentSource.{MomentSource}
use Rattle.timefd_format.specs.Batches.{AreLinesShown, IsBatch, IsNext, IsShownAs, IsTaken, IsWholeLine, with_newline}
use Rattle.timefd_format.specs.Failures.{IsSourceAfterBatch, IsSourceAfterNext}
use Rattle.timefd_format.specs.Tallies.{at_end, both, tally_of}
use Rattle.timefd_format.specs.Written.{AppendsIn, IsRead, IsTallyOf, RunsOn, RunsOver, written_of}
use Rattle.timefd_format.proofs.RunLemmas.{CompletesLines, line_more, lines_fail, no_line_left, none_more}

-- A line at the front of what a reader has left.

first_through : (y : Text) → take_through 10 (10 ∷ y) ≡ 10 ∷ []
first_through y = ap (λ b. cond b (10 ∷ []) (10 ∷ take_through 10 y)) (eq-eqb 10 10 refl)

first_dropped : (y : Text) → drop_through 10 (10 ∷ y) ≡ y
first_dropped y = ap (λ b. cond b y (drop_through 10 y)) (eq-eqb 10 10 refl)

pub next_line : (left rest : Option Text) (line : Text) → IsWholeLine line → Consumes left rest line
    → IsNextLine left line rest
next_line None rest line whole consumed = tt
next_line (Some x) None line whole consumed = absurd consumed
next_line (Some x) (Some y) line whole consumed =
    let joined : x ≡ whole.0 ++ 10 ∷ y =
    consumed ∙ ap (λ l. l ++ y) whole.2 ∙ append_assoc whole.0 (10 ∷ []) y in (
      λ empty. absurd (omega (arith, ap length empty, ap length whole.2, length-append whole.0 (10 ∷ []))),
      whole.2 ∙ sym (ap (take_through 10) joined ∙ take_through-append 10 whole.0 (10 ∷ y) whole.1
          ∙ ap (λ t. whole.0 ++ t) (first_through y)),
      ap Some (sym (ap (drop_through 10) joined ∙ drop_through-append 10 whole.0 (10 ∷ y) whole.1
          ∙ first_dropped y)),
    )

-- What is between two parts that are consumed, or appended.

pub between_consumed : (old new : Option Text) (a b : Text) → Consumes old new (a ++ b)
    → (mid : Option Text) × Consumes old mid a × Consumes mid new b
between_consumed None new a b all = (None, tt, tt)
between_consumed (Some x) None a b all = absurd all
between_consumed (Some x) (Some y) a b all = (Some (b ++ y), all ∙ append_assoc a b y, refl)

pub between_appended : (old new : Option Text) (a b : Text) → Appends old new (a ++ b)
    → (mid : Option Text) × Appends old mid a × Appends mid new b
between_appended None new a b all = (None, tt, tt)
between_appended (Some x) None a b all = absurd all
between_appended (Some x) (Some y) a b all = (Some (x ++ a), refl, all ∙ sym (append_assoc x a b))

-- One line of a batch.

abbrev pub AppendsOk : Result Text Unshown → Option Text → Option Text → Type 0
AppendsOk (Ok text) before after = Appends before after text
AppendsOk (Err u) before after = ⊥

line_in_frame : (x : Result Text Unshown) (before after : Option Text) → AppendsOk (with_newline x) before after
    → AppendsIn frames.Line x before after
line_in_frame (Ok text) before after sent = sent
line_in_frame (Err u) before after sent = absurd sent

shown_more : (otherwise : Otherwise) (source : MomentSource) (o : BorrowedOutput) (bytes left rest : Option Text)
    (line shown : Text) (before between next : Option Text) (tally : WordTally)
    → CompletesLines otherwise source o bytes left before between tally → IsWholeLine line
    → IsShownAs source o (without_newline line) shown → Consumes left rest line → Appends between next shown
    → CompletesLines otherwise source o bytes rest before next tally
shown_more otherwise source o bytes left rest line shown before between next tally so_far whole is consumed sent =
    let outcome = came.Written is.0 in
    let framed : AppendsIn frames.Line (written_of is.0 o) between next =
    line_in_frame (written_of is.0 o) between next
    (subst (λ x. AppendsOk x between next) (sym is.2) sent) in
    subst (λ t. CompletesLines otherwise source o bytes rest before next t) (none_more tally)
    (line_more otherwise source o bytes left rest line (without_newline line) before between next tally
    (tally_of outcome) (both tally (tally_of outcome)) outcome reads.Line refl so_far
    (next_line left rest line whole consumed) refl (is.1, framed) refl refl)

-- A batch of one line, and of more.
lines_more : (otherwise : Otherwise) (source : MomentSource) (o : BorrowedOutput) (n : ℕ) (read written : Text)
    (bytes left rest before between next : Option Text) (tally : WordTally)
    → CompletesLines otherwise source o bytes left before between tally
    → AreLinesShown source o (suc n) read written → Consumes left rest read → Appends between next written
    → CompletesLines otherwise source o bytes rest before next tally
lines_more otherwise source o zero read written bytes left rest before between next tally so_far are consumed sent =
    shown_more otherwise source o bytes left rest are.1 are.3 before between next tally so_far are.5 are.6
    (subst (Consumes left rest) (are.7 ∙ ap (λ front. front ++ are.1) are.4.0) consumed)
    (subst (Appends between next) (are.8 ∙ ap (λ done. done ++ are.3) are.4.1) sent)
lines_more otherwise source o (suc n) read written bytes left rest before between next tally so_far are consumed sent =
    let mid = between_consumed left rest are.0 are.1 (subst (Consumes left rest) are.7 consumed) in
    let then = between_appended between next are.2 are.3 (subst (Appends between next) are.8 sent) in
    shown_more otherwise source o bytes mid.0 rest are.1 are.3 before then.0 next tally
    (lines_more otherwise source o n are.0 are.2 bytes left mid.0 before between then.0 tally so_far are.4 mid.1 then.1)
    are.5 are.6 mid.2 then.2

some_more : (otherwise : Otherwise) (source : MomentSource) (o : BorrowedOutput) (n : ℕ) (read written : Text)
    (bytes left rest before between next : Option Text) (tally : WordTally) → 1 ≤ n
    → CompletesLines otherwise source o bytes left before between tally
    → AreLinesShown source o n read written → Consumes left rest read → Appends between next written
    → CompletesLines otherwise source o bytes rest before next tally
some_more otherwise source o zero read written bytes left rest before between next tally some so_far are consumed
    sent = absurd (omega (arith, some))
some_more otherwise source o (suc n) read written bytes left rest before between next tally some so_far are consumed
    sent =
    lines_more otherwise source o n read written bytes left rest before between next tally so_far are consumed sent

pub batch_more : (otherwise : Otherwise) (source : MomentSource) (o : BorrowedOutput)
    (bytes left rest before between after : Option Text) (tally : WordTally) (n : ℕ) (r : NextLine) → r ≡ nexts.Lines n
    → CompletesLines otherwise source o bytes left before between tally
    → IsNext otherwise source o left rest between after r
    → CompletesLines otherwise source o bytes rest before after tally
batch_more otherwise source o bytes left rest before between after tally n r is so_far took =
    let lines = subst (λ x. IsNext otherwise source o left rest between after x) is took in
    some_more otherwise source o n lines.0 lines.1 bytes left rest before between after tally lines.2 so_far lines.3
    lines.4 lines.5

-- A line that is looked at by itself.
pub next_more : (otherwise : Otherwise) (source : MomentSource) (o : BorrowedOutput)
    (bytes left rest before between next : Option Text) (tally one sum : WordTally) (n : NextLine) → n ≡ nexts.Line one
    → CompletesLines otherwise source o bytes left before between tally
    → IsNext otherwise source o left rest between next n → sum ≡ both tally one
    → CompletesLines otherwise source o bytes rest before next sum
next_more otherwise source o bytes left rest before between next tally one sum n is so_far looked is_sum =
    let line = subst (λ x. IsNext otherwise source o left rest between next x) is looked in
    line_more otherwise source o bytes left rest line.0 (without_newline line.0) before between next tally one sum
    line.1.0 reads.Line refl so_far line.2 refl line.1.1 line.1.2 is_sum

pub line_looked : (otherwise : Otherwise) (source : MomentSource) (o : BorrowedOutput)
    (old new before after : Option Text) (line word : Text) (one : WordTally) (r : LineRead) → r ≡ reads.Line
    → IsRead old new line r → word ≡ without_newline line
    → IsTallyOf otherwise source o frames.Line word before after one
    → IsNext otherwise source o old new before after (nexts.Line one)
line_looked otherwise source o old new before after line word one r is read without tally = (
  line,
  subst (λ w. IsTallyOf otherwise source o frames.Line w before after one) without tally,
  subst (λ x. IsRead old new line x) is read,
)

pub no_line_looked : (otherwise : Otherwise) (source : MomentSource) (o : BorrowedOutput) (old new before : Option Text)
    (line : Text) (r : LineRead) → r ≡ reads.End → IsRead old new line r
    → IsNext otherwise source o old new before before nexts.End
no_line_looked otherwise source o old new before line r is read =
    (refl, subst (λ x. IsRead old new line x) is read)

-- The end of the input, and a read that failed.

run_ends : (otherwise : Otherwise) (source : MomentSource) (o : BorrowedOutput)
    (bytes left before between after : Option Text) (tally : WordTally)
    → CompletesLines otherwise source o bytes left before between tally → (after ≡ between) × IsAtEnd left
    → RunsOver otherwise source o bytes before after tally
run_ends otherwise source o bytes left before between after tally so_far end = (
  false,
  subst (λ t. RunsOn false otherwise source o bytes before after t) (none_more tally)
      (so_far false after (at_end false) ([], no_line_left left end.1, (end.0, refl))),
)

pub next_ends : (otherwise : Otherwise) (source : MomentSource) (o : BorrowedOutput)
    (bytes left rest before between after : Option Text) (tally : WordTally) (n : NextLine) → n ≡ nexts.End
    → CompletesLines otherwise source o bytes left before between tally
    → IsNext otherwise source o left rest between after n → RunsOver otherwise source o bytes before after tally
next_ends otherwise source o bytes left rest before between after tally n is so_far looked =
    run_ends otherwise source o bytes left before between after tally so_far
    (subst (λ x. IsNext otherwise source o left rest between after x) is looked)

run_fails : (otherwise : Otherwise) (source : MomentSource) (o : BorrowedOutput)
    (bytes left before between after : Option Text) (tally failing sum : WordTally)
    → CompletesLines otherwise source o bytes left before between tally → after ≡ between
    → failing ≡ at_end true → sum ≡ both tally failing
    → RunsOver otherwise source o bytes before after sum
run_fails otherwise source o bytes left before between after tally failing sum so_far same is is_sum =
    subst (λ a. RunsOver otherwise source o bytes before a sum) (sym same)
    (lines_fail otherwise source o bytes left before between tally failing sum so_far is is_sum)

pub next_fails : (otherwise : Otherwise) (source : MomentSource) (o : BorrowedOutput)
    (bytes left rest before between after : Option Text) (tally failing sum : WordTally) (n : NextLine) → n ≡ nexts.Failed
    → CompletesLines otherwise source o bytes left before between tally
    → IsNext otherwise source o left rest between after n → failing ≡ at_end true → sum ≡ both tally failing
    → RunsOver otherwise source o bytes before after sum
next_fails otherwise source o bytes left rest before between after tally failing sum n is so_far looked fails is_sum =
    run_fails otherwise source o bytes left before between after tally failing sum so_far
    (subst (λ x. IsNext otherwise source o left rest between after x) is looked) fails is_sum

-- What comes next is a batch, or else what comes next after none.

pub lines_next : (otherwise : Otherwise) (source : MomentSource) (o : BorrowedOutput) (old new before after : Option Text)
    (n : ℕ) (t : BatchTaken) → t ≡ takes.Lines n → IsTaken source o old new before after t
    → IsNext otherwise source o old new before after (nexts.Lines n)
lines_next otherwise source o old new before after n t is taken =
    subst (λ x. IsTaken source o old new before after x) is taken

pub end_next : (otherwise : Otherwise) (source : MomentSource) (o : BorrowedOutput) (old new before after : Option Text)
    (t : BatchTaken) → t ≡ takes.End → IsTaken source o old new before after t
    → IsNext otherwise source o old new before after nexts.End
end_next otherwise source o old new before after t is taken =
    subst (λ x. IsTaken source o old new before after x) is taken

pub failed_next : (otherwise : Otherwise) (source : MomentSource) (o : BorrowedOutput) (old new before after : Option Text)
    (t : BatchTaken) → t ≡ takes.Failed → IsTaken source o old new before after t
    → IsNext otherwise source o old new before after nexts.Failed
failed_next otherwise source o old new before after t is taken =
    subst (λ x. IsTaken source o old new before after x) is taken

kept_next : (otherwise : Otherwise) (source : MomentSource) (o : BorrowedOutput) (old mid new before after : Option Text)
    (n : NextLine) → Keeps old mid → IsNext otherwise source o mid new before after n
    → IsNext otherwise source o old new before after n
kept_next otherwise source o None mid new before after (nexts.Lines n) same is = (is.0, is.1, is.2, is.3, tt, is.5)
kept_next otherwise source o None mid new before after (nexts.Line t) same is = (is.0, is.1, tt)
kept_next otherwise source o None mid new before after nexts.End same is = (is.0, tt)
kept_next otherwise source o None mid new before after nexts.Failed same is = is
kept_next otherwise source o (Some x) None new before after n same is = absurd same
kept_next otherwise source o (Some x) (Some y) new before after n same is =
    subst (λ z. IsNext otherwise source o (Some z) new before after n) same is

pub nothing_next : (otherwise : Otherwise) (source : MomentSource) (o : BorrowedOutput)
    (old mid new before between after : Option Text) (t : BatchTaken) (r : Result NextLine RunError) → t ≡ takes.Nothing
    → IsTaken source o old mid before between t → IfOk r (IsNext otherwise source o mid new between after)
    → IfOk r (IsNext otherwise source o old new before after)
nothing_next otherwise source o old mid new before between after t (Err e) is taken next = tt
nothing_next otherwise source o old mid new before between after t (Ok n) is taken next =
    let nothing = subst (λ x. IsTaken source o old mid before between x) is taken in
    kept_next otherwise source o old mid new before after n nothing.1
    (subst (λ b. IsNext otherwise source o mid new b after n) nothing.0 next)

-- What `fill`, a write and `consume` do together.

pub end_shown : (old : Option Text) (text buffer : Text) → (buffer ≡ [] → IsAtEnd old) → text ≡ buffer
    → length text ≡ 0 → IsAtEnd old
end_shown old [] buffer end is none = end (sym is)
end_shown old (b ∷ bs) buffer end is none = absurd (omega (arith, none))

pub kept_consumed : (old mid new : Option Text) (bytes : Text) → Keeps old mid → Consumes mid new bytes
    → Consumes old new bytes
kept_consumed None mid new bytes kept consumed = tt
kept_consumed (Some x) None new bytes kept consumed = absurd kept
kept_consumed (Some x) (Some y) None bytes kept consumed = absurd consumed
kept_consumed (Some x) (Some y) (Some z) bytes kept consumed = sym kept ∙ consumed

pub batch_taken : (source : MomentSource) (o : BorrowedOutput) (old mid new before after : Option Text)
    (text buffer room : Text) (batch : Batch) → IsBatch source o text room batch → 1 ≤ batch.line_count
    → Keeps old mid → text ≡ buffer → Consumes mid new (take batch.read buffer)
    → Appends before after (take batch.written room)
    → IsTaken source o old new before after (takes.Lines batch.line_count)
batch_taken source o old mid new before after text buffer room batch of_batch some kept is consumed sent = (
  take batch.read text,
  take batch.written room,
  some,
  of_batch.0,
  kept_consumed old mid new (take batch.read text) kept
      (subst (λ b. Consumes mid new (take batch.read b)) (sym is) consumed),
  sent,
)

-- What the source is after the next lines, if no batch of them was taken.
pub source_after : (old mid new : ℕ) (failed failed_first : Bool) (t : BatchTaken) (r : Result NextLine RunError)
    → t ≡ takes.Nothing → IsSourceAfterBatch old mid failed_first t → IfOk r (IsSourceAfterNext mid new failed)
    → IfOk r (IsSourceAfterNext old new failed)
source_after old mid new failed failed_first t (Err e) is first after = tt
source_after old mid new failed failed_first t (Ok (nexts.Lines n)) is first after =
    let few : mid ≤ old = subst (λ x. IsSourceAfterBatch old mid failed_first x) is first in omega (arith, few, after)
source_after old mid new failed failed_first t (Ok (nexts.Line tally)) is first after =
    let few : mid ≤ old = subst (λ x. IsSourceAfterBatch old mid failed_first x) is first in
    (omega (arith, few, after.0), after.1)
source_after old mid new failed failed_first t (Ok nexts.End) is first after = tt
source_after old mid new failed failed_first t (Ok nexts.Failed) is first after = after

-- A line that was looked at is no failed read.
pub line_read : (old new : ℕ) (failed : Bool) (tally : WordTally) (n : NextLine) → n ≡ nexts.Line tally
    → IsSourceAfterNext old new failed n → tally.has_failed ≡ false
line_read old new failed tally n is after =
    (subst (λ x. IsSourceAfterNext old new failed x) is after).1
