-- What is reported about texts, one after another.
use Rattle.std.proofs.Common.{◌≡◌, Bool, true, false, ◌||◌, ◌&&◌, List, [], ◌∷◌, ◌++◌, Option, Some, None, refl, sym, ap, subst, ◌∙◌, append-nil, length-append, arith, ℕ, ◌+◌, ◌<◌, ◌≤◌, ◌-◌, ◌^◌, length}
use Rattle.std.specs.Prelude.{All, IsFalse, IsTrue, IfSome, ◌⊎◌}
use Rattle.std.specs.declared.io.ErrorKind.{ErrorKind}
use Rattle.std.specs.Io.KnownBytes.{Appends, Keeps, IsAtEnd}
use Rattle.std.specs.Io.BufRead.{take_through, drop_through, DropsThrough}
use Rattle.std.specs.Io.Iter.{u64_saturate}
use Rattle.std.specs.List.{list_any}
use Rattle.std.proofs.KnownBytes.{Appends-nil, Appends-trans}
use Rattle.std.proofs.lemmas.List.Elements.{All-append, All-cons, All-nil}
use Rattle.std.proofs.lemmas.List.Folds.{list_any-append}
use Rattle.std.proofs.lemmas.Grind.{flat_map-append}
use Rattle.std.proofs.lemmas.Bool.{true≢false, false≢true}
use mathlib.Core.Logic.{inl, inr}
use denote.Ref.{Bor}
use Rattle.timefd_parse.specs.Tree.{Text}
use Rattle.timefd_lint_drawing.specs.declared.draw.Style.{Style}
use Rattle.timefd_lint_drawing.specs.declared.position.Origin.{Origin}
use Rattle.timefd_lint_options.specs.declared.wording.LineLanguage.{LineLanguage}
use Rattle.timefd_lint.specs.declared.line.TextEnd.{TextEnd}
use Rattle.timefd_lint.specs.declared.line.TextEnd.TheVariants.{PassedOver, Accepted, Converted, Refused, NotText, Allowed, Failed, UnreadCall, UnreadValue, WrongComment}
use Rattle.timefd_lint_sources.specs.declared.reported.Reporting.{Reporting}
use Rattle.timefd_lint.specs.declared.tally.LintTally.{LintTally}
use Rattle.timefd_lang_warnings.specs.declared.levels.Level.TheVariants.{Warned}
use Rattle.timefd_lang_warnings.specs.Codes.{all as all_warnings}
use Rattle.timefd_lang_warnings.specs.Levels.{count as warning_count}
use Rattle.timefd_lang_warnings.proofs.LevelLemmas.{count_within}
use Rattle.timefd_lint_rewrite.specs.Lines.{AreLinesUpTo, AreLinesOf, without_newline}
use Rattle.timefd_lint_rewrite.proofs.LineLemmas.{all_lines, front_lines, next_line, no_line, up_to_more}
use Rattle.timefd_lint.specs.Lines.{IsEndOf, IsLineEnd}
use Rattle.timefd_lint.specs.Failures.{note_of, unread}
use Rattle.timefd_lint.specs.declared.failure.Failure.{Failure}
use Rattle.timefd_lint.specs.Marks.{Notes, has_mark}
use Rattle.timefd_lint.specs.Reported.{Says, SaysUnread, SaysOf, IsUnreadIfFailed, AreMarked, Reported, is_description, is_refused, is_not_text, is_failed, is_unread_call, is_unread_value, is_wrong_comment, warnings_in, allowed_in, IsEndIn, IsReportOn, IsPosition, ArePlaced, position, one_if, count, total, tally_of_one, tally_of, text_in, both, messages, lines_in, lines_of, IsReadUp, AreCountedOut, IsRun, IsRunOver, IsRunOfAll, IsRunOn, IsNext}

-- A note, and the message after it.
pub notes_and_says : (is_marked : Bool) (language : LineLanguage) (reporting : Reporting) (origin : Origin)
    (text : Text) (end : TextEnd) (before between after : Option Text)
    → Notes is_marked reporting.style origin before between
    → Says language reporting origin text end between after
    → SaysOf is_marked language reporting origin text end before after
notes_and_says is_marked language reporting origin text end before between after noted said = (
  noted.0 ++ said.0,
  (noted.0, said.0, refl, noted.1, said.1),
  Appends-trans before between after noted.0 said.0 noted.2 said.2,
)

pub says_unread : (style : Style) (file : Bor Text) (kind : ErrorKind) (before after : Option Text)
    → Appends before after (note_of style file (unread kind)) → SaysUnread style file before after
says_unread style file kind before after written =
    (note_of style file (unread kind), (kind, refl), written)

-- The message on a file that fails depends on no text and no line.
fails_at : (language : LineLanguage) (reporting : Reporting) (origin : Origin) (text : Text)
    (before after : Option Text) (failure : Failure)
    → Appends before after (note_of reporting.style origin.file failure)
    → SaysOf false language reporting origin text Failed before after
fails_at language reporting origin text before after failure written =
    let message : Text = note_of reporting.style origin.file failure in
    (message, ([], message, refl, refl, (failure, refl)), written)

-- The message is the note on why the file can't be read.
unread_at : (language : LineLanguage) (reporting : Reporting) (origin : Origin) (text : Text)
    (before after : Option Text) → SaysUnread reporting.style origin.file before after
    → SaysOf false language reporting origin text Failed before after
unread_at language reporting origin text before after said = (
  said.0,
  ([], said.0, refl, refl, (unread said.1.0, said.1.1)),
  said.2,
)

and_false : (b : Bool) → (b && false) ≡ false
and_false true = refl
and_false false = refl

and_right : (a b : Bool) → (a && b) ≡ true → b ≡ true
and_right true b both = both
and_right false true both = refl
and_right false false both = both

pub read_fails : (is_first : Bool) (language : LineLanguage) (comment : Option (Bor Text))
    (reporting : Reporting) (origin : Origin) (bytes rest before after : Option Text) (has_failed : Bool)
    (end : TextEnd) → end ≡ Failed → IsTrue has_failed
    → SaysUnread reporting.style origin.file before after
    → IsNext is_first language comment reporting origin bytes rest has_failed before after (Some end)
read_fails is_first language comment reporting origin bytes rest before after has_failed end failed broken said = (
  [],
  λ works. absurd (true≢false (sym (ap is_failed failed) ∙ works)),
  subst (λ m. SaysOf m language reporting origin (text_in false []) end before after)
      (sym (and_false is_first))
      (subst (λ e. SaysOf false language reporting origin (text_in false []) e before after) (sym failed)
      (unread_at language reporting origin (text_in false []) before after said)),
  λ _. (broken, said),
)

-- The check of a text never ends with a failed file.
never_failed : (language : LineLanguage) (reporting : Reporting) (text : Text) (end : TextEnd)
    → IsEndOf language reporting text end → IsTrue (is_failed end) → ⊥
never_failed language reporting text PassedOver ended fails = ended
never_failed language reporting text (Accepted found) ended fails = false≢true fails
never_failed language reporting text (Converted traps) ended fails = false≢true fails
never_failed language reporting text Refused ended fails = false≢true fails
never_failed language reporting text NotText ended fails = false≢true fails
never_failed language reporting text (Allowed left) ended fails = ended
never_failed language reporting text Failed ended fails = ended
never_failed language reporting text UnreadCall ended fails = ended
never_failed language reporting text UnreadValue ended fails = ended
never_failed language reporting text WrongComment ended fails = ended

line_never_failed : (language : LineLanguage) (comment : Option (Bor Text)) (reporting : Reporting) (line : Text) (end : TextEnd)
    → IsLineEnd language comment reporting line end → IsTrue (is_failed end) → ⊥
line_never_failed language comment reporting line PassedOver ended fails = false≢true fails
line_never_failed language comment reporting line (Accepted found) ended fails = false≢true fails
line_never_failed language comment reporting line (Converted traps) ended fails = false≢true fails
line_never_failed language comment reporting line Refused ended fails = false≢true fails
line_never_failed language comment reporting line NotText ended fails = false≢true fails
line_never_failed language comment reporting line (Allowed left) ended fails = ended
line_never_failed language comment reporting line Failed ended fails = ended
line_never_failed language comment reporting line UnreadCall ended fails = ended
line_never_failed language comment reporting line UnreadValue ended fails = ended
line_never_failed language comment reporting line WrongComment ended fails = ended

-- One text is a run.
or_false : (b : Bool) → (b || false) ≡ b
or_false true = refl
or_false false = refl

one_alone : (b : Bool) → u64_saturate (one_if b + 0) ≡ one_if b
one_alone true = refl
one_alone false = refl

few_warnings : (end : TextEnd) → u64_saturate (warnings_in end + 0) ≡ warnings_in end
few_warnings PassedOver = refl
few_warnings (Accepted found) =
    let few : warning_count Warned found ≤ 14 = count_within Warned found all_warnings in
    omega (arith, few)
few_warnings (Converted traps) = omega arith
few_warnings Refused = refl
few_warnings NotText = refl
few_warnings (Allowed left) = omega arith
few_warnings Failed = refl
few_warnings UnreadCall = refl
few_warnings UnreadValue = refl
few_warnings WrongComment = refl

few_allowed : (end : TextEnd) → u64_saturate (allowed_in end + 0) ≡ allowed_in end
few_allowed PassedOver = refl
few_allowed (Accepted found) = refl
few_allowed (Converted traps) = refl
few_allowed Refused = refl
few_allowed NotText = refl
few_allowed (Allowed left) = omega arith
few_allowed Failed = refl
few_allowed UnreadCall = refl
few_allowed UnreadValue = refl
few_allowed WrongComment = refl

pub tally_one : (t : Reported) → tally_of (t ∷ []) ≡ tally_of_one t.end
tally_one t =
    rw (
      one_alone (is_description t.end),
      one_alone (is_refused t.end),
      few_warnings t.end,
      one_alone (is_unread_call t.end),
      one_alone (is_unread_value t.end),
      one_alone (is_wrong_comment t.end),
      few_allowed t.end,
      or_false (is_not_text t.end),
      or_false (is_failed t.end),
    ) refl

pub only : (t : Reported) (P : Reported → Type 0) → P t → All P (t ∷ [])
only t P is = All-cons P t [] is (λ k d below. absurd (omega (arith, below)))

pub one_text : (is_whole : Bool) (language : LineLanguage) (comment : Option (Bor Text))
    (reporting : Reporting) (origin : Origin) (line : Text) (is_marked : Bool) (end : TextEnd)
    (before after : Option Text)
    → (IsFalse (is_failed end) → IsEndIn is_whole language comment reporting line end)
    → (IsTrue is_marked → IsTrue (has_mark line))
    → SaysOf is_marked language reporting origin (text_in is_whole line) end before after
    → IsRun is_whole language comment reporting before after (tally_of_one end)
one_text is_whole language comment reporting origin line is_marked end before after ended marked said =
    let t : Reported = record {
      line = line;
      origin = origin;
      is_marked = is_marked;
      end = end;
      message = said.0;
    } in
    record {
      reported = t ∷ [];
      each = only t (IsReportOn is_whole language comment reporting)
          (record { end = ended; marked = marked; message = said.1 });
      found = sym (tally_one t);
      written = subst (λ m. Appends before after m) (sym (append-nil said.0)) said.2;
    }

-- Two runs in a row are a run.
total_both : (amount : Reported → ℕ) (xs ys : List Reported)
    → total amount (xs ++ ys) ≡ total amount xs + total amount ys
total_both amount [] ys = omega arith
total_both amount (x ∷ xs) ys = omega (arith, total_both amount xs ys)

count_both : (test : Reported → Bool) (xs ys : List Reported)
    → count test (xs ++ ys) ≡ count test xs + count test ys
count_both test xs ys = total_both (λ t. one_if (test t)) xs ys

sum_both : (a b : ℕ) → u64_saturate (u64_saturate a + u64_saturate b) ≡ u64_saturate (a + b)
sum_both a b = omega arith

pub tally_both : (xs ys : List Reported) → both (tally_of xs) (tally_of ys) ≡ tally_of (xs ++ ys)
tally_both xs ys =
    rw (
      sum_both (count (λ (t : Reported). is_description t.end) xs)
          (count (λ (t : Reported). is_description t.end) ys),
      sum_both (count (λ (t : Reported). is_refused t.end) xs)
          (count (λ (t : Reported). is_refused t.end) ys),
      sum_both (total (λ (t : Reported). warnings_in t.end) xs) (total (λ (t : Reported). warnings_in t.end) ys),
      sum_both (count (λ (t : Reported). is_unread_call t.end) xs)
          (count (λ (t : Reported). is_unread_call t.end) ys),
      sum_both (count (λ (t : Reported). is_unread_value t.end) xs)
          (count (λ (t : Reported). is_unread_value t.end) ys),
      sum_both (count (λ (t : Reported). is_wrong_comment t.end) xs)
          (count (λ (t : Reported). is_wrong_comment t.end) ys),
      sum_both (total (λ (t : Reported). allowed_in t.end) xs) (total (λ (t : Reported). allowed_in t.end) ys),
      count_both (λ (t : Reported). is_description t.end) xs ys,
      count_both (λ (t : Reported). is_refused t.end) xs ys,
      total_both (λ (t : Reported). warnings_in t.end) xs ys,
      count_both (λ (t : Reported). is_unread_call t.end) xs ys,
      count_both (λ (t : Reported). is_unread_value t.end) xs ys,
      count_both (λ (t : Reported). is_wrong_comment t.end) xs ys,
      total_both (λ (t : Reported). allowed_in t.end) xs ys,
      list_any-append (λ (t : Reported). is_not_text t.end) xs ys,
      list_any-append (λ (t : Reported). is_failed t.end) xs ys,
    ) refl

pub run_after : (is_whole : Bool) (language : LineLanguage) (comment : Option (Bor Text))
    (reporting : Reporting) (before between after : Option Text) (a b : LintTally)
    → IsRun is_whole language comment reporting before between a
    → IsRun is_whole language comment reporting between after b
    → IsRun is_whole language comment reporting before after (both a b)
run_after is_whole language comment reporting before between after a b first second = record {
  reported = first.reported ++ second.reported;
  each = All-append (IsReportOn is_whole language comment reporting) first.reported second.reported first.each
      second.each;
  found = ap (λ t. both t b) first.found ∙ ap (λ t. both (tally_of first.reported) t) second.found
      ∙ tally_both first.reported second.reported;
  written = subst (λ m. Appends before after m)
      (sym (flat_map-append (λ (t : Reported). t.message) first.reported second.reported))
      (Appends-trans before between after _ _ first.written second.written);
}

pub no_text : (is_whole : Bool) (language : LineLanguage) (comment : Option (Bor Text))
    (reporting : Reporting) (known : Option Text)
    → IsRun is_whole language comment reporting known known (tally_of [])
no_text is_whole language comment reporting known = record {
  reported = [];
  each = λ k d below. absurd (omega (arith, below));
  found = refl;
  written = Appends-nil known;
}

abbrev pub is_none : List Reported → Bool
is_none [] = true
is_none (t ∷ reported) = false

-- An added text is marked only if it is the first one.
marked_after : (is_first : Bool) (reported : List Reported) (t : Reported) → is_first ≡ is_none reported
    → t.is_marked ≡ (is_first && has_mark t.line) → AreMarked reported → AreMarked (reported ++ t ∷ [])
marked_after is_first [] t first is marks =
    (is ∙ ap (λ b. b && has_mark t.line) first, refl)
marked_after is_first (x ∷ reported) t first is marks = (
  marks.0,
  rw (
    list_any-append (λ (u : Reported). u.is_marked) reported (t ∷ []),
    marks.1,
    or_false t.is_marked,
  ) (is ∙ ap (λ b. b && has_mark t.line) first),
)

some_after : (reported : List Reported) (t : Reported) → is_none (reported ++ t ∷ []) ≡ false
some_after [] t = refl
some_after (x ∷ reported) t = refl

-- An added text is in the line after the others'.
placed_after : (file : Text) (first line : ℕ) (reported : List Reported) (t : Reported)
    → line ≡ first + length reported → IsPosition file line t.origin → ArePlaced file first reported
    → ArePlaced file first (reported ++ t ∷ [])
placed_after file first line [] t is at positions =
    let same : line ≡ first = omega (arith, is) in
    (subst (λ n. IsPosition file n t.origin) same at, tt)
placed_after file first line (x ∷ reported) t is at positions =
    let same : line ≡ first + 1 + length reported = omega (arith, is) in
    (positions.0, placed_after file (first + 1) line reported t same at positions.1)

one_longer : (line : ℕ) (reported : List Reported) (t : Reported) → line ≡ 1 + length reported
    → line + 1 ≡ 1 + length (reported ++ t ∷ [])
one_longer line reported t is = omega (arith, is, length-append reported (t ∷ []))

-- a run over the lines up to a rest, which begins in this line, the first one or a later one
pub record IsRunUpTo (is_first : Bool) (language : LineLanguage) (comment : Option (Bor Text)) (reporting : Reporting)
    (file : Text) (line : ℕ) (bytes rest before after : Option Text) (tally : LintTally) : Type 0 where
  pub run : IsRun false language comment reporting before after tally
  pub lines : AreLinesUpTo bytes (lines_of run.reported) rest
  pub open_end : IsFalse tally.failed
  pub first : is_first ≡ is_none run.reported
  pub marks : AreMarked run.reported
  pub number : line ≡ 1 + length run.reported
  pub positions : ArePlaced file 1 run.reported
  pub reasons : All (IsUnreadIfFailed reporting) run.reported

one_line : (t : Reported) → IsFalse (is_failed t.end) → lines_of (t ∷ []) ≡ t.line ∷ []
one_line t open_end = rw open_end refl

lines_more : (reported : List Reported) (t : Reported) → IsFalse (is_failed t.end) → lines_of reported ++ t.line
    ∷ [] ≡ lines_of (reported ++ t ∷ [])
lines_more reported t open_end =
    sym (flat_map-append lines_in reported (t ∷ [])
    ∙ ap (λ ls. lines_of reported ++ ls) (one_line t open_end))

pub next_reported : (is_first : Bool) (language : LineLanguage) (comment : Option (Bor Text)) (reporting : Reporting)
    (origin : Origin) (bytes rest before between after : Option Text) (has_failed : Bool)
    (old line text : Text) (end : TextEnd) → IsLineEnd language comment reporting text end → text
    ≡ without_newline line
    → IfSome bytes (λ xs. line ≡ old ++ take_through 10 xs) → old ≡ [] → DropsThrough bytes rest 10
    → 0 < length line → Notes (is_first && has_mark line) reporting.style origin before between
    → Says language reporting origin text end between after
    → IsNext is_first language comment reporting origin bytes rest has_failed before after (Some end)
next_reported is_first language comment reporting origin bytes rest before between after has_failed old line text end ended
    is read none left some noted said = (
      line,
      λ _. (
        subst (λ t. IsLineEnd language comment reporting t end) is ended,
        next_line bytes rest old line read none left some,
      ),
      notes_and_says (is_first && has_mark line) language reporting origin (text_in false line) end
          before between after noted
          (subst (λ t. Says language reporting origin t end between after) is said),
      λ fails. absurd (line_never_failed language comment reporting text end ended fails),
    )

-- Nothing is reported yet.
pub no_lines : (language : LineLanguage) (comment : Option (Bor Text)) (reporting : Reporting) (file : Text)
    (bytes known : Option Text)
    → IsRunUpTo true language comment reporting file 1 bytes bytes known known (tally_of [])
unfolding no_text
no_lines language comment reporting file bytes known = record {
  run = no_text false language comment reporting known;
  lines = no_line bytes;
  open_end = refl;
  first = refl;
  marks = tt;
  number = refl;
  positions = tt;
  reasons = All-nil (IsUnreadIfFailed reporting);
}

or_left : (a b : Bool) → (a || b) ≡ false → a ≡ false
or_left false b none = refl
or_left true b none = none

or_right : (a b : Bool) → (a || b) ≡ false → b ≡ false
or_right false b none = none
or_right true true none = none
or_right true false none = refl

pub line_after : (is_first : Bool) (language : LineLanguage) (comment : Option (Bor Text)) (reporting : Reporting)
    (origin : Origin) (file : Text) (line : ℕ)
    (bytes rest next before between after : Option Text) (has_failed : Bool) (tally : LintTally) (end : TextEnd)
    → IsPosition file line origin
    → IsRunUpTo is_first language comment reporting file line bytes rest before between tally
    → IsNext is_first language comment reporting origin rest next has_failed between after (Some end)
    → (both tally (tally_of_one end)).failed ≡ false
    → IsRunUpTo false language comment reporting file (line + 1) bytes next before after
    (both tally (tally_of_one end))
unfolding run_after one_text
line_after is_first language comment reporting origin file line bytes rest next before between after has_failed
    tally end at so_far more works =
    let open_end : IsFalse (is_failed end) = or_right tally.failed (is_failed end) works in
    let is_marked : Bool = is_first && has_mark more.0 in
    let t : Reported = record {
      line = more.0;
      origin = origin;
      is_marked = is_marked;
      end = end;
      message = more.2.0;
    } in
    let is = more.1 open_end in
    record {
      run = run_after false language comment reporting before between after tally
          (tally_of_one end) so_far.run
          (one_text false language comment reporting origin more.0 is_marked end between after (λ _. is.0)
          (and_right is_first (has_mark more.0)) more.2);
      lines = subst (λ ls. AreLinesUpTo bytes ls next) (lines_more so_far.run.reported t open_end)
          (up_to_more bytes rest next more.0 (lines_of so_far.run.reported) is.1 so_far.lines);
      open_end = works;
      first = sym (some_after so_far.run.reported t);
      marks = marked_after is_first so_far.run.reported t so_far.first refl so_far.marks;
      number = one_longer line so_far.run.reported t so_far.number;
      positions = placed_after file 1 line so_far.run.reported t so_far.number at so_far.positions;
      reasons = All-append (IsUnreadIfFailed reporting) so_far.run.reported (t ∷ []) so_far.reasons
          (only t (IsUnreadIfFailed reporting) (λ fails. absurd (false≢true (sym open_end ∙ fails))));
    }

appends_kept : (a b c : Option Text) (bs : Text) → Appends a b bs → Keeps b c → Appends a c bs
appends_kept None b c bs p q = tt
appends_kept (Some x) None c bs p q = absurd p
appends_kept (Some x) (Some y) None bs p q = absurd q
appends_kept (Some x) (Some y) (Some z) bs p q = q ∙ p

kept_after : (language : LineLanguage) (comment : Option (Bor Text)) (reporting : Reporting)
    (before between after : Option Text) (tally : LintTally)
    → IsRun false language comment reporting before between tally → Keeps between after
    → IsRun false language comment reporting before after tally
kept_after language comment reporting before between after tally run kept = record {
  reported = run.reported;
  each = run.each;
  found = run.found;
  written = appends_kept before between after (messages run.reported) run.written kept;
}

all_read : (bytes rest next : Option Text) (lines : List Text) → AreLinesUpTo bytes lines rest
    → IsReadUp rest next → IsReadUp bytes next
all_read None rest next lines so_far read = tt
all_read (Some bytes) None next lines so_far read = absurd so_far
all_read (Some bytes) (Some rest) next lines so_far read = read

-- At the end of the bytes none is read, and none is left.
pub read_none : (bytes rest : Option Text) → IsAtEnd bytes → DropsThrough bytes rest 10
    → IsReadUp bytes rest
read_none None rest end left = tt
read_none (Some bytes) rest end left =
    subst IsAtEnd (sym (left ∙ ap (λ b. Some (drop_through 10 b)) end)) refl

pub at_end : (is_first : Bool) (language : LineLanguage) (comment : Option (Bor Text)) (reporting : Reporting)
    (origin : Origin) (file : Text) (line : ℕ)
    (bytes rest before between after next : Option Text) (has_failed : Bool) (tally : LintTally)
    → IsRunUpTo is_first language comment reporting file line bytes rest before between tally
    → IsNext is_first language comment reporting origin rest next has_failed between after None
    → IsRunOver language comment reporting file bytes next has_failed before after tally
unfolding kept_after
at_end is_first language comment reporting origin file line bytes rest before between after next has_failed tally
    so_far end = record {
      run = kept_after language comment reporting before between after tally so_far.run end.2;
      lines = subst (λ f. AreLinesOf bytes (lines_of so_far.run.reported) f) (sym so_far.open_end)
          (all_lines bytes rest (lines_of so_far.run.reported) so_far.lines end.0);
      read = λ _. all_read bytes rest next (lines_of so_far.run.reported) so_far.lines end.1;
      marks = so_far.marks;
      positions = so_far.positions;
      reasons = so_far.reasons;
      cause = λ fails. absurd (false≢true (sym so_far.open_end ∙ fails));
    }

or_true : (b : Bool) → (b || true) ≡ true
or_true true = refl
or_true false = refl

or_other : (a b : Bool) → a ≡ false → (a || b) ≡ true → b ≡ true
or_other false b none one = one
or_other true b none one = absurd (true≢false none)

no_line_of : (t : Reported) → is_failed t.end ≡ true → lines_of (t ∷ []) ≡ []
no_line_of t failed = rw failed refl

-- A file that can't be read further ends the run.
failed_one : (reported : List Reported) (t : Reported) → is_failed t.end ≡ true → lines_of reported
    ≡ lines_of (reported ++ t ∷ [])
failed_one reported t failed =
    sym (flat_map-append lines_in reported (t ∷ [])
    ∙ ap (λ ls. lines_of reported ++ ls) (no_line_of t failed) ∙ append-nil (lines_of reported))

one_in : (t : Reported) → IsFalse (is_failed t.end) → length (lines_in t) ≡ 1
one_in t works = rw works refl

-- Each report is on a line, where no read has failed.
each_line : (reported : List Reported) → list_any (λ t. is_failed t.end) reported ≡ false
    → length (lines_of reported) ≡ length reported
each_line [] works = refl
each_line (t ∷ reported) works = omega (
  arith,
  length-append (lines_in t) (lines_of reported),
  one_in t (or_left (is_failed t.end) (list_any (λ u. is_failed u.end) reported) works),
  each_line reported (or_right (is_failed t.end) (list_any (λ u. is_failed u.end) reported) works),
)

counted_out : (number : ℕ) (reported : List Reported) (t : Reported) → is_failed t.end ≡ true
    → list_any (λ u. is_failed u.end) reported ≡ false → number ≡ 1 + length reported → 2 ^ 64 - 1 ≤ number
    → AreCountedOut (reported ++ t ∷ [])
counted_out number reported t failed works is many =
    subst (λ lines. 2 ^ 64 - 2 ≤ length lines) (failed_one reported t failed)
    (omega (arith, is, many, each_line reported works))

cause_of : (has_failed : Bool) (number : ℕ) (reported : List Reported) (t : Reported) → is_failed t.end ≡ true
    → list_any (λ u. is_failed u.end) reported ≡ false → number ≡ 1 + length reported
    → IsTrue has_failed ⊎ (2 ^ 64 - 1 ≤ number) → IsTrue has_failed ⊎ AreCountedOut (reported ++ t ∷ [])
cause_of has_failed number reported t failed works is (inl broken) = inl broken
cause_of has_failed number reported t failed works is (inr many) =
    inr (counted_out number reported t failed works is many)

pub run_fails : (is_first : Bool) (language : LineLanguage) (comment : Option (Bor Text)) (reporting : Reporting)
    (origin : Origin) (file : Text) (number : ℕ)
    (bytes rest left before between after : Option Text) (has_failed : Bool) (tally : LintTally)
    → IsPosition file number origin
    → IsRunUpTo is_first language comment reporting file number bytes rest before between tally
    → IsTrue has_failed ⊎ (2 ^ 64 - 1 ≤ number)
    → SaysUnread reporting.style origin.file between after
    → IsRunOver language comment reporting file bytes left has_failed before after
    (both tally (tally_of_one Failed))
unfolding run_after one_text unread_at
run_fails is_first language comment reporting origin file number bytes rest left before between after has_failed
    tally at so_far why said =
    let t : Reported = record {
      line = [];
      origin = origin;
      is_marked = false;
      end = Failed;
      message = said.0;
    } in
    let all = front_lines bytes rest (lines_of so_far.run.reported) so_far.lines in
    record {
      run = run_after false language comment reporting before between after tally
          (tally_of_one Failed) so_far.run
          (one_text false language comment reporting origin [] false Failed between after
          (λ e. absurd (true≢false e)) (λ e. absurd (false≢true e))
          (unread_at language reporting origin (text_in false []) between after said));
      lines = subst (λ f. AreLinesOf bytes (lines_of (so_far.run.reported ++ t ∷ [])) f)
          (sym (or_true tally.failed))
          (subst (λ ls. AreLinesOf bytes ls true) (failed_one so_far.run.reported t refl) all);
      read = λ works. absurd (true≢false (sym (or_true tally.failed) ∙ works));
      marks = marked_after is_first so_far.run.reported t so_far.first (sym (and_false is_first))
          so_far.marks;
      positions = placed_after file 1 number so_far.run.reported t so_far.number at so_far.positions;
      reasons = All-append (IsUnreadIfFailed reporting) so_far.run.reported (t ∷ []) so_far.reasons
          (only t (IsUnreadIfFailed reporting) (λ _. said.1));
      cause = λ _. cause_of has_failed number so_far.run.reported t refl
          (sym (ap (λ found. found.failed) so_far.run.found) ∙ so_far.open_end) so_far.number why;
    }

is_failed_alone : (end : TextEnd) → is_failed end ≡ true → end ≡ Failed
is_failed_alone PassedOver e = absurd (false≢true e)
is_failed_alone (Accepted found) e = absurd (false≢true e)
is_failed_alone (Converted traps) e = absurd (false≢true e)
is_failed_alone Refused e = absurd (false≢true e)
is_failed_alone NotText e = absurd (false≢true e)
is_failed_alone (Allowed left) e = absurd (false≢true e)
is_failed_alone UnreadCall e = absurd (false≢true e)
is_failed_alone UnreadValue e = absurd (false≢true e)
is_failed_alone WrongComment e = absurd (false≢true e)
is_failed_alone Failed e = refl

pub line_fails : (is_first : Bool) (language : LineLanguage) (comment : Option (Bor Text)) (reporting : Reporting)
    (origin : Origin) (file : Text) (line : ℕ)
    (bytes rest next before between after : Option Text) (has_failed : Bool) (tally : LintTally) (end : TextEnd)
    → IsPosition file line origin
    → IsRunUpTo is_first language comment reporting file line bytes rest before between tally
    → IsNext is_first language comment reporting origin rest next has_failed between after (Some end)
    → (both tally (tally_of_one end)).failed ≡ true
    → IsRunOver language comment reporting file bytes next has_failed before after
    (both tally (tally_of_one end))
line_fails is_first language comment reporting origin file line bytes rest next before between after has_failed
    tally end at so_far more fails =
    let is : end ≡ Failed = is_failed_alone end
    (or_other tally.failed (is_failed end) so_far.open_end fails) in
    subst (λ e. IsRunOver language comment reporting file bytes next has_failed before after
    (both tally (tally_of_one e))) (sym is)
    (run_fails is_first language comment reporting origin file line bytes rest next before between after
    has_failed tally at so_far (inl (more.3 (ap is_failed is)).0) (more.3 (ap is_failed is)).1)

-- One text, one file that can't be read, and a reader, as runs.
pub whole_text : (bytes : Option Text) (old read text : Text) → IfSome bytes (λ all. read ≡ old ++ all)
    → old ≡ [] → text ≡ read → IfSome bytes (λ all. text ≡ all)
whole_text None old read text all none same = tt
whole_text (Some xs) old read text all none same =
    same ∙ all ∙ ap (λ front. front ++ xs) none

pub read_to_end : (bytes rest : Option Text) → IsAtEnd rest → IsReadUp bytes rest
read_to_end None rest end = tt
read_to_end (Some xs) rest end = end

-- all bytes of a reader, read into an empty buffer
pub text_of_all : (language : LineLanguage) (comment : Option (Bor Text)) (reporting : Reporting)
    (origin : Origin) (file : Text) (bytes rest : Option Text) (old read text : Text) (before after : Option Text) (has_failed : Bool) (end : TextEnd)
    (tally : LintTally)
    → IfSome bytes (λ all. read ≡ old ++ all) → IsAtEnd rest → old ≡ [] → text ≡ read
    → IsEndOf language reporting text end
    → SaysOf (has_mark text) language reporting origin text end before after
    → tally ≡ tally_of_one end → IsPosition file 1 origin
    → IsRunOfAll language comment reporting file bytes rest has_failed before after tally
text_of_all language comment reporting origin file bytes rest old read text before after has_failed end tally all
    left none same ended said is at = record {
      reported = record {
        line = text;
        origin = origin;
        is_marked = has_mark text;
        end = end;
        message = said.0;
      };
      is_reported = record { end = λ _. ended; marked = λ m. m; message = said.1 };
      marked = refl;
      position = at;
      reason = λ fails. absurd (never_failed language reporting text end ended fails);
      whole = λ _. whole_text bytes old read text all none same;
      found = is;
      written = said.2;
      read = λ _. read_to_end bytes rest left;
      cause = λ fails. absurd (never_failed language reporting text end ended
          (sym (ap (λ t. t.failed) is) ∙ fails));
    }

pub none_of_all : (language : LineLanguage) (comment : Option (Bor Text)) (reporting : Reporting)
    (name : Bor Text) (bytes rest before after : Option Text) (has_failed : Bool) (end : TextEnd) (tally : LintTally)
    → end ≡ Failed → IsTrue has_failed → SaysUnread reporting.style name before after
    → tally ≡ tally_of_one end → IsRunOfAll language comment reporting name.now bytes rest has_failed before after tally
unfolding unread_at
none_of_all language comment reporting name bytes rest before after has_failed end tally failed broken said is =
    let noted : SaysOf false language reporting (position name 1) [] Failed before after =
    unread_at language reporting (position name 1) [] before after said in
    record {
      reported = record {
        line = [];
        origin = position name 1;
        is_marked = false;
        end = Failed;
        message = noted.0;
      };
      is_reported = record {
        end = λ e. absurd (true≢false e);
        marked = λ e. absurd (false≢true e);
        message = noted.1;
      };
      marked = refl;
      position = (refl, refl);
      reason = λ _. said.1;
      whole = λ e. absurd (true≢false e);
      found = is ∙ ap tally_of_one failed;
      written = noted.2;
      read = λ works. absurd (true≢false
          (sym (ap (λ t. t.failed) (is ∙ ap tally_of_one failed)) ∙ works));
      cause = λ _. broken;
    }

pub failed_run : (is_whole : Bool) (language : LineLanguage) (comment : Option (Bor Text))
    (reporting : Reporting) (name : Bor Text) (before after : Option Text) (end : TextEnd)
    (tally : LintTally) (failure : Failure) → end ≡ Failed
    → Appends before after (note_of reporting.style name failure)
    → tally ≡ tally_of_one end → IsRun is_whole language comment reporting before after tally
failed_run is_whole language comment reporting name before after end tally failure failed written is =
    subst (λ t. IsRun is_whole language comment reporting before after t)
    (sym (is ∙ ap tally_of_one failed))
    (one_text is_whole language comment reporting (position name 1) [] false Failed before after
    (λ e. absurd (true≢false e)) (λ e. absurd (false≢true e))
    (fails_at language reporting (position name 1) (text_in is_whole []) before after failure written))

pub unread_run : (is_whole : Bool) (language : LineLanguage) (comment : Option (Bor Text))
    (reporting : Reporting) (name : Bor Text) (before after : Option Text)
    (tally : LintTally) → SaysUnread reporting.style name before after
    → tally ≡ tally_of_one Failed → IsRun is_whole language comment reporting before after tally
unread_run is_whole language comment reporting name before after tally said is =
    failed_run is_whole language comment reporting name before after Failed tally (unread said.1.0) refl
    (subst (λ m. Appends before after m) said.1.1 said.2) is

pub whole_run : (is_whole : Bool) (language : LineLanguage) (comment : Option (Bor Text))
    (reporting : Reporting) (file : Text) (bytes rest before after : Option Text) (has_failed : Bool) (tally : LintTally)
    → is_whole ≡ true → IsRunOfAll language comment reporting file bytes rest has_failed before after tally
    → IsRun is_whole language comment reporting before after tally
whole_run is_whole language comment reporting file bytes rest before after has_failed tally is run =
    subst (λ w. IsRun w language comment reporting before after tally) (sym is) (record {
      reported = run.reported ∷ [];
      each = only run.reported (IsReportOn true language comment reporting) run.is_reported;
      found = run.found ∙ sym (tally_one run.reported);
      written = subst (λ m. Appends before after m) (sym (append-nil run.reported.message)) run.written;
    })

pub lines_run : (is_whole : Bool) (language : LineLanguage) (comment : Option (Bor Text))
    (reporting : Reporting) (file : Text) (bytes rest before after : Option Text) (has_failed : Bool) (tally : LintTally)
    → is_whole ≡ false → IsRunOver language comment reporting file bytes rest has_failed before after tally
    → IsRun is_whole language comment reporting before after tally
lines_run is_whole language comment reporting file bytes rest before after has_failed tally is over =
    subst (λ w. IsRun w language comment reporting before after tally) (sym is) over.run

-- The end of the run, in the terms of the code.
pub ends_here : (is_first : Bool) (language : LineLanguage) (comment : Option (Bor Text)) (reporting : Reporting)
    (name : Bor Text) (line : ℕ)
    (bytes rest next before between after : Option Text) (has_failed : Bool) (tally : LintTally) (o : Option TextEnd)
    → o ≡ None
    → IsRunUpTo is_first language comment reporting name.now line bytes rest before between tally
    → IsNext is_first language comment reporting (position name line) rest next has_failed between after o
    → IsRunOver language comment reporting name.now bytes next has_failed before after tally
ends_here is_first language comment reporting name line bytes rest next before between after has_failed tally o is
    so_far last =
    at_end is_first language comment reporting (position name line) name.now line bytes rest before between
    after next has_failed tally so_far
    (subst (λ x. IsNext is_first language comment reporting (position name line) rest next has_failed between after x)
    is last)

tally_is : (tally one all : LintTally) (end : TextEnd) → one ≡ tally_of_one end → all ≡ both tally one
    → all ≡ both tally (tally_of_one end)
tally_is tally one all end is sum = sum ∙ ap (λ t. both tally t) is

pub goes_on : (is_first : Bool) (language : LineLanguage) (comment : Option (Bor Text)) (reporting : Reporting)
    (name : Bor Text) (line : ℕ)
    (bytes rest next before between after : Option Text) (has_failed : Bool) (tally one all : LintTally)
    (o : Option TextEnd) (end : TextEnd) → o ≡ Some end
    → IsRunUpTo is_first language comment reporting name.now line bytes rest before between tally
    → IsNext is_first language comment reporting (position name line) rest next has_failed between after o
    → one ≡ tally_of_one end → all ≡ both tally one → all.failed ≡ false
    → IsRunUpTo false language comment reporting name.now (line + 1) bytes next before after all
goes_on is_first language comment reporting name line bytes rest next before between after has_failed tally one all
    o end is so_far more is_one sum works =
    let same = tally_is tally one all end is_one sum in
    subst (λ t. IsRunUpTo false language comment reporting name.now (line + 1) bytes next before after t)
    (sym same)
    (line_after is_first language comment reporting (position name line) name.now line bytes rest next
    before between after has_failed tally end (refl, refl) so_far
    (subst (λ x. IsNext is_first language comment reporting (position name line) rest next has_failed between after x)
    is more)
    (sym (ap (λ t. t.failed) same) ∙ works))

pub fails_here : (is_first : Bool) (language : LineLanguage) (comment : Option (Bor Text)) (reporting : Reporting)
    (name : Bor Text) (line : ℕ)
    (bytes rest next before between after : Option Text) (has_failed : Bool) (tally one all : LintTally)
    (o : Option TextEnd) (end : TextEnd) → o ≡ Some end
    → IsRunUpTo is_first language comment reporting name.now line bytes rest before between tally
    → IsNext is_first language comment reporting (position name line) rest next has_failed between after o
    → one ≡ tally_of_one end → all ≡ both tally one → all.failed ≡ true
    → IsRunOver language comment reporting name.now bytes next has_failed before after all
fails_here is_first language comment reporting name line bytes rest next before between after has_failed tally one
    all o end is so_far more is_one sum fails =
    let same = tally_is tally one all end is_one sum in
    subst (λ t. IsRunOver language comment reporting name.now bytes next has_failed before after t) (sym same)
    (line_fails is_first language comment reporting (position name line) name.now line bytes rest next
    before between after has_failed tally end (refl, refl) so_far
    (subst (λ x. IsNext is_first language comment reporting (position name line) rest next has_failed between after x)
    is more)
    (sym (ap (λ t. t.failed) same) ∙ fails))

pub fails_last : (is_first : Bool) (language : LineLanguage) (comment : Option (Bor Text)) (reporting : Reporting)
    (name : Bor Text) (line : ℕ)
    (bytes rest left before between after : Option Text) (has_failed : Bool) (tally one all : LintTally) (end : TextEnd)
    → end ≡ Failed
    → IsRunUpTo is_first language comment reporting name.now line bytes rest before between tally
    → 2 ^ 64 - 1 ≤ line → SaysUnread reporting.style name between after
    → one ≡ tally_of_one end → all ≡ both tally one
    → IsRunOver language comment reporting name.now bytes left has_failed before after all
fails_last is_first language comment reporting name line bytes rest left before between after has_failed tally one
    all end failed so_far many said is_one sum =
    subst (λ t. IsRunOver language comment reporting name.now bytes left has_failed before after t)
    (sym (tally_is tally one all end is_one sum ∙ ap (λ e. both tally (tally_of_one e)) failed))
    (run_fails is_first language comment reporting (position name line) name.now line bytes rest left before
    between after has_failed tally (refl, refl) so_far (inr many) said)

pub whole_on : (is_whole : Bool) (language : LineLanguage) (comment : Option (Bor Text))
    (reporting : Reporting) (file : Text) (bytes rest before after : Option Text) (has_failed : Bool) (tally : LintTally)
    → is_whole ≡ true → IsRunOfAll language comment reporting file bytes rest has_failed before after tally
    → IsRunOn is_whole language comment reporting file bytes rest has_failed before after tally
whole_on is_whole language comment reporting file bytes rest before after has_failed tally is run =
    subst (λ w. IsRunOn w language comment reporting file bytes rest has_failed before after tally) (sym is) run

pub lines_on : (is_whole : Bool) (language : LineLanguage) (comment : Option (Bor Text))
    (reporting : Reporting) (file : Text) (bytes rest before after : Option Text) (has_failed : Bool) (tally : LintTally)
    → is_whole ≡ false → IsRunOver language comment reporting file bytes rest has_failed before after tally
    → IsRunOn is_whole language comment reporting file bytes rest has_failed before after tally
lines_on is_whole language comment reporting file bytes rest before after has_failed tally is over =
    subst (λ w. IsRunOn w language comment reporting file bytes rest has_failed before after tally) (sym is) over

pub run_on : (is_whole : Bool) (language : LineLanguage) (comment : Option (Bor Text))
    (reporting : Reporting) (file : Text) (bytes rest before after : Option Text) (has_failed : Bool) (tally : LintTally)
    → IsRunOn is_whole language comment reporting file bytes rest has_failed before after tally
    → IsRun is_whole language comment reporting before after tally
run_on true language comment reporting file bytes rest before after has_failed tally run =
    whole_run true language comment reporting file bytes rest before after has_failed tally refl run
run_on false language comment reporting file bytes rest before after has_failed tally run =
    lines_run false language comment reporting file bytes rest before after has_failed tally refl run
