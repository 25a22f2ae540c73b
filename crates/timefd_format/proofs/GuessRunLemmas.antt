-- Texts whose description is looked for, and the lines that they are.
use Rattle.std.proofs.Common.{true≢false, ℕ, ◌≡◌, ◌≢◌, ◌==◌, ◌⊎◌, inl, inr, Bool, true, false, List, [], ◌∷◌, ◌++◌, length, map, Option, Some, None, refl, sym, ap, subst, ◌∙◌, arith, eqb-true, append_assoc, append-nil}
use Rattle.std.proofs.lemmas.List.{map-append}
use Rattle.std.specs.Io.KnownBytes.{Appends, IsAtEnd, Keeps}
use Rattle.std.specs.declared.alloc.Global.{Global}
use Rattle.std.specs.declared.string.String.{String}
use denote.Ref.{Bor}
use Rattle.timefd_lang_component.specs.Tree.{Text}
use Rattle.timefd_lint_diagnosis.specs.Words.{texts}
use Rattle.timefd_description.specs.Guessing.Found as guess
use Rattle.timefd_lint_rewrite.specs.Lines.{AreLinesOf, IsNextLine, without_newline}
use Rattle.timefd_bin_streams.specs.Words.{borrowed_bytes, bytes_of}
use Rattle.timefd_format.specs.declared.guess_run.GuessEnd.{GuessEnd}
use Rattle.timefd_format.specs.declared.guess_run.GuessEnd.TheVariants as ends
use Rattle.timefd_format.specs.declared.lines.LineRead.{LineRead}
use Rattle.timefd_format.specs.declared.lines.LineRead.TheVariants.{Line, End}
use Rattle.timefd_format.specs.Guessed.{WritesGuesses, guess_lines}
use Rattle.timefd_format.specs.Written.{IsRead}
use Rattle.timefd_format.specs.GuessRuns.{AreTextsOf, FailsOnlyIf, GuessesOver, IsFlushedEnd, IsGuessRun, IsInputGuess, IsLineEnd, IsUnreadEnd}
use Rattle.timefd_format.proofs.RunLemmas.{more_lines, no_line_left, no_line_read}

same_texts : (words : List (Bor Text)) → guess.texts words ≡ texts words
same_texts [] = refl
same_texts (word ∷ words) = ap (λ ws. word.now ∷ ws) (same_texts words)

pub no_texts : (words : List (Bor Text)) → (length words == 0) ≡ true → texts words ≡ []
no_texts [] none = refl
no_texts (word ∷ words) none = absurd (omega (arith, eqb-true (length (word ∷ words)) 0 none))

some_texts : (words : List (Bor Text)) → (length words == 0) ≡ false → texts words ≢ []
some_texts [] some is = absurd (true≢false some)
some_texts (word ∷ words) some is = absurd (omega (arith, ap length is))

appends_kept : (before mid after : Option Text) (text : Text) → Appends before mid text
    → Keeps mid after → Appends before after text
appends_kept None mid after text appended kept = tt
appends_kept (Some xs) None after text appended kept = absurd appended
appends_kept (Some xs) (Some ys) None text appended kept = absurd kept
appends_kept (Some xs) (Some ys) (Some zs) text appended kept = kept ∙ appended

writes_kept : (words : List (Bor Text)) (before mid after : Option Text) (found is : Bool)
    → found ≡ is → WritesGuesses (guess.texts words) before mid found → Keeps mid after
    → WritesGuesses (texts words) before after is
writes_kept words before mid after found is same writes kept =
    subst (λ b. WritesGuesses (texts words) before after b) same
    (subst (λ ts. WritesGuesses ts before after found) (same_texts words)
    (writes.0, writes.1, appends_kept before mid after (guess_lines writes.0) writes.2 kept, writes.3))

-- What was written of some words is passed on.
pub flushed : (words : List (Bor Text)) (before mid after : Option Text) (found : Bool)
    (end : GuessEnd) → (length words == 0) ≡ false
    → WritesGuesses (guess.texts words) before mid found → IsFlushedEnd found mid after end
    → GuessesOver (texts words) before after end
flushed words before mid after found ends.Found some writes is =
    (some_texts words some, writes_kept words before mid after found true is.0 writes is.1)
flushed words before mid after found ends.NotFound some writes is =
    (some_texts words some, writes_kept words before mid after found false is.0 writes is.1)
flushed words before mid after found ends.NoText some writes is = absurd is
flushed words before mid after found ends.NotText some writes is = absurd is
flushed words before mid after found ends.Memory some writes is = absurd is
flushed words before mid after found ends.Read some writes is = absurd is
flushed words before mid after found ends.Write some writes is = tt

-- The words are the lines, each borrowed.
pub of_lines : (items slice : List (Bor Text)) (lines : List Text) (before after : Option Text)
    (end : GuessEnd) → borrowed_bytes items ≡ lines → slice ≡ items
    → GuessesOver (texts slice) before after end → GuessesOver lines before after end
of_lines items slice lines before after end are same over =
    subst (λ ts. GuessesOver ts before after end) (ap texts same ∙ are) over

pub of_words : (words : List (Bor Text)) (input before after : Option Text) (end : GuessEnd)
    → (length words == 0) ≡ false → GuessesOver (texts words) before after end
    → IsGuessRun (texts words) input before after end
of_words [] input before after end some over = absurd (true≢false some)
of_words (word ∷ words) input before after end some over = over

pub of_input : (words : List (Bor Text)) (input before after : Option Text) (end : GuessEnd)
    → (length words == 0) ≡ true → IsInputGuess input before after end
    → IsGuessRun (texts words) input before after end
of_input [] input before after end none over = over
of_input (word ∷ words) input before after end none over =
    absurd (omega (arith, eqb-true (length (word ∷ words)) 0 none))

-- The lines were read.
pub of_read : (words : List (Bor Text)) (input before after : Option Text) (end : GuessEnd)
    (lines slice : List (String Global)) → (length words == 0) ≡ true
    → AreTextsOf input (bytes_of lines) → slice ≡ lines
    → GuessesOver (bytes_of slice) before after end → IsGuessRun (texts words) input before after end
of_read words input before after end lines slice none are same over =
    of_input words input before after end none
    (inl (bytes_of lines, are, subst (λ ls. GuessesOver (bytes_of ls) before after end) same over))

-- The lines so far and those that are left are all lines.
abbrev pub ReadsOn : Option Text → Option Text → List Text → Type 0
ReadsOn bytes left read =
    (lines : List Text) × (read ≡ map without_newline lines)
    × ((more : List Text) (failed : Bool) → AreLinesOf left more failed → AreLinesOf bytes (lines ++ more) failed)

pub nothing_read : (bytes : Option Text) → ReadsOn bytes bytes []
nothing_read bytes = ([], refl, λ more failed are. are)

-- One more line is read.
pub one_more : (bytes left rest : Option Text) (read new : List Text) (line text : Text) (r : LineRead)
    → ReadsOn bytes left read → IsRead left rest line r → r ≡ Line → text ≡ line
    → new ≡ read ++ without_newline text ∷ [] → ReadsOn bytes rest new
one_more bytes left rest read new line text r so_far next is_line same is = (
  so_far.0 ++ line ∷ [],
  is ∙ ap (λ l. read ++ without_newline l ∷ []) same
      ∙ ap (λ ts. ts ++ without_newline line ∷ []) so_far.1
      ∙ sym (map-append without_newline so_far.0 (line ∷ [])),
  λ more failed are. subst (λ ls. AreLinesOf bytes ls failed)
      (sym (append_assoc so_far.0 (line ∷ []) more))
      (so_far.2 (line ∷ more) failed
      (more_lines left rest line more failed (subst (λ x. IsRead left rest line x) is_line next) are)),
)

pub all_read : (bytes left rest : Option Text) (read : List Text) (line : Text) (r : LineRead)
    → ReadsOn bytes left read → IsRead left rest line r → r ≡ End → AreTextsOf bytes read
all_read bytes left rest read line r so_far end is_end = (
  so_far.0,
  subst (λ ls. AreLinesOf bytes ls false) (append-nil so_far.0)
      (so_far.2 [] false (no_line_left left (subst (λ x. IsRead left rest line x) is_end end))),
  so_far.1,
)

unread : (bytes left rest : Option Text) (read : List Text) (line : Text) (end : GuessEnd)
    → ReadsOn bytes left read → IsNextLine left line rest → IsLineEnd line end → IsUnreadEnd bytes end
unread bytes left rest read line ends.Found so_far next is = absurd is
unread bytes left rest read line ends.NotFound so_far next is = absurd is
unread bytes left rest read line ends.NoText so_far next is = absurd is
unread bytes left rest read line ends.NotText so_far next is = (
  so_far.0,
  line,
  so_far.2 (line ∷ []) true (more_lines left rest line [] true next (no_line_read rest)),
  is,
)
unread bytes left rest read line ends.Memory so_far next is = tt
unread bytes left rest read line ends.Read so_far next is = absurd is
unread bytes left rest read line ends.Write so_far next is = absurd is

-- A line of them can't be a text.
pub line_refused : (bytes left rest : Option Text) (read : List Text) (line text : Text) (end : GuessEnd)
    (r : LineRead) → ReadsOn bytes left read → IsRead left rest line r → r ≡ Line → text ≡ line
    → IsLineEnd text end → IsUnreadEnd bytes end
line_refused bytes left rest read line text end r so_far next is_line same is =
    unread bytes left rest read line end so_far (subst (λ x. IsRead left rest line x) is_line next)
    (subst (λ l. IsLineEnd l end) same is)

-- What is said of a run that reads no input, or has read it.

pub output_alone : (input output : Bool) (end : GuessEnd) → FailsOnlyIf false output end
    → FailsOnlyIf input output end
output_alone input output ends.Found fails = tt
output_alone input output ends.NotFound fails = tt
output_alone input output ends.NoText fails = tt
output_alone input output ends.NotText fails = tt
output_alone input output ends.Memory fails = tt
output_alone input output ends.Read fails = absurd (true≢false (sym fails))
output_alone input output ends.Write fails = fails

pub input_alone : (input output : Bool) (end : GuessEnd) → FailsOnlyIf input false end
    → FailsOnlyIf input output end
input_alone input output ends.Found fails = tt
input_alone input output ends.NotFound fails = tt
input_alone input output ends.NoText fails = tt
input_alone input output ends.NotText fails = tt
input_alone input output ends.Memory fails = tt
input_alone input output ends.Read fails = fails
input_alone input output ends.Write fails = absurd (true≢false (sym fails))
