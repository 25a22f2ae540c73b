-- The answers to the page.
use Rattle.std.specs.Prelude.{ℕ, ◌≡◌, ◌≢◌, ◌≤◌, ◌<◌, ◌++◌, ◌==◌, ◌⊎◌, if◌then◌else◌, IsUtf8, Option, Some, None, Result, Ok, Err, drop, length, ⊤}
use Rattle.std.specs.declared.alloc.Global.{Global}
use Rattle.std.specs.declared.vec.Vec.{Vec}
use Rattle.timefd_parse.specs.Tree.{Text}
use Rattle.timefd_parse.specs.DescriptionVersion.TheVariants.{One, Two, Three}
use Rattle.timefd_date_moment.specs.declared.moment.Moment.{Moment}
use Rattle.timefd_parse.specs.LanguageType.{Language}
use Rattle.timefd_parse.specs.LanguageType.TheVariants.{Version, Strftime}
use Rattle.timefd_web.specs.declared.answer.ReportAnswer.{ReportAnswer}
use Rattle.timefd_web.specs.declared.answer.TheConstants.{REPORTED, NOT_UTF8, NO_MEMORY, NO_LANGUAGE, OUT_OF_RANGE}
use Rattle.timefd_web.specs.declared.fields.MomentParts.{MomentParts}
use Rattle.timefd_web.specs.declared.silence.Silence.{Silence}
use Rattle.timefd_web.specs.declared.silence.Silence.TheVariants.{NotUtf8, NoMemory, NoLanguage, OutOfRange}
use Rattle.timefd_web.specs.Moments.{IsMoment, range_fault}
use Rattle.timefd_web.specs.Readings.{Reads}
use Rattle.timefd_web.specs.Reports.{Reports}

-- the language with a number, if there is one
abbrev pub language_of : ℕ → Option Language
language_of number =
    if number == 1 then Some (Version One)
    else if number == 2 then Some (Version Two)
    else if number == 3 then Some (Version Three)
    else if number == 4 then Some Strftime
    else None

-- The object says what the bytes are as a text of the language with this number, and what they write of the
-- moment with these numbers.
pub record ReportsOf (number : ℕ) (bytes : Text) (fields : MomentParts) (object : Text) : Type 0 where
  pub language : Language
  pub moment : Moment
  pub is_language : language_of number ≡ Some language
  pub is_moment : IsMoment fields moment
  pub reports : Reports language moment bytes object

-- why there is no report
abbrev pub IsSilence : ℕ → Text → MomentParts → Silence → Type 0
IsSilence number bytes fields NotUtf8 = ¬ (IsUtf8 bytes)
IsSilence number bytes fields NoMemory = ⊤
IsSilence number bytes fields NoLanguage = language_of number ≡ None
IsSilence number bytes fields OutOfRange = range_fault fields ≢ None

-- the report, or why there is none
abbrev pub IsSaid : ℕ → Text → MomentParts → Result (Vec ℕ Global) Silence → Type 0
IsSaid number bytes fields (Ok object) = ReportsOf number bytes fields object.items
IsSaid number bytes fields (Err silence) = IsSilence number bytes fields silence

abbrev pub status_of : Silence → ℕ
status_of NotUtf8 = NOT_UTF8
status_of NoMemory = NO_MEMORY
status_of NoLanguage = NO_LANGUAGE
status_of OutOfRange = OUT_OF_RANGE

-- The buffer begins with the object if all of it fits, and is otherwise unchanged.
pub record IsGiven (object before after : Text) (answer : ReportAnswer) : Type 0 where
  pub status : answer.status ≡ REPORTED
  pub len : answer.len ≡ length object
  pub whole : length object ≤ length before → after ≡ object ++ drop (length object) before
  pub too_short : length before < length object → after ≡ before

-- There is no report for this reason, and the buffer is unchanged.
pub record IsSilent (silence : Silence) (before after : Text) (answer : ReportAnswer) : Type 0 where
  pub status : answer.status ≡ status_of silence
  pub len : answer.len ≡ 0
  pub kept : after ≡ before

-- The report is in the buffer, or the status says why there is none.
abbrev pub IsAnswer : Result (Vec ℕ Global) Silence → Text → Text → ReportAnswer → Type 0
IsAnswer (Ok object) before after answer = IsGiven object.items before after answer
IsAnswer (Err silence) before after answer = IsSilent silence before after answer

-- The answer about the bytes: the report, or why there is none.
abbrev pub Answers : ℕ → Text → MomentParts → Text → Text → ReportAnswer → Type 0
Answers number bytes fields before after answer =
    (said : Result (Vec ℕ Global) Silence) × IsSaid number bytes fields said
    × IsAnswer said before after answer

-- Texts that are read.

-- The object says what the text shows by a description in the language with this number.
pub record ReadsOf (number : ℕ) (description text object : Text) : Type 0 where
  pub language : Language
  pub is_language : language_of number ≡ Some language
  pub reads : Reads language description text object

-- why there is no reading
abbrev pub IsReadSilence : ℕ → Text → Text → Silence → Type 0
IsReadSilence number description text NotUtf8 = ¬ (IsUtf8 description) ⊎ ¬ (IsUtf8 text)
IsReadSilence number description text NoMemory = ⊤
IsReadSilence number description text NoLanguage = language_of number ≡ None
IsReadSilence number description text OutOfRange = ⊥

-- what is read, or why there is no reading
abbrev pub IsReadSaid : ℕ → Text → Text → Result (Vec ℕ Global) Silence → Type 0
IsReadSaid number description text (Ok object) = ReadsOf number description text object.items
IsReadSaid number description text (Err silence) = IsReadSilence number description text silence

-- The answer about the text and the description: what is read, or why there is no reading.
abbrev pub ReadAnswers : ℕ → Text → Text → Text → Text → ReportAnswer → Type 0
ReadAnswers number description text before after answer =
    (said : Result (Vec ℕ Global) Silence) × IsReadSaid number description text said
    × IsAnswer said before after answer
