-- The answer to C about a format of another language that is converted to version 3.
use Rattle.std.specs.Prelude.{ℕ, ◌≡◌, ◌≤◌, ◌<◌, ◌++◌, ◌==◌, if◌then◌else◌, Option, Some, None, Result, Ok, Err, false, length, drop, string_bytes, IsUtf8}
use Rattle.timefd_lang_component.specs.Tree.{Text}
use Rattle.timefd_lang_dialect.specs.Answers.{IsConverted, IsRefusedFor}
use Rattle.timefd_lang_dialect.specs.Items.{IsSpelledBy}
use Rattle.timefd_lang_dialect.specs.declared.dialect.Dialect.{Dialect}
use Rattle.timefd_lang_dialect.specs.declared.dialect.Dialect.TheVariants as dialects
use Rattle.timefd_lang_dialect.specs.declared.error.DialectError.{DialectError}
use Rattle.timefd_lang_dialect.specs.declared.error.DialectError.TheVariants.{Refused, Memory}
use Rattle.timefd_lang_dialect.specs.declared.error.RefusedPart.{RefusedPart}
use Rattle.timefd_lang_dialect.specs.declared.reading.Converted.{Converted}
use Rattle.timefd_c.specs.declared.answer.TheConstants.{ACCEPTED, REFUSED, NOT_UTF8, NO_MEMORY, UNKNOWN_KIND}
use Rattle.timefd_c.specs.declared.convert_answer.ConvertAnswer.{ConvertAnswer}
use Rattle.timefd_c.specs.FormatReasons.{reason_number}

-- The dialect with a number, if there is one. No dialect has the number of a language of `time`.
abbrev pub dialect_of : ℕ → Option Dialect
dialect_of number =
    if number == 101 then Some dialects.Python
    else if number == 102 then Some dialects.C
    else if number == 103 then Some dialects.Gnu
    else if number == 104 then Some dialects.Chrono
    else if number == 105 then Some dialects.Jiff
    else if number == 106 then Some dialects.Ruby
    else if number == 107 then Some dialects.Java
    else if number == 108 then Some dialects.Go
    else if number == 109 then Some dialects.Moment
    else None

-- the answer with this status and value, if nothing is written
abbrev pub silent : ℕ → ℕ → ConvertAnswer
silent status value =
    record {
      status = status;
      reason = 0;
      value = value;
      written = 0;
      first_year = 0;
      whole_minutes = false;
    }

-- the answer if a part of the format has no text of version 3
abbrev pub refused_answer : RefusedPart → ConvertAnswer
refused_answer refusal =
    record (silent REFUSED refusal.index) { reason = reason_number refusal.reason }

-- the answer if the format has a text, of which `written` bytes were written
abbrev pub converted_answer : Converted → ℕ → ConvertAnswer
converted_answer converted written =
    record (silent ACCEPTED (length (string_bytes converted.text))) {
      written = written;
      first_year = converted.limits.first_year;
      whole_minutes = converted.limits.whole_minutes;
    }

-- A buffer with room for the whole text begins with it, and keeps its other bytes. Any other buffer is
-- unchanged.
pub record IsWrittenWhole (text before after : Text) (written : ℕ) : Type 0 where
  pub whole : length text ≤ length before
      → (after ≡ text ++ drop (length text) before) × (written ≡ length text)
  pub too_short : length before < length text → (after ≡ before) × (written ≡ 0)

-- The answer is the wanted one, and the buffer is unchanged.
abbrev pub IsSilent : ConvertAnswer → Text → Text → ConvertAnswer → Type 0
IsSilent wanted before after answer = (answer ≡ wanted) × (after ≡ before)

-- The answer reports the result of the conversion.
abbrev pub Gives : Result Converted DialectError → Text → Text → ConvertAnswer → Type 0
Gives (Ok converted) before after answer =
    (answer ≡ converted_answer converted answer.written)
    × IsWrittenWhole (string_bytes converted.text) before after answer.written
Gives (Err (Refused refusal)) before after answer =
    IsSilent (refused_answer refusal) before after answer
Gives (Err (Memory e)) before after answer = IsSilent (silent NO_MEMORY 0) before after answer

-- The result of a conversion is the text that the format means, with its items, or why it has none.
abbrev pub IsFound : Dialect → Text → Result Converted DialectError → Type 0
IsFound dialect format (Ok converted) =
    IsConverted dialect format converted × IsSpelledBy dialect format (string_bytes converted.text)
IsFound dialect format (Err e) = IsRefusedFor dialect format e

-- The answer says what a format of the dialect is converted to, or why it is not.
pub record ConvertsBytes (dialect : Dialect) (bytes before after : Text) (answer : ConvertAnswer)
    : Type 0 where
  pub not_utf8 : ¬ (IsUtf8 bytes) → IsSilent (silent NOT_UTF8 0) before after answer
  pub text : IsUtf8 bytes → (found : Result Converted DialectError) × IsFound dialect bytes found
      × Gives found before after answer

-- The answer if a dialect has the number, or if none has.
abbrev pub ConvertsFormat : Option Dialect → Text → Text → Text → ConvertAnswer → Type 0
ConvertsFormat (Some dialect) bytes before after answer =
    ConvertsBytes dialect bytes before after answer
ConvertsFormat None bytes before after answer =
    IsSilent (silent UNKNOWN_KIND 0) before after answer
