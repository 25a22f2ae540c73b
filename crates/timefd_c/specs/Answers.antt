-- The answers to C.
use Rattle.std.specs.Prelude.{ℕ, ◌≡◌, ◌≢◌, ◌≤◌, ◌↔◌, [], List, Option, Some, None, IsFalse, IsSome, IsUtf8}
use Rattle.std.specs.Str.{IsCharBoundary}
use Rattle.timefd_lang_component.specs.Tree.{Text, Tree}
use Rattle.timefd_parse.specs.Faults.{Fault}
use Rattle.timefd_parse.specs.BorrowedParseError.{BorrowedParseError}
use Rattle.timefd_parse.specs.BorrowedParseError.TheVariants as errors
use Rattle.timefd_language.specs.declared.description_version.Language.{Language}
use Rattle.timefd_parse.specs.Language.{takes_memory}
use Rattle.timefd_parse.specs.Sentences.{sentence}
use Rattle.timefd_c.specs.declared.answer.TheConstants.{ACCEPTED, REFUSED, NOT_UTF8, NO_MEMORY, UNKNOWN_KIND}
use Rattle.timefd_c.specs.declared.answer.TextAnswer.{TextAnswer}
use Rattle.timefd_c.specs.declared.verdict.TextVerdict.{TextVerdict}
use Rattle.timefd_c.specs.declared.verdict.TextVerdict.TheVariants.{Accepted, Refused, NotUtf8, NoMemory, UnknownKind}
use Rattle.timefd_language.specs.Grammar.{nesting_limit}
use Rattle.timefd_c.specs.Languages.{SpellsWithin, FaultWithin, amount}

-- The bytes are a text that spells the list in the language, with at most `limit` nested descriptions
-- around one another.
abbrev pub DescribesWithin : Option Language → ℕ → Text → List Tree → Type 0
DescribesWithin language limit bytes list = IsUtf8 bytes × SpellsWithin language limit bytes list

-- The bytes are a text to which the rules of the language assign the fault, with at most `limit` nested
-- descriptions around one another.
abbrev pub HasFaultWithin : Option Language → ℕ → Text → Fault → Type 0
HasFaultWithin language limit bytes f = IsUtf8 bytes × FaultWithin language limit bytes f

-- what the bytes describe, and which fault they have, with the greatest limit on nesting
abbrev pub Describes : Option Language → Text → List Tree → Type 0
Describes language bytes list = DescribesWithin language nesting_limit bytes list

abbrev pub HasFault : Option Language → Text → Fault → Type 0
HasFault language bytes f = HasFaultWithin language nesting_limit bytes f

-- The status and the value say what the bytes are in the language, if there is one, with at most `limit`
-- nested descriptions around one another. `Is x` says that the bytes are a text without a fault and mean
-- `x`, and `Reported x` that the answer reports this.
pub record IsAnswer (language : Option Language) (limit : ℕ) (bytes : Text) (X : Type 0)
    (Is Reported : X → Type 0) (status value : ℕ) : Type 0 where
  -- What the answer says is true.
  pub accepted : status ≡ ACCEPTED → (x : X) × Is x × Reported x
  pub refused : status ≡ REFUSED
      → (f : Fault) × HasFaultWithin language limit bytes f × (value ≡ f.index)
  -- What is true is answered: a text without a fault unless memory runs out, and a fault always.
  pub spelled : (x : X) → Is x → status ≢ NO_MEMORY → (status ≡ ACCEPTED) × Reported x
  pub faulty : (f : Fault) → HasFaultWithin language limit bytes f
      → (status ≡ REFUSED) × (value ≡ f.index)
  -- The index of a fault is at most the length of the text, and is between two characters.
  pub position : status ≡ REFUSED → IsCharBoundary bytes value
  -- These take no memory.
  pub unknown_kind : status ≡ UNKNOWN_KIND ↔ (language ≡ None)
  pub not_utf8 : status ≡ NOT_UTF8 ↔ (IsSome language × ¬ (IsUtf8 bytes))
  pub empty : IsSome language → bytes ≡ [] → status ≡ ACCEPTED
  -- There are no other statuses, and the value is 0 if there is nothing to count.
  pub known : status ≤ UNKNOWN_KIND
  pub no_value : status ≢ ACCEPTED → status ≢ REFUSED → value ≡ 0

-- The value counts what the list has.
abbrev pub Counts : Option Language → TextAnswer → List Tree → Type 0
Counts language answer list = answer.value ≡ amount language list

-- The answer says what the bytes are in the language, if there is one, and how much they hold.
pub record Judges (language : Option Language) (bytes : Text) (answer : TextAnswer) : Type 0 where
  pub answers : IsAnswer language nesting_limit bytes (List Tree) (Describes language bytes)
      (Counts language answer) answer.status answer.value
  -- Versions 1 and 2 and strftime take no memory.
  pub memory : (l : Language) → language ≡ Some l → IsFalse (takes_memory l)
      → answer.status ≢ NO_MEMORY

-- If the answer is a refusal, this holds for the sentence of the fault.
abbrev pub IfRefused : Option Language → Text → TextAnswer → (Text → Type 0) → Type 0
IfRefused language bytes answer P =
    answer.status ≡ REFUSED → (f : Fault) → HasFault language bytes f → P (sentence f)

-- the answer with this status and value, without a sentence
abbrev pub plain : ℕ → ℕ → TextAnswer
plain status value = record { status = status; value = value; sentence_len = 0; written = 0 }

abbrev pub answer_of : TextVerdict → TextAnswer
answer_of (Accepted value) = plain ACCEPTED value
answer_of (Refused f) = plain REFUSED f.start
answer_of NotUtf8 = plain NOT_UTF8 0
answer_of NoMemory = plain NO_MEMORY 0
answer_of UnknownKind = plain UNKNOWN_KIND 0

-- the answer for a text that was not converted because of this error
abbrev pub error_answer : BorrowedParseError → TextAnswer
error_answer (errors.Invalid f) = plain REFUSED f.start
error_answer (errors.Memory e) = plain NO_MEMORY 0
