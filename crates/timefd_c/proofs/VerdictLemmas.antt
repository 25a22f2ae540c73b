-- The answer says what the verdict says.
use Rattle.std.proofs.Common.{ℕ, ◌≡◌, ◌≢◌, List, [], Option, Some, None, IsFalse, IsSome, IsUtf8, refl, subst, arith}
use Rattle.timefd_parse.specs.Faults.{Fault}
use Rattle.timefd_parse.specs.BorrowedFaults.{HasShortWords, to_borrowed_fault}
use Rattle.timefd_parse.specs.BorrowedFault.{BorrowedFault}
use Rattle.timefd_parse.specs.RuleKinds.{rule_kind}
use Rattle.timefd_language.specs.Grammar.{nesting_limit}
use Rattle.timefd_parse.proofs.AmountLemmas.{short_in}
use Rattle.timefd_lang_component.specs.Tree.{Text, Tree}
use Rattle.timefd_language.specs.declared.description_version.Language.{Language}
use Rattle.timefd_parse.specs.Language.{takes_memory}
use Rattle.timefd_c.specs.declared.verdict.TextVerdict.{TextVerdict}
use Rattle.timefd_c.specs.declared.verdict.TextVerdict.TheVariants.{Accepted, Refused, NotUtf8, NoMemory, UnknownKind}
use Rattle.timefd_c.specs.Answers.{Judges, Describes, Counts, answer_of, plain}
use Rattle.timefd_c.specs.declared.answer.TheConstants.{ACCEPTED, REFUSED, NOT_UTF8, NO_MEMORY, UNKNOWN_KIND}
use Rattle.timefd_c.proofs.AnswerLemmas as answers
use Rattle.timefd_c.specs.Languages.{SpellsIn, FaultIn, amount}
use Rattle.timefd_c.specs.Verdicts.{Says, Accepts, Refuses, IsAccepted}

-- for a refused text, whatever was written of its sentence
pub refusal : (language : Option Language) (bytes : Text) (f : BorrowedFault) (len written : ℕ)
    → Says language bytes (Refused f)
    → ((list : List Tree) → IsUtf8 bytes → SpellsIn language bytes list → ⊥)
    → ((g : Fault) → IsUtf8 bytes → FaultIn language bytes g → to_borrowed_fault f ≡ g)
    → (language ≡ None → ◌≡◌ {A = TextVerdict} (Refused f) UnknownKind)
    → (IsSome language → bytes ≡ [] → ⊥)
    → Judges language bytes
    (record { status = REFUSED; value = f.start; sentence_len = len; written = written })
refusal language bytes f len written says spelled faulty no_language empty = record {
  answers = answers.refusing language nesting_limit bytes (List Tree) (Describes language bytes)
      (Counts language
      (record { status = REFUSED; value = f.start; sentence_len = len; written = written }))
      (λ none. let is : Refused f ≡ UnknownKind = no_language none in absurd cc)
      (to_borrowed_fault f) says (λ list d. spelled list d.0 d.1) (λ g h. faulty g h.0 h.1) empty;
  memory = λ l is lax status. omega (arith, status);
}

pub judged : (language : Option Language) (bytes : Text) (v : TextVerdict) → Says language bytes v
    → ((list : List Tree) → IsUtf8 bytes → SpellsIn language bytes list
    → Accepts (amount language list) v)
    → ((f : Fault) → IsUtf8 bytes → FaultIn language bytes f → Refuses f v)
    → (IsSome language → ¬ (IsUtf8 bytes) → v ≡ NotUtf8) → (language ≡ None → v ≡ UnknownKind)
    → (IsSome language → bytes ≡ [] → IsAccepted v)
    → ((l : Language) → language ≡ Some l → IsFalse (takes_memory l) → v ≢ NoMemory)
    → Judges language bytes (answer_of v)
judged language bytes (Accepted value) says spelled faulty no_text no_language empty memory =
    record {
      answers = answers.accepting language nesting_limit bytes (List Tree) (Describes language bytes)
          (Counts language (plain ACCEPTED value))
          (λ none. let is : Accepted value ≡ UnknownKind = no_language none in absurd cc)
          value says.0 says.1.0 (says.0, says.1.1) (λ list d. spelled list d.0 d.1)
          (λ f h. faulty f h.0 h.1);
      memory = λ l is lax status. omega (arith, status);
    }
judged language bytes (Refused f) says spelled faulty no_text no_language empty memory =
    refusal language bytes f 0 0 says spelled faulty no_language empty
judged language bytes NotUtf8 says spelled faulty no_text no_language empty memory = record {
  answers = answers.no_text language nesting_limit bytes (List Tree) (Describes language bytes)
      (Counts language (plain NOT_UTF8 0))
      (λ none. let is : NotUtf8 ≡ UnknownKind = no_language none in absurd cc)
      says.0 says.1 (λ list d. d.0);
  memory = λ l is lax status. omega (arith, status);
}
judged language bytes NoMemory says spelled faulty no_text no_language empty memory = record {
  answers = answers.unread language nesting_limit bytes (List Tree) (Describes language bytes)
      (Counts language (plain NO_MEMORY 0))
      (λ none. let is : NoMemory ≡ UnknownKind = no_language none in absurd cc)
      (λ some invalid. let is : NoMemory ≡ NotUtf8 = no_text some invalid in absurd cc)
      (λ f h. faulty f h.0 h.1) empty;
  memory = λ l is lax status. memory l is lax refl;
}
judged language bytes UnknownKind says spelled faulty no_text no_language empty memory = record {
  answers = answers.no_language language nesting_limit bytes (List Tree) (Describes language bytes)
      (Counts language (plain UNKNOWN_KIND 0)) says (λ list d. spelled list d.0 d.1);
  memory = λ l is lax status. omega (arith, status);
}

refused_same : (f g : BorrowedFault) → ◌≡◌ {A = TextVerdict} (Refused f) (Refused g) → f ≡ g
refused_same f g same = cc

-- A fault that was found has short words, so its sentence can be written.
pub refused_short : (language : Option Language) (bytes : Text) (v : TextVerdict) (f : BorrowedFault)
    → v ≡ Refused f → Says language bytes v → HasShortWords (rule_kind f.rule)
refused_short (Some language) bytes (Refused g) f same says =
    subst (λ (b : BorrowedFault). HasShortWords (rule_kind b.rule)) (refused_same g f same)
    (short_in language nesting_limit bytes (to_borrowed_fault g) says.1)
refused_short None bytes (Refused g) f same says = absurd says.1
refused_short language bytes (Accepted n) f same says = absurd cc
refused_short language bytes NotUtf8 f same says = absurd cc
refused_short language bytes NoMemory f same says = absurd cc
refused_short language bytes UnknownKind f same says = absurd cc
