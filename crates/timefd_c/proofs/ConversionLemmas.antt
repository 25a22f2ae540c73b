-- The answer about a conversion that was made, about a text with a fault, and if memory ran out.
use Rattle.std.proofs.Common.{ℕ, ◌≡◌, ◌≤◌, ◌<◌, ◌++◌, [], Some, length, drop, IsUtf8, refl, ap, sym, subst, ◌∙◌, arith}
use Rattle.timefd_lang_component.specs.Tree.{Text}
use Rattle.timefd_parse.specs.Faults.{Fault}
use Rattle.timefd_language.specs.Grammar.{nesting_limit}
use Rattle.timefd_language.specs.declared.description_version.Language.{Language}
use Rattle.timefd_parse.specs.Language.{FaultIn}
use Rattle.timefd_parse.specs.BorrowedParseError.{BorrowedParseError}
use Rattle.timefd_parse.specs.BorrowedParseError.TheVariants as errors
use Rattle.timefd_parse.specs.BorrowedFaults.{to_borrowed_fault, IsBorrowed, IsBorrowedOf, IsMemory}
use Rattle.timefd_lang_convert.specs.declared.conversion.Conversion.{Conversion}
use Rattle.timefd_c.specs.Answers.{IsAnswer, error_answer, plain}
use Rattle.timefd_c.specs.Conversions.{ConvertsBy, FitsRoom, FitsTwice, IsConverted, IsReportedOf}
use Rattle.timefd_c.specs.declared.answer.TheConstants.{ACCEPTED, NO_MEMORY, REFUSED}
use Rattle.timefd_c.proofs.AnswerLemmas as answers

module _ (language : Language) (IsOne HasItems : Text → Text → Type 0) (bytes : Text) where
  written_or_kept : (before after text : Text) (written : ℕ) → IsUtf8 bytes
      → IsOne bytes text → HasItems bytes text
      → ((other : Text) → IsOne bytes other → text ≡ other)
      → ((f : Fault) → FaultIn language nesting_limit bytes f → ⊥)
      → (length text ≤ length before → (after ≡ text ++ drop (length text) before)
      × (written ≡ length text))
      → (length before < length text → (after ≡ before) × (written ≡ 0))
      → ConvertsBy language IsOne HasItems bytes before after
      (record { status = ACCEPTED; value = length text; sentence_len = 0; written = written })
  written_or_kept before after text written utf8 is same one no_fault whole too_short = record {
    answers = answers.accepting (Some language) nesting_limit bytes Text (IsConverted IsOne bytes)
        (IsReportedOf HasItems bytes
        (record { status = ACCEPTED; value = length text; sentence_len = 0; written = written }))
        (answers.some_not_none language) (length text) utf8 text (utf8, is)
        (λ other other_is. (
          subst (HasItems bytes) (one other other_is.1) same,
          ap length (one other other_is.1),
        )) (λ f h. no_fault f h.1);
    status = omega arith;
    whole = λ e room other other_is.
        let fits = whole room in
        (fits.0 ∙ ap (λ x. x ++ drop (length text) before) (one other other_is.1), fits.1);
    too_short = λ e short. too_short short;
    kept = λ accepted. absurd (accepted refl);
    no_sentence = refl;
  }

  -- the same, if the written bytes are the borrowed text and the value is the length of the text
  pub converted : (before after text borrowed : Text) (value written : ℕ)
      → borrowed ≡ text → value ≡ length text → IsUtf8 bytes
      → IsOne bytes text → HasItems bytes text
      → ((other : Text) → IsOne bytes other → text ≡ other)
      → ((f : Fault) → FaultIn language nesting_limit bytes f → ⊥)
      → (length borrowed ≤ length before → (after ≡ borrowed ++ drop (length borrowed) before)
      × (written ≡ length borrowed))
      → (length before < length borrowed → (after ≡ before) × (written ≡ 0))
      → ConvertsBy language IsOne HasItems bytes before after
      (record { status = ACCEPTED; value = value; sentence_len = 0; written = written })
  converted before after text borrowed value written borrowed_is value_is utf8 is same one no_fault whole
      too_short =
      subst (λ n. ConvertsBy language IsOne HasItems bytes before after
      (record { status = ACCEPTED; value = n; sentence_len = 0; written = written }))
      (sym value_is)
      (written_or_kept before after text written utf8 is same one no_fault
      (subst (λ t. length t ≤ length before → (after ≡ t ++ drop (length t) before)
      × (written ≡ length t)) borrowed_is whole)
      (subst (λ t. length before < length t → (after ≡ before) × (written ≡ 0)) borrowed_is
      too_short))

  -- if nothing was written, the answer is only the status and the value
  silent : (buffer : Text) (status value : ℕ) → (status ≡ ACCEPTED → ⊥) → status ≤ NO_MEMORY
      → IsAnswer (Some language) nesting_limit bytes Text (IsConverted IsOne bytes)
      (IsReportedOf HasItems bytes (plain status value)) status value
      → ConvertsBy language IsOne HasItems bytes buffer buffer (plain status value)
  silent buffer status value not_accepted known is = record {
    answers = is;
    status = known;
    whole = λ e. absurd (not_accepted e);
    too_short = λ e. absurd (not_accepted e);
    kept = λ accepted. (refl, refl);
    no_sentence = refl;
  }

  -- if nothing was converted because of this error
  pub unconverted : (buffer : Text) (e : BorrowedParseError) → IsUtf8 bytes
      → IsBorrowedOf (FaultIn language nesting_limit bytes) e
      → ((other : Text) → IsOne bytes other → IsMemory e)
      → ((f : Fault) → FaultIn language nesting_limit bytes f → IsBorrowed f e) → (bytes ≡ [] → ⊥)
      → ConvertsBy language IsOne HasItems bytes buffer buffer (error_answer e)
  unconverted buffer (errors.Invalid f) utf8 has not_spelled one not_empty =
      silent buffer REFUSED f.start (λ e. omega (arith, e)) (omega arith)
      (answers.refusing (Some language) nesting_limit bytes Text (IsConverted IsOne bytes)
      (IsReportedOf HasItems bytes (plain REFUSED f.start)) (answers.some_not_none language)
      (to_borrowed_fault f) (utf8, has) (λ other other_is. not_spelled other other_is.1)
      (λ g h. one g h.1) (λ some nil. not_empty nil))
  unconverted buffer (errors.Memory m) utf8 has not_spelled one not_empty =
      silent buffer NO_MEMORY 0 (λ e. omega (arith, e)) (omega arith)
      (answers.unread (Some language) nesting_limit bytes Text (IsConverted IsOne bytes)
      (IsReportedOf HasItems bytes (plain NO_MEMORY 0)) (answers.some_not_none language)
      (λ some invalid. invalid utf8) (λ f h. one f h.1) (λ some nil. not_empty nil))

-- a text that isn't accepted is never too long
pub error_fits : (bytes : Text) (e : BorrowedParseError) → FitsTwice bytes (error_answer e)
error_fits bytes (errors.Invalid f) = λ e. absurd (omega (arith, e))
error_fits bytes (errors.Memory m) = λ e. absurd (omega (arith, e))

pub error_has_room : (conversion : Conversion) (bytes : Text) (e : BorrowedParseError)
    → FitsRoom conversion bytes (error_answer e)
error_has_room conversion bytes (errors.Invalid f) = λ e. absurd (omega (arith, e))
error_has_room conversion bytes (errors.Memory m) = λ e. absurd (omega (arith, e))
