-- The answer about bytes: a lemma for each status, whatever the bytes may mean.
use Rattle.std.proofs.Common.{ℕ, ◌≡◌, [], Option, Some, None, IsSome, IsUtf8, refl, ap, sym, subst, arith, false, true}
use Rattle.std.specs.Str.{IsCharBoundary}
use Rattle.std.proofs.lemmas.Str.{IsUtf8-nil}
use Rattle.timefd_lang_component.specs.Tree.{Text}
use Rattle.timefd_parse.specs.Faults.{Fault}
use Rattle.timefd_language.specs.declared.description_version.Language.{Language}
use Rattle.timefd_parse.proofs.AmountLemmas.{placed_in}
use Rattle.timefd_c.specs.declared.answer.TheConstants.{ACCEPTED, REFUSED, NOT_UTF8, NO_MEMORY, UNKNOWN_KIND}
use Rattle.timefd_c.specs.Answers.{HasFaultWithin, IsAnswer}

pub some_not_none : (language : Language) → ◌≡◌ {A = Option Language} (Some language) None → ⊥
some_not_none language none = cc

-- the index of a fault is between two characters of its text
placed : (language : Option Language) (limit : ℕ) (bytes : Text) (f : Fault)
    → HasFaultWithin language limit bytes f → IsCharBoundary bytes f.index
placed (Some language) limit bytes f has = placed_in language limit bytes has.0 f has.1
placed None limit bytes f has = absurd has.1

module _ (language : Option Language) (limit : ℕ) (bytes : Text) (X : Type 0)
    (Is Reported : X → Type 0) where
  pub accepting : (language ≡ None → ⊥) → (value : ℕ) → IsUtf8 bytes → (x : X) → Is x
      → ((y : X) → Is y → Reported y)
      → ((f : Fault) → HasFaultWithin language limit bytes f → ⊥)
      → IsAnswer language limit bytes X Is Reported ACCEPTED value
  accepting some value utf8 x is reported no_fault = record {
    accepted = λ e. (x, is, reported x is);
    refused = λ e. absurd (omega (arith, e));
    spelled = λ y y_is more. (refl, reported y y_is);
    faulty = λ f h. absurd (no_fault f h);
    position = λ e. absurd (omega (arith, e));
    unknown_kind = (λ e. absurd (omega (arith, e)), λ none. absurd (some none));
    not_utf8 = (λ e. absurd (omega (arith, e)), λ no. absurd (no.1 utf8));
    empty = λ some nil. refl;
    known = omega arith;
    no_value = λ accepted refused. absurd (accepted refl);
  }

  pub refusing : (language ≡ None → ⊥) → (f : Fault)
      → HasFaultWithin language limit bytes f → ((x : X) → Is x → ⊥)
      → ((g : Fault) → HasFaultWithin language limit bytes g → f ≡ g)
      → (IsSome language → bytes ≡ [] → ⊥)
      → IsAnswer language limit bytes X Is Reported REFUSED f.index
  refusing some f has nothing one not_empty = record {
    accepted = λ e. absurd (omega (arith, e));
    refused = λ e. (f, has, refl);
    spelled = λ x is more. absurd (nothing x is);
    faulty = λ g h. (refl, ap (λ x. x.index) (one g h));
    position = λ e. placed language limit bytes f has;
    unknown_kind = (λ e. absurd (omega (arith, e)), λ none. absurd (some none));
    not_utf8 = (λ e. absurd (omega (arith, e)), λ no. absurd (no.1 has.0));
    empty = λ is_some nil. absurd (not_empty is_some nil);
    known = omega arith;
    no_value = λ accepted refused. absurd (refused refl);
  }

  pub unread : (language ≡ None → ⊥) → (IsSome language → ¬ (IsUtf8 bytes) → ⊥)
      → ((f : Fault) → HasFaultWithin language limit bytes f → ⊥)
      → (IsSome language → bytes ≡ [] → ⊥) → IsAnswer language limit bytes X Is Reported NO_MEMORY 0
  unread some text no_fault not_empty = record {
    accepted = λ e. absurd (omega (arith, e));
    refused = λ e. absurd (omega (arith, e));
    spelled = λ x is more. absurd (more refl);
    faulty = λ f h. absurd (no_fault f h);
    position = λ e. absurd (omega (arith, e));
    unknown_kind = (λ e. absurd (omega (arith, e)), λ none. absurd (some none));
    not_utf8 = (λ e. absurd (omega (arith, e)), λ no. absurd (text no.0 no.1));
    empty = λ is_some nil. absurd (not_empty is_some nil);
    known = omega arith;
    no_value = λ accepted refused. refl;
  }

  pub no_text : (language ≡ None → ⊥) → IsSome language → ¬ (IsUtf8 bytes)
      → ((x : X) → Is x → IsUtf8 bytes) → IsAnswer language limit bytes X Is Reported NOT_UTF8 0
  no_text some is_some invalid is_text = record {
    accepted = λ e. absurd (omega (arith, e));
    refused = λ e. absurd (omega (arith, e));
    spelled = λ x is more. absurd (invalid (is_text x is));
    faulty = λ f h. absurd (invalid h.0);
    position = λ e. absurd (omega (arith, e));
    unknown_kind = (λ e. absurd (omega (arith, e)), λ none. absurd (some none));
    not_utf8 = (λ e. (is_some, invalid), λ no. refl);
    empty = λ some nil. absurd (invalid (subst IsUtf8 (sym nil) IsUtf8-nil));
    known = omega arith;
    no_value = λ accepted refused. refl;
  }

  pub no_language : language ≡ None → ((x : X) → Is x → ⊥)
      → IsAnswer language limit bytes X Is Reported UNKNOWN_KIND 0
  no_language none nothing = record {
    accepted = λ e. absurd (omega (arith, e));
    refused = λ e. absurd (omega (arith, e));
    spelled = λ x is more. absurd (nothing x is);
    faulty = λ f h.
        let no : HasFaultWithin None limit bytes f =
        subst (λ l. HasFaultWithin l limit bytes f) none h in
        absurd no.1;
    position = λ e. absurd (omega (arith, e));
    unknown_kind = (λ e. none, λ is. refl);
    not_utf8 = (
      λ e. absurd (omega (arith, e)),
      λ x. let no : false ≡ true = subst IsSome none x.0 in absurd cc,
    );
    empty = λ is_some nil. let no : false ≡ true = subst IsSome none is_some in absurd cc;
    known = omega arith;
    no_value = λ accepted refused. refl;
  }
