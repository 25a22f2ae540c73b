-- From what is reported about a text to the answer about its bytes.
use Rattle.std.proofs.Common.{◌≡◌, ◌∙◌, Some, None, ap, subst, sym}
use Rattle.timefd_parse.specs.Tree.{Text}
use Rattle.timefd_lang_dialect.specs.Dialects.{named}
use Rattle.timefd_lang_dialect.specs.declared.dialect.Dialect.{Dialect}
use Rattle.timefd_web.specs.Conversions.{Converts, Formats}
use Rattle.timefd_web.specs.Guesses.{Guessed}
use Rattle.timefd_web.specs.OtherAnswers.{ConvertsOf, FormatsOf}

pub converts : (name word bytes text object : Text) (dialect : Dialect) → word ≡ name → text ≡ bytes
    → named word ≡ Some dialect → Converts dialect text object → ConvertsOf name bytes object
converts name word bytes text object dialect on_name on_text is_dialect is = record {
  dialect = dialect;
  is_dialect = sym (ap named on_name) ∙ is_dialect;
  converts = subst (λ t. Converts dialect t object) on_text is;
}

pub formats : (name word bytes text object : Text) (dialect : Dialect) → word ≡ name → text ≡ bytes
    → named word ≡ Some dialect → Formats dialect text object → FormatsOf name bytes object
formats name word bytes text object dialect on_name on_text is_dialect is = record {
  dialect = dialect;
  is_dialect = sym (ap named on_name) ∙ is_dialect;
  formats = subst (λ t. Formats dialect t object) on_text is;
}

pub unnamed : (name word : Text) → word ≡ name → named word ≡ None → named name ≡ None
unnamed name word on_name none = sym (ap named on_name) ∙ none

pub guesses : (bytes text object : Text) → text ≡ bytes → Guessed text object → Guessed bytes object
guesses bytes text object on_text is = subst (λ t. Guessed t object) on_text is
