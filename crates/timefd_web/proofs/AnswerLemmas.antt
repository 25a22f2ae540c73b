-- From the report on a text to the answer about its bytes.
use Rattle.std.proofs.Common.{ℕ, ◌≡◌, Some, subst}
use Rattle.timefd_parse.specs.Tree.{Text}
use Rattle.timefd_date_moment.specs.declared.moment.Moment.{Moment}
use Rattle.timefd_parse.specs.LanguageType.{Language}
use Rattle.timefd_web.specs.declared.fields.MomentParts.{MomentParts}
use Rattle.timefd_web.specs.Answers.{ReadsOf, ReportsOf, language_of}
use Rattle.timefd_web.specs.Moments.{IsMoment}
use Rattle.timefd_web.specs.Readings.{Reads}
use Rattle.timefd_web.specs.Reports.{Reports}

module _ (number : ℕ) (bytes : Text) (fields : MomentParts) where
  pub reported : (language : Language) (moment : Moment) (text object : Text)
      → language_of number ≡ Some language → IsMoment fields moment → text ≡ bytes
      → Reports language moment text object → ReportsOf number bytes fields object
  reported language moment text object is_language is_moment same reports = record {
    language = language;
    moment = moment;
    is_language = is_language;
    is_moment = is_moment;
    reports = subst (λ t. Reports language moment t object) same reports;
  }

pub read : (number : ℕ) (description text : Text) (language : Language) (d t object : Text)
    → language_of number ≡ Some language → d ≡ description → t ≡ text
    → Reads language d t object → ReadsOf number description text object
read number description text language d t object is_language on_description on_text reads = record {
  language = language;
  is_language = is_language;
  reads = subst (λ x. Reads language x text object) on_description
      (subst (λ x. Reads language d x object) on_text reads);
}
