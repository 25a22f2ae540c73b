-- A text that may replace what another is converted to.
use Rattle.std.proofs.Common.{◌≡◌, ◌∙◌, Bool, true, List, refl, sym, subst}
use Rattle.std.specs.Str.{bytes_eq}
use Rattle.std.proofs.lemmas.Slice.Eq.{bytes_eq-Decides}
use Rattle.timefd_parse.specs.Tree.{Text, Tree}
use Rattle.timefd_lang_convert.specs.declared.conversion.Conversion.{Conversion}
use Rattle.timefd_lang_convert.specs.declared.conversion.Conversion.TheVariants.{OneToTwo, OneToThree, TwoToThree, ThreeToThree, StrftimeToThree}
use Rattle.timefd_lang_convert.specs.Answers.{IsNormalOf, KeepsTree}
use Rattle.timefd_lang_convert.specs.Conversions.{IsConversion, KeepsItems}
use Rattle.timefd_language.specs.declared.description_version.DescriptionVersion.TheVariants.{Three}
use Rattle.timefd_language.specs.Grammar.{Spells, nesting_limit}
use Rattle.timefd_language.proofs.LawLemmas.{one_answer_law}
use Rattle.timefd_lint_rewrite.specs.Layouts.{IsLeast, IsNearer, ReadsAs}

-- Version 3 reads a text like the text's normal form.
as_normal : (text normal rewritten : Text) → IsNormalOf text normal → KeepsTree text normal
    → normal ≡ rewritten → ReadsAs rewritten text
as_normal text normal rewritten is means equal = λ list spelled.
    subst (Spells Three nesting_limit 0 text)
    ((one_answer_law Three nesting_limit normal).1.one_list is.0 list (means is.0 is.1)
    (subst (λ t. Spells Three nesting_limit 0 t list) (sym equal) spelled))
    is.1

pub reads_as_normal : (text normal shown rewritten : Text) (b : Bool) → IsNormalOf text normal
    → KeepsTree text normal → shown ≡ normal → b ≡ bytes_eq shown rewritten → b ≡ true
    → ReadsAs rewritten text
reads_as_normal text normal shown rewritten b is means same tested found =
    as_normal text normal rewritten is means
    (sym same ∙ (bytes_eq-Decides shown rewritten).0 (sym tested ∙ found))

keeps : (conversion : Conversion) (text rewritten answer : Text) → KeepsItems conversion text rewritten
    → IsNearer conversion rewritten answer → KeepsItems conversion text answer
keeps OneToTwo text rewritten answer means nearer = subst (KeepsItems OneToTwo text) (sym nearer) means
keeps OneToThree text rewritten answer means nearer = λ list spelled.
    let three = means list spelled in
    (three.0, nearer three.0 three.1, three.2)
keeps TwoToThree text rewritten answer means nearer = λ list spelled. nearer list (means list spelled)
keeps ThreeToThree text rewritten answer means nearer = λ list spelled. nearer list (means list spelled)
keeps StrftimeToThree text rewritten answer means nearer =
    subst (KeepsItems StrftimeToThree text) (sym nearer) means

pub nearer_is_least : (conversion : Conversion) (text rewritten answer : Text)
    → IsConversion conversion text rewritten → KeepsItems conversion text rewritten
    → IsNearer conversion rewritten answer → IsLeast conversion text answer
nearer_is_least conversion text rewritten answer to means nearer = record {
  rewritten = rewritten;
  converted = to;
  nearer = nearer;
  same_items = keeps conversion text rewritten answer means nearer;
}

same : (conversion : Conversion) (rewritten : Text) → IsNearer conversion rewritten rewritten
same OneToTwo rewritten = refl
same OneToThree rewritten = λ list spelled. spelled
same TwoToThree rewritten = λ list spelled. spelled
same ThreeToThree rewritten = λ list spelled. spelled
same StrftimeToThree rewritten = refl

pub whole_is_least : (conversion : Conversion) (text rewritten : Text)
    → IsConversion conversion text rewritten → KeepsItems conversion text rewritten
    → IsLeast conversion text rewritten
whole_is_least conversion text rewritten to means =
    nearer_is_least conversion text rewritten rewritten to means (same conversion rewritten)
