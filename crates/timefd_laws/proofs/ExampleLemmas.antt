-- Examples of texts, by computing the answer.
use Rattle.std.proofs.Common.{◌≡◌, codes, List, [], ◌∷◌, MatchResult, Result, Ok, Err, refl, subst}
use Rattle.timefd_lang_component.specs.declared.component.Component.TheVariants.{Ignore}
use Rattle.timefd_lang_component.specs.Tree.{Text, Tree, component}
use Rattle.timefd_lang_fault.specs.Faults.{Fault, unclosed_bracket, invalid_name, invalid_modifier, missing_name, missing_modifier}
use Rattle.timefd_language.specs.declared.description_version.DescriptionVersion.{DescriptionVersion}
use Rattle.timefd_language.specs.declared.description_version.DescriptionVersion.TheVariants.{One, Two, Three}
use Rattle.timefd_lang_fault.specs.Words.{expected_white, nested_here}
use Rattle.timefd_language.specs.Values.{not_zero}
use Rattle.timefd_language.specs.Grammar.{Spells, nesting_limit}
use Rattle.timefd_language.specs.Broken.{FaultOf}
use Rattle.timefd_language.proofs.Reader.{answer_of}
use Rattle.timefd_language.proofs.LawLemmas.{answer_is}
use Rattle.timefd_laws.specs.Examples.{IsReported, IsSpelled, RefusedTexts, SpelledTexts}

abbrev Answers : DescriptionVersion → Text → Result (List Tree) Fault → Type 0
Answers v text r = MatchResult r (λ list. Spells v nesting_limit 0 text list)
    (λ f. FaultOf v nesting_limit text f)

reported : (v : DescriptionVersion) (text : Text) (f : Fault)
    → answer_of v nesting_limit text ≡ Err f → FaultOf v nesting_limit text f
reported v text f e = subst (Answers v text) e (answer_is v nesting_limit text)

spelled : (v : DescriptionVersion) (text : Text) (list : List Tree)
    → answer_of v nesting_limit text ≡ Ok list → Spells v nesting_limit 0 text list
spelled v text list e = subst (Answers v text) e (answer_is v nesting_limit text)

reported_in_each : (text : Text) (f : Fault) → answer_of One nesting_limit text ≡ Err f
    → answer_of Two nesting_limit text ≡ Err f → answer_of Three nesting_limit text ≡ Err f
    → (v : DescriptionVersion) → FaultOf v nesting_limit text f
reported_in_each text f one two three One = reported One text f one
reported_in_each text f one two three Two = reported Two text f two
reported_in_each text f one two three Three = reported Three text f three

spelled_in_each : (text : Text) (list : List Tree) → answer_of One nesting_limit text ≡ Ok list
    → answer_of Two nesting_limit text ≡ Ok list → answer_of Three nesting_limit text ≡ Ok list
    → (v : DescriptionVersion) → Spells v nesting_limit 0 text list
spelled_in_each text list one two three One = spelled One text list one
spelled_in_each text list one two three Two = spelled Two text list two
spelled_in_each text list one two three Three = spelled Three text list three

pub refused_texts : RefusedTexts
unfolding answer_of
refused_texts = record {
  no_name = reported_in_each (codes "[]") _ refl refl refl;
  no_name_after_white = reported_in_each (codes "[ ]") _ refl refl refl;
  no_name_after_more_white = reported_in_each (codes "[  ]") _ refl refl refl;
  doubled_bracket_of_version_two = reported Two (codes "[[day]]") _ refl;
  doubled_bracket_of_version_three = reported Three (codes "[[day]]") _ refl;
  bare_closing_bracket = reported Three (92 ∷ 91 ∷ 91 ∷ 100 ∷ 97 ∷ 121 ∷ 93 ∷ 93 ∷ []) _ refl;
  escaped_end = reported_in_each (91 ∷ 100 ∷ 97 ∷ 121 ∷ 32 ∷ 92 ∷ 93 ∷ []) _ refl refl refl;
  unclosed = reported_in_each (codes "[foo") _ refl refl refl;
  no_colon_before_the_end = reported_in_each (codes "[foo bar") _ refl refl refl;
  unknown_name = reported_in_each (codes "[foo]") _ refl refl refl;
  no_value = reported_in_each (codes "[day padding:]") _ refl refl refl;
  no_key = reported_in_each (codes "[day :zero]") _ refl refl refl;
  colon_in_a_value = reported_in_each (codes "[day padding:zero:x]") _ refl refl refl;
  no_white_before_nested = reported_in_each (codes "[day[x]]") _ refl refl refl;
  nested_in_an_unknown_name = reported_in_each (codes "[foo [x]]") _ refl refl refl;
  fault_inside_first = reported_in_each (codes "[day [[foo]]]") _ refl refl refl;
  unclosed_inside = reported_in_each (codes "[a[") _ refl refl refl;
  repeated_key = reported Three (codes "[hour repr:12 repr:24]") _ refl;
  padding_of_a_long_month = reported Three (codes "[month repr:long padding:none]") _ refl;
  case_of_a_numerical_month = reported Three (codes "[month case_sensitive:true]") _ refl;
  padding_of_a_short_month = reported Three (codes "[month repr:short padding:none]") _ refl;
  index_of_a_short_weekday = reported Three (codes "[weekday repr:short one_indexed:true]") _ refl;
  index_of_a_long_weekday = reported Three (codes "[weekday one_indexed:true]") _ refl;
  case_of_a_weekday_from_sunday = reported Three (codes "[weekday repr:sunday case_sensitive:true]") _ refl;
  case_of_a_weekday_from_monday = reported Three (codes "[weekday repr:monday case_sensitive:true]") _ refl;
  range_of_two_digits = reported Three (codes "[year repr:last_two range:standard]") _ refl;
  sign_of_two_digits = reported Three (codes "[year repr:last_two sign:mandatory]") _ refl;
  range_of_two_digits_by_weeks = reported Three (codes "[year base:iso_week repr:last_two range:standard]") _ refl;
  sign_of_two_digits_by_weeks = reported Three (codes "[year base:iso_week repr:last_two sign:mandatory]") _ refl;
  no_count = reported_in_each (codes "[ignore]") _ refl refl refl;
  count_of_nought = reported_in_each (codes "[ignore count:0]") _ refl refl refl;
  optional_item_of_version_one = reported One (codes "[optional [[day]]]") _ refl;
  optional_item_of_version_two = reported Two (codes "[optional [[day]]]") _ refl;
  word_after_nested = reported_in_each (codes "[first [a]b]") _ refl refl refl;
  no_escape_of_version_two = reported Two (195 ∷ 169 ∷ 92 ∷ 195 ∷ 169 ∷ []) _ refl;
  no_escape_of_version_three = reported Three (195 ∷ 169 ∷ 92 ∷ 195 ∷ 169 ∷ []) _ refl;
}

pub spelled_texts : SpelledTexts
unfolding answer_of
spelled_texts = record {
  date = spelled Three (codes "[year]-[month]-[day]") _ refl;
  date_of_earlier_versions_in_version_one = spelled One (codes "[year]-[month]-[day]") _ refl;
  date_of_earlier_versions_in_version_two = spelled Two (codes "[year]-[month]-[day]") _ refl;
  doubled_bracket_of_version_one = spelled One (codes "[[day]]") _ refl;
  escape_of_version_two = spelled Two (92 ∷ 91 ∷ 91 ∷ 100 ∷ 97 ∷ 121 ∷ 93 ∷ 93 ∷ []) _ refl;
  last_of_two_keys_in_version_one = spelled One (codes "[hour repr:12 repr:24]") _ refl;
  last_of_two_keys_in_version_two = spelled Two (codes "[hour repr:12 repr:24]") _ refl;
  key_of_no_use_in_version_one = spelled One (codes "[month repr:long padding:none]") _ refl;
  key_of_no_use_in_version_two = spelled Two (codes "[month repr:long padding:none]") _ refl;
  signed_count = spelled_in_each (codes "[ignore count:+5]") _ refl refl refl;
  optional_day = spelled Three (codes "[optional [[day]]]") _ refl;
  optional_of_none = spelled Three (codes "[optional []]") _ refl;
  two_alternatives = spelled Three (codes "[first [a] [bcd]]") _ refl;
  backslash_of_version_one = spelled One (195 ∷ 169 ∷ 92 ∷ 195 ∷ 169 ∷ []) _ refl;
}
