-- Examples of texts: each row of the page on the languages is a law.
use Rattle.std.specs.Prelude.{ℕ, true, false, codes, List, [], ◌∷◌}
use Rattle.timefd_modifier.specs.declared.enums.Padding.{Padding}
use Rattle.timefd_lang_component.specs.declared.component.Component.TheVariants.{Day, Hour24, Ignore, MonthLong, MonthNumerical, CalendarYearFullStandardRange, CalendarYearFullExtendedRange}
use Rattle.timefd_lang_component.specs.Tree.{Text, Tree, component, literal, compound, optional, first, trees, no_trees}
use Rattle.timefd_lang_fault.specs.Faults.{Kind, fault, unclosed_bracket, invalid_name, invalid_modifier, missing_name, missing_modifier, duplicate_modifier, invalid_combination}
use Rattle.timefd_language.specs.declared.description_version.DescriptionVersion.{DescriptionVersion}
use Rattle.timefd_language.specs.declared.description_version.DescriptionVersion.TheVariants.{One, Two, Three}
use Rattle.timefd_lang_fault.specs.Words.{expected_escape, expected_closing_escape, expected_white, optional_item, nested_here}
use Rattle.timefd_language.specs.Values.{not_zero}
use Rattle.timefd_language.specs.Grammar.{Spells, nesting_limit}
use Rattle.timefd_language.specs.Broken.{FaultOf}

abbrev pub IsReported : DescriptionVersion → Text → Kind → ℕ → Type 0
IsReported v text kind index = FaultOf v nesting_limit text (fault kind index)

abbrev pub IsSpelled : DescriptionVersion → Text → List Tree → Type 0
IsSpelled v text list = Spells v nesting_limit 0 text list

pub record RefusedTexts : Type 0 where
  pub no_name : (v : DescriptionVersion) → IsReported v (codes "[]") missing_name 0
  pub no_name_after_white : (v : DescriptionVersion) → IsReported v (codes "[ ]") missing_name 1
  pub no_name_after_more_white : (v : DescriptionVersion) → IsReported v (codes "[  ]")
      missing_name 1
  pub doubled_bracket_of_version_two : IsReported Two (codes "[[day]]") missing_name 0
  pub doubled_bracket_of_version_three : IsReported Three (codes "[[day]]") missing_name 0
  pub bare_closing_bracket : IsReported Three (92 ∷ 91 ∷ 91 ∷ 100 ∷ 97 ∷ 121 ∷ 93 ∷ 93 ∷ [])
      expected_closing_escape 7
  pub escaped_end : (v : DescriptionVersion) → IsReported v (91 ∷ 100 ∷ 97 ∷ 121 ∷ 32 ∷ 92 ∷ 93 ∷
      []) unclosed_bracket 0
  pub unclosed : (v : DescriptionVersion) → IsReported v (codes "[foo") unclosed_bracket 0
  pub no_colon_before_the_end : (v : DescriptionVersion) → IsReported v (codes "[foo bar")
      (invalid_modifier (codes "bar")) 5
  pub unknown_name : (v : DescriptionVersion) → IsReported v (codes "[foo]") (invalid_name (codes
      "foo")) 1
  pub no_value : (v : DescriptionVersion) → IsReported v (codes "[day padding:]") (invalid_modifier
      []) 12
  pub no_key : (v : DescriptionVersion) → IsReported v (codes "[day :zero]") (invalid_modifier []) 5
  pub colon_in_a_value : (v : DescriptionVersion) → IsReported v (codes "[day padding:zero:x]")
      (invalid_modifier (codes "zero:x")) 13
  pub no_white_before_nested : (v : DescriptionVersion) → IsReported v (codes "[day[x]]")
      expected_white 4
  pub nested_in_an_unknown_name : (v : DescriptionVersion) → IsReported v (codes "[foo [x]]")
      nested_here 0
  pub fault_inside_first : (v : DescriptionVersion) → IsReported v (codes "[day [[foo]]]")
      (invalid_name (codes "foo")) 7
  pub unclosed_inside : (v : DescriptionVersion) → IsReported v (codes "[a[") unclosed_bracket 0
  pub repeated_key : IsReported Three (codes "[hour repr:12 repr:24]") (duplicate_modifier (codes
      "repr")) 14
  pub padding_of_a_long_month : IsReported Three (codes "[month repr:long padding:none]")
      (invalid_combination (codes "padding") (codes "for long month")) 17
  pub case_of_a_numerical_month : IsReported Three (codes "[month case_sensitive:true]")
      (invalid_combination (codes "case_sensitive") (codes "for numerical month")) 7
  pub padding_of_a_short_month : IsReported Three (codes "[month repr:short padding:none]")
      (invalid_combination (codes "padding") (codes "for short month")) 18
  pub index_of_a_short_weekday : IsReported Three (codes "[weekday repr:short one_indexed:true]")
      (invalid_combination (codes "one_indexed") (codes "for short weekday")) 20
  pub index_of_a_long_weekday : IsReported Three (codes "[weekday one_indexed:true]")
      (invalid_combination (codes "one_indexed") (codes "for long weekday")) 9
  pub case_of_a_weekday_from_sunday : IsReported Three (codes
      "[weekday repr:sunday case_sensitive:true]") (invalid_combination (codes "case_sensitive")
      (codes "for numerical weekday")) 21
  pub case_of_a_weekday_from_monday : IsReported Three (codes
      "[weekday repr:monday case_sensitive:true]") (invalid_combination (codes "case_sensitive")
      (codes "for numerical weekday")) 21
  pub range_of_two_digits : IsReported Three (codes "[year repr:last_two range:standard]")
      (invalid_combination (codes "range") (codes "when `repr:last_two` is used")) 20
  pub sign_of_two_digits : IsReported Three (codes "[year repr:last_two sign:mandatory]")
      (invalid_combination (codes "sign") (codes "when `repr:last_two` is used")) 20
  pub range_of_two_digits_by_weeks : IsReported Three (codes
      "[year base:iso_week repr:last_two range:standard]") (invalid_combination (codes "range")
      (codes "when `repr:last_two` is used")) 34
  pub sign_of_two_digits_by_weeks : IsReported Three (codes
      "[year base:iso_week repr:last_two sign:mandatory]") (invalid_combination (codes "sign")
      (codes "when `repr:last_two` is used")) 34
  pub no_count : (v : DescriptionVersion) → IsReported v (codes "[ignore]") (missing_modifier (codes
      "count")) 1
  pub count_of_nought : (v : DescriptionVersion) → IsReported v (codes "[ignore count:0]")
      (invalid_modifier (codes "0")) 14
  pub optional_item_of_version_one : IsReported One (codes "[optional [[day]]]") optional_item 0
  pub optional_item_of_version_two : IsReported Two (codes "[optional [[day]]]") optional_item 0
  pub word_after_nested : (v : DescriptionVersion) → IsReported v (codes "[first [a]b]")
      unclosed_bracket 0
  pub no_escape_of_version_two : IsReported Two (195 ∷ 169 ∷ 92 ∷ 195 ∷ 169 ∷ []) expected_escape 3
  pub no_escape_of_version_three : IsReported Three (195 ∷ 169 ∷ 92 ∷ 195 ∷ 169 ∷ [])
      expected_escape 3

pub record SpelledTexts : Type 0 where
  pub date : IsSpelled Three (codes "[year]-[month]-[day]") (component
      (CalendarYearFullStandardRange (record {
        padding = Padding.Zero;
        sign_is_mandatory = false;
      })) ∷ literal (codes "-") ∷ component (MonthNumerical (record { padding = Padding.Zero }))
      ∷ literal (codes "-") ∷ component (Day (record { padding = Padding.Zero })) ∷ [])
  pub date_of_earlier_versions_in_version_one : IsSpelled One (codes "[year]-[month]-[day]")
      (component (CalendarYearFullExtendedRange (record {
        padding = Padding.Zero;
        sign_is_mandatory = false;
      })) ∷ literal (codes "-") ∷ component (MonthNumerical (record {
        padding = Padding.Zero;
      })) ∷ literal (codes "-") ∷ component (Day (record {
        padding =
            Padding.Zero;
      })) ∷ [])
  pub date_of_earlier_versions_in_version_two : IsSpelled Two (codes "[year]-[month]-[day]")
      (component (CalendarYearFullExtendedRange (record {
        padding = Padding.Zero;
        sign_is_mandatory = false;
      })) ∷ literal (codes "-") ∷ component (MonthNumerical (record {
        padding = Padding.Zero;
      })) ∷ literal (codes "-") ∷ component (Day (record {
        padding =
            Padding.Zero;
      })) ∷ [])
  pub doubled_bracket_of_version_one : IsSpelled One (codes "[[day]]") (literal (codes "[") ∷
      literal (codes "day") ∷ literal (codes "]") ∷ literal (codes "]") ∷ [])
  pub escape_of_version_two : IsSpelled Two (92 ∷ 91 ∷ 91 ∷ 100 ∷ 97 ∷ 121 ∷ 93 ∷ 93 ∷ [])
      (literal (codes "[") ∷ component (Day (record { padding = Padding.Zero })) ∷ literal
      (codes "]") ∷ [])
  pub last_of_two_keys_in_version_one : IsSpelled One (codes "[hour repr:12 repr:24]")
      (component (Hour24 (record { padding = Padding.Zero })) ∷ [])
  pub last_of_two_keys_in_version_two : IsSpelled Two (codes "[hour repr:12 repr:24]")
      (component (Hour24 (record { padding = Padding.Zero })) ∷ [])
  pub key_of_no_use_in_version_one : IsSpelled One (codes "[month repr:long padding:none]")
      (component (MonthLong (record { case_sensitive = true })) ∷ [])
  pub key_of_no_use_in_version_two : IsSpelled Two (codes "[month repr:long padding:none]")
      (component (MonthLong (record { case_sensitive = true })) ∷ [])
  pub signed_count : (v : DescriptionVersion) → IsSpelled v (codes "[ignore count:+5]")
      (component (Ignore (record { count = not_zero 4 })) ∷ [])
  pub optional_day : IsSpelled Three (codes "[optional [[day]]]") (optional true (component (Day
      (record { padding = Padding.Zero }))) ∷ [])
  pub optional_of_none : IsSpelled Three (codes "[optional []]") (optional true (compound
      no_trees) ∷ [])
  pub two_alternatives : IsSpelled Three (codes "[first [a] [bcd]]") (first (trees (literal
      (codes "a") ∷ literal (codes "bcd") ∷ [])) ∷ [])
  pub backslash_of_version_one : IsSpelled One (195 ∷ 169 ∷ 92 ∷ 195 ∷ 169 ∷ []) (literal (195 ∷
      169 ∷ 92 ∷ 195 ∷ 169 ∷ []) ∷ [])
