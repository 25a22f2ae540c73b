-- Names at the start of a text.
use Rattle.std.specs.Prelude.{ℕ, ◌+◌, ◌==◌, ◌&&◌, Bool, true, false, if◌then◌else◌, List, [], ◌∷◌, length, Option, Some, None}
use Rattle.std.specs.Char.{eq_ignore_ascii_case}
use Rattle.timefd_lang_component.specs.Tree.{Text}
use Rattle.timefd_lang_component.specs.Texts.{short_months, long_months, short_weekdays, long_weekdays, periods}
use Rattle.timefd_date_moment.specs.declared.fields.rule.NameList.{NameList}

abbrev pub listed : NameList → List Text
listed NameList.ShortMonths = short_months
listed NameList.LongMonths = long_months
listed NameList.ShortWeekdays = short_weekdays
listed NameList.LongWeekdays = long_weekdays
listed NameList.UpperPeriods = periods true
listed NameList.LowerPeriods = periods false

-- Whether two bytes are the same. If case makes no difference, an ASCII letter is the same in both cases.
abbrev pub same_byte : Bool → ℕ → ℕ → Bool
same_byte true a b = a == b
same_byte false a b = eq_ignore_ascii_case a b

-- Whether the text begins with the name.
abbrev pub begins : Bool → Text → Text → Bool
begins is_case_sensitive [] text = true
begins is_case_sensitive (a ∷ name) [] = false
begins is_case_sensitive (a ∷ name) (b ∷ text) =
    same_byte is_case_sensitive a b && begins is_case_sensitive name text

-- The first of these names that the text begins with: its index, counted from this number, and its length.
abbrev pub name_from : ℕ → Bool → List Text → Text → Option (ℕ × ℕ)
name_from position is_case_sensitive [] text = None
name_from position is_case_sensitive (name ∷ names) text =
    if begins is_case_sensitive name text then Some (position, length name)
    else name_from (position + 1) is_case_sensitive names text
