-- What the words of a head mean.
use Rattle.std.specs.Prelude.{◌≡◌, Bool, true, false, codes, List, [], ◌∷◌, Option, Some, None}
use Rattle.timefd_lang_component.specs.Tree.{Text}
use Rattle.timefd_language.specs.declared.combination.Refusal as code_refusal
use Rattle.timefd_lang_fault.specs.declared.key.Key as code_key
use Rattle.timefd_lang_fault.specs.declared.key.Key.TheVariants as keys
use Rattle.timefd_lang_fault.specs.declared.name.Name.{Name}
use Rattle.timefd_lang_fault.specs.Slots.{context_of}
use Rattle.timefd_language.specs.Bytes.{same}
use Rattle.timefd_language.specs.Values.{Key, padding, trailing_input, hour_repr, count, month_repr, case_sensitive, sign, case, digits, precision, weekday_repr, one_indexed, week_number_repr, year_repr, range, base, format}
use Rattle.timefd_language.specs.Names.{row_for, row_of}
use Rattle.timefd_language.specs.Combinations.{Refusal, ◌refused◌}

-- what a word names: `optional` and `first` are tried before the names of components
abbrev pub IsNameOf : Bool → Text → Option Name → Type 0
IsNameOf strict word (Some Name.Optional) = same strict (codes "optional") word ≡ true
IsNameOf strict word (Some Name.First) =
    (same strict (codes "optional") word ≡ false) × (same strict (codes "first") word ≡ true)
IsNameOf strict word (Some (Name.Component name)) =
    (same strict (codes "optional") word ≡ false) × (same strict (codes "first") word ≡ false)
    × (row_of strict word ≡ Some (row_for name))
IsNameOf strict word None =
    (same strict (codes "optional") word ≡ false) × (same strict (codes "first") word ≡ false)
    × (row_of strict word ≡ None)

-- the row of the table for each key of the code
abbrev pub key_for : code_key.Key → Key
key_for keys.Padding = padding
key_for keys.TrailingInput = trailing_input
key_for keys.HourRepr = hour_repr
key_for keys.Count = count
key_for keys.MonthRepr = month_repr
key_for keys.CaseSensitive = case_sensitive
key_for keys.Sign = sign
key_for keys.Case = case
key_for keys.Digits = digits
key_for keys.Precision = precision
key_for keys.WeekdayRepr = weekday_repr
key_for keys.OneIndexed = one_indexed
key_for keys.WeekNumberRepr = week_number_repr
key_for keys.YearRepr = year_repr
key_for keys.Range = range
key_for keys.Base = base
key_for keys.Format = format

-- the keys that a bracket with this name takes
abbrev pub keys_for : Name → List Key
keys_for Name.Optional = format ∷ []
keys_for Name.First = []
keys_for (Name.Component name) = (row_for name).keys

-- the keys of a name; an unknown name has none
abbrev pub keys_of : Option Name → List Key
keys_of None = []
keys_of (Some name) = keys_for name

-- the refusal of the rules for one of the code
abbrev pub refusal_for : code_refusal.Refusal → Refusal
refusal_for r = (key_for r.key).key refused context_of r.refuser
