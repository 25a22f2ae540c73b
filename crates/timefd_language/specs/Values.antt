-- The keys of modifiers, the words that they may be set to, and what each word means.
use Rattle.std.specs.Prelude.{ℕ, suc, zero, ◌+◌, ◌*◌, ◌-◌, Bool, true, false, ◌&&◌, ◌==◌, nat_le, codes, List, [], ◌∷◌, Option, Some, None, map}
use native.Mathlib.Nat.{zero-lt-suc}
use Rattle.std.specs.declared.num.NonZeroU16.{NonZeroU16}
use Rattle.timefd_modifier.specs.declared.enums.Padding.{Padding}
use Rattle.timefd_modifier.specs.declared.enums.MonthRepr.{MonthRepr}
use Rattle.timefd_modifier.specs.declared.enums.WeekdayRepr.{WeekdayRepr}
use Rattle.timefd_modifier.specs.declared.enums.WeekNumberRepr.{WeekNumberRepr}
use Rattle.timefd_modifier.specs.declared.enums.YearRepr.{YearRepr}
use Rattle.timefd_modifier.specs.declared.enums.YearRange.{YearRange}
use Rattle.timefd_modifier.specs.declared.enums.SubsecondDigits.{SubsecondDigits}
use Rattle.timefd_modifier.specs.declared.enums.UnixTimestampPrecision.{UnixTimestampPrecision}
use Rattle.timefd_modifier.specs.declared.enums.TrailingInput.{TrailingInput}
use Rattle.timefd_lang_component.specs.Tree.{Text}
use Rattle.timefd_language.specs.Bytes.{plus, named}
use Rattle.timefd_language.specs.declared.setting.Setting.{Setting}

-- a word, and what it sets
pub record Value (A : Type 0) : Type 0 where
  pub word : Text
  pub sets : A

infix 80 ◌sets◌
abbrev pub ◌sets◌ : {A : Type 0} → Text → A → Value A
word sets a = record { word = word; sets = a }

-- what a key may be set to: one of these words, or a number
pub data Values : Type 0 where
  words : List (Value Setting) → Values
  numbers : Values

pub record Key : Type 0 where
  pub key : Text
  pub values : Values

-- a key, what it sets, and its words with the values that they mean
abbrev pub key_of : {A : Type 0} → Text → (A → Setting) → List (Value A) → Key
key_of key setting values = record {
  key = key;
  values =
      words (map (λ v. v.word sets setting v.sets) values);
}

-- The keys. The first word of each is its default.

abbrev pub padding : Key
padding = key_of (codes "padding") Setting.Padding
    (codes "zero" sets Padding.Zero ∷ codes "space" sets Padding.Space ∷ codes "none" sets
    Padding.None ∷ [])

abbrev pub trailing_input : Key
trailing_input = key_of (codes "trailing_input") Setting.TrailingInput
    (codes "prohibit" sets TrailingInput.Prohibit ∷ codes "discard" sets TrailingInput.Discard ∷ [])

abbrev pub hour_repr : Key
hour_repr = key_of (codes "repr") Setting.Is12HourClock
    (codes "24" sets false ∷ codes "12" sets true ∷ [])

-- this key has no default
abbrev pub count : Key
count = record { key = codes "count"; values = numbers }

abbrev pub month_repr : Key
month_repr = key_of (codes "repr") Setting.MonthRepr
    (codes "numerical" sets MonthRepr.Numerical ∷ codes "long" sets MonthRepr.Long ∷ codes "short"
    sets MonthRepr.Short ∷ [])

abbrev pub case_sensitive : Key
case_sensitive = key_of (codes "case_sensitive") Setting.CaseSensitive
    (codes "true" sets true ∷ codes "false" sets false ∷ [])

abbrev pub sign : Key
sign = key_of (codes "sign") Setting.SignIsMandatory
    (codes "automatic" sets false ∷ codes "mandatory" sets true ∷ [])

abbrev pub case : Key
case = key_of (codes "case") Setting.IsUppercase
    (codes "upper" sets true ∷ codes "lower" sets false ∷ [])

abbrev pub digits : Key
digits = key_of (codes "digits") Setting.Digits
    (codes "1+" sets SubsecondDigits.OneOrMore
    ∷ codes "1" sets SubsecondDigits.One
    ∷ codes "2" sets SubsecondDigits.Two
    ∷ codes "3" sets SubsecondDigits.Three
    ∷ codes "4" sets SubsecondDigits.Four
    ∷ codes "5" sets SubsecondDigits.Five
    ∷ codes "6" sets SubsecondDigits.Six
    ∷ codes "7" sets SubsecondDigits.Seven
    ∷ codes "8" sets SubsecondDigits.Eight
    ∷ codes "9" sets SubsecondDigits.Nine ∷ [])

abbrev pub precision : Key
precision = key_of (codes "precision") Setting.Precision
    (codes "second" sets UnixTimestampPrecision.Second
    ∷ codes "millisecond" sets UnixTimestampPrecision.Millisecond
    ∷ codes "microsecond" sets UnixTimestampPrecision.Microsecond
    ∷ codes "nanosecond" sets UnixTimestampPrecision.Nanosecond ∷ [])

abbrev pub weekday_repr : Key
weekday_repr = key_of (codes "repr") Setting.WeekdayRepr
    (codes "long" sets WeekdayRepr.Long
    ∷ codes "short" sets WeekdayRepr.Short
    ∷ codes "sunday" sets WeekdayRepr.Sunday
    ∷ codes "monday" sets WeekdayRepr.Monday ∷ [])

abbrev pub one_indexed : Key
one_indexed = key_of (codes "one_indexed") Setting.OneIndexed
    (codes "true" sets true ∷ codes "false" sets false ∷ [])

abbrev pub week_number_repr : Key
week_number_repr = key_of (codes "repr") Setting.WeekNumberRepr
    (codes "iso" sets WeekNumberRepr.Iso ∷ codes "sunday" sets WeekNumberRepr.Sunday ∷ codes
    "monday" sets WeekNumberRepr.Monday ∷ [])

abbrev pub year_repr : Key
year_repr = key_of (codes "repr") Setting.YearRepr
    (codes "full" sets YearRepr.Full ∷ codes "century" sets YearRepr.Century ∷ codes "last_two" sets
    YearRepr.LastTwo ∷ [])

-- in versions 1 and 2 the second word is the default
abbrev pub range : Key
range = key_of (codes "range") Setting.Range
    (codes "standard" sets YearRange.Standard ∷ codes "extended" sets YearRange.Extended ∷ [])

abbrev pub base : Key
base = key_of (codes "base") Setting.IsoWeekBased
    (codes "calendar" sets false ∷ codes "iso_week" sets true ∷ [])

abbrev pub format : Key
format = key_of (codes "format") Setting.Format
    (codes "true" sets true ∷ codes "false" sets false ∷ [])

-- Numbers.

-- a decimal number
abbrev pub digits_value : ℕ → Text → Option ℕ
digits_value n [] = Some n
digits_value n (b ∷ bytes) = elim (nat_le 48 b && nat_le b 57)
    [ true ↦ digits_value (n * 10 + (b - 48)) bytes | false ↦ None ]

-- one or more digits
abbrev pub digits_of : Text → Option ℕ
digits_of [] = None
digits_of (b ∷ bytes) = digits_value 0 (b ∷ bytes)

abbrev pub not_zero : ℕ → NonZeroU16
not_zero less_one = record { value = suc less_one; ok = zero-lt-suc less_one }

-- from 1 to 65535
abbrev pub counted : Option ℕ → Option Setting
counted None = None
counted (Some zero) = None
counted (Some (suc n)) = elim (nat_le (suc n) 65535)
    [ true ↦ Some (Setting.Count (not_zero n)) | false ↦ None ]

-- one or more digits, after an optional sign
abbrev pub count_of : Text → Option Setting
count_of [] = None
count_of (b ∷ bytes) = elim (b == plus)
    [ true ↦ counted (digits_of bytes) | false ↦ counted (digits_of (b ∷ bytes)) ]

-- Looking up.

abbrev pub sets_of : Option (Value Setting) → Option Setting
sets_of None = None
sets_of (Some v) = Some v.sets

-- what a text sets a key to
abbrev pub setting_in : Bool → Values → Text → Option Setting
setting_in strict (words vs) text = sets_of (named (λ v. v.word) strict text vs)
setting_in strict numbers text = count_of text

abbrev pub key_in : Bool → Text → List Key → Option Key
key_in = named (λ k. k.key)
