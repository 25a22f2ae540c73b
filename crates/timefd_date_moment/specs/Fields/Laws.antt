-- Laws that hold for reading.
use Rattle.std.specs.Prelude.{ℕ, ◌≡◌, ◌≤◌, ◌<◌, ◌+◌, ◌^◌, ◌++◌, Bool, true, false, [], ◌∷◌, get_or, length, Some, Result, Ok, Err}
use Rattle.std.specs.Char.{is_ascii_digit}
use Rattle.std.specs.List.{prefix_len}
use Rattle.timefd_lang_component.specs.Texts.{filled}
use Rattle.timefd_lang_component.specs.Tree.{Text, Tree}
use Rattle.timefd_modifier.specs.declared.enums.Padding.{Padding}
use Rattle.timefd_date_moment.specs.declared.fields.fault.FieldFault.{FieldFault}
use Rattle.timefd_date_moment.specs.declared.fields.fields.Amount.{Amount}
use Rattle.timefd_date_moment.specs.declared.fields.fields.Count.{Count}
use Rattle.timefd_date_moment.specs.declared.fields.reading.Reading.TheVariants as reads
use Rattle.timefd_date_moment.specs.declared.fields.rule.NumberForm.{NumberForm}
use Rattle.timefd_date_moment.specs.declared.fields.rule.NameList.{NameList}
use Rattle.timefd_date_moment.specs.Fields.Inputs.{amount, number}
use Rattle.timefd_date_moment.specs.Fields.Names.{listed, name_from}
use Rattle.timefd_date_moment.specs.Fields.Reads.{Point, read}

-- What is left is the end of the text, and a fault begins within it.
abbrev pub IsAfter : Point → Result Point FieldFault → Type 0
IsAfter p (Ok q) = (front : Text) × (p.rest ≡ front ++ q.rest)
IsAfter p (Err f) = f.left ≤ length p.rest

-- A description reads the start of the text, and a fault begins within the text.
abbrev pub ReadsFronts : Type 0
ReadsFronts = (t : Tree) (p : Point) → IsAfter p (read t p)

-- A number that was written with zeros to its width is read back, whatever follows it.
abbrev pub ReadsFilled : Type 0
ReadsFilled = (field : Count) (width lowest highest n : ℕ) (rest : Text) → 1 ≤ width → width ≤ 23
    → lowest ≤ n → n ≤ highest → highest < 10 ^ width
    → number field Padding.Zero width lowest highest (filled Padding.Zero width n ++ rest)
    ≡ Some (reads.Count field n, width)

-- A name is read back as its index in the list, whatever follows it.
abbrev pub ReadsNames : Type 0
ReadsNames = (names : NameList) (n : ℕ) (rest : Text) → n < length (listed names)
    → name_from 0 true (listed names) (get_or (listed names) n [] ++ rest)
    ≡ Some (n, length (get_or (listed names) n []))

-- The text doesn't begin with a digit.
abbrev pub HasNoDigit : Text → Type 0
HasNoDigit text = prefix_len is_ascii_digit text ≡ 0

-- A number that was padded to its width, or not at all, is read back if no digit follows it.
abbrev pub ReadsEnded : Type 0
ReadsEnded = (field : Count) (padding : Padding) (width lowest highest n : ℕ) (rest : Text) → 1 ≤ width
    → width ≤ 23 → lowest ≤ n → n ≤ highest → highest < 10 ^ width → HasNoDigit rest
    → number field padding width lowest highest (filled padding width n ++ rest)
    ≡ Some (reads.Count field n, length (filled padding width n))

abbrev pub sign_byte : Bool → ℕ
sign_byte true = 45
sign_byte false = 43

-- A number that was written after its sign is read back if no digit follows it.
abbrev pub ReadsSigned : Type 0
ReadsSigned = (field : Amount) (is_mandatory is_negative : Bool) (form : NumberForm) (n : ℕ) (rest : Text)
    → 1 ≤ form.width → form.width ≤ form.most_signed → form.most_signed ≤ 23 → n ≤ form.greatest
    → form.greatest < 10 ^ form.most_signed → HasNoDigit rest
    → amount field is_mandatory form (sign_byte is_negative ∷ (filled form.padding form.width n ++ rest))
    ≡ Some (reads.Amount field (record { is_negative = is_negative; magnitude = n }), 1 + length (filled form.padding form.width n))

-- A number without a sign is read back too, if no sign is mandatory.
abbrev pub ReadsUnsigned : Type 0
ReadsUnsigned = (field : Amount) (form : NumberForm) (n : ℕ) (rest : Text) → 1 ≤ form.width
    → form.width ≤ form.most → form.most ≤ 23 → n ≤ form.greatest → n < 10 ^ form.most → HasNoDigit rest
    → amount field false form (filled form.padding form.width n ++ rest)
    ≡ Some (reads.Amount field (record { is_negative = false; magnitude = n }), length (filled form.padding form.width n))
