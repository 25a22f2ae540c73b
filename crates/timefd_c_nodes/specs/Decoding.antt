-- What nodes mean. A number without a meaning makes the node mean nothing.
use Rattle.std.specs.Prelude.{ℕ, zero, suc, ◌-◌, ◌==◌, nat_le, if◌then◌else◌, Bool, true, false, List, [], ◌∷◌, ◌++◌, Option, Some, None, length, take, drop}
use native.Mathlib.Nat.{zero-lt-suc}
use Rattle.std.specs.declared.num.NonZeroU16.{NonZeroU16}
use Rattle.timefd_modifier.specs.declared.enums.Padding.{Padding}
use Rattle.timefd_modifier.specs.declared.enums.SubsecondDigits.{SubsecondDigits}
use Rattle.timefd_modifier.specs.declared.enums.TrailingInput.{TrailingInput}
use Rattle.timefd_lang_component.specs.declared.component.Component.{Component}
use Rattle.timefd_lang_component.specs.declared.component.Component.TheVariants.{Day, MonthShort, MonthLong, MonthNumerical, Ordinal, WeekdayShort, WeekdayLong, WeekdaySunday, WeekdayMonday, WeekNumberIso, WeekNumberSunday, WeekNumberMonday, CalendarYearFullExtendedRange, CalendarYearFullStandardRange, CalendarYearCenturyExtendedRange, CalendarYearCenturyStandardRange, IsoYearFullExtendedRange, IsoYearFullStandardRange, IsoYearCenturyExtendedRange, IsoYearCenturyStandardRange, CalendarYearLastTwo, IsoYearLastTwo, Hour12, Hour24, Minute, Period, Second, Subsecond, OffsetHour, OffsetMinute, OffsetSecond, Ignore, UnixTimestampSecond, UnixTimestampMillisecond, UnixTimestampMicrosecond, UnixTimestampNanosecond, End}
use Rattle.timefd_lang_component.specs.Modern.{modern}
use Rattle.timefd_lang_component.specs.Tree.{Text, Tree, component, literal, compound, optional, first, pack, trees}
use Rattle.timefd_c_nodes.specs.declared.node.RawNode.{RawNode}
use Rattle.timefd_c_nodes.specs.declared.node.TheConstants.{LITERAL, COMPONENT, COMPOUND, OPTIONAL, FIRST}

abbrev pub flag_of : ℕ → Option Bool
flag_of n = if n == 1 then Some false else if n == 2 then Some true else None

abbrev pub padding_of : ℕ → Option Padding
padding_of n =
    if n == 1 then Some Padding.Space else if n == 2 then Some Padding.Zero else if n == 3 then Some
    Padding.None else None

abbrev pub digits_of : ℕ → Option SubsecondDigits
digits_of n =
    if n == 1 then Some SubsecondDigits.One
    else if n == 2 then Some SubsecondDigits.Two
    else if n == 3 then Some SubsecondDigits.Three
    else if n == 4 then Some SubsecondDigits.Four
    else if n == 5 then Some SubsecondDigits.Five
    else if n == 6 then Some SubsecondDigits.Six
    else if n == 7 then Some SubsecondDigits.Seven
    else if n == 8 then Some SubsecondDigits.Eight
    else if n == 9 then Some SubsecondDigits.Nine
    else if n == 10 then Some SubsecondDigits.OneOrMore
    else None

abbrev pub trailing_input_of : ℕ → Option TrailingInput
trailing_input_of n =
    if n == 1 then Some TrailingInput.Prohibit else if n == 2 then Some TrailingInput.Discard
    else None

abbrev pub count_of : ℕ → Option NonZeroU16
count_of zero = None
count_of (suc n) = Some (record { value = suc n; ok = zero-lt-suc n })

-- a component with one modifier, or with two, if their numbers mean something
abbrev pub with_one : {A : Type 0} → (A → Component) → Option A → Option Component
with_one make None = None
with_one make (Some a) = Some (make a)

abbrev pub with_two : {A B : Type 0} → (A → B → Component) → Option A → Option B → Option Component
with_two make None b = None
with_two make (Some a) None = None
with_two make (Some a) (Some b) = Some (make a b)

-- the component of a node
abbrev pub component_of : RawNode → Option Component
component_of n =
    if n.component == 1 then with_one (λ p. Day (record { padding = p })) (padding_of n.padding)
    else if n.component == 2 then with_one (λ s. MonthShort (record { case_sensitive = s }))
    (flag_of n.case_sensitive)
    else if n.component == 3 then with_one (λ s. MonthLong (record { case_sensitive = s }))
    (flag_of n.case_sensitive)
    else if n.component == 4 then with_one (λ p. MonthNumerical (record { padding = p }))
    (padding_of n.padding)
    else if n.component == 5 then with_one (λ p. Ordinal (record { padding = p }))
    (padding_of n.padding)
    else if n.component == 6 then with_one (λ s. WeekdayShort (record { case_sensitive = s }))
    (flag_of n.case_sensitive)
    else if n.component == 7 then with_one (λ s. WeekdayLong (record { case_sensitive = s }))
    (flag_of n.case_sensitive)
    else if n.component == 8 then with_one (λ o. WeekdaySunday (record { one_indexed = o }))
    (flag_of n.one_indexed)
    else if n.component == 9 then with_one (λ o. WeekdayMonday (record { one_indexed = o }))
    (flag_of n.one_indexed)
    else if n.component == 10 then with_one (λ p. WeekNumberIso (record { padding = p }))
    (padding_of n.padding)
    else if n.component == 11 then with_one (λ p. WeekNumberSunday (record { padding = p }))
    (padding_of n.padding)
    else if n.component == 12 then with_one (λ p. WeekNumberMonday (record { padding = p }))
    (padding_of n.padding)
    else if n.component == 13 then with_two
    (λ p s. CalendarYearFullExtendedRange (record { padding = p; sign_is_mandatory = s }))
    (padding_of n.padding) (flag_of n.sign_is_mandatory)
    else if n.component == 14 then with_two
    (λ p s. CalendarYearFullStandardRange (record { padding = p; sign_is_mandatory = s }))
    (padding_of n.padding) (flag_of n.sign_is_mandatory)
    else if n.component == 15 then with_two
    (λ p s. CalendarYearCenturyExtendedRange (record { padding = p; sign_is_mandatory = s }))
    (padding_of n.padding) (flag_of n.sign_is_mandatory)
    else if n.component == 16 then with_two
    (λ p s. CalendarYearCenturyStandardRange (record { padding = p; sign_is_mandatory = s }))
    (padding_of n.padding) (flag_of n.sign_is_mandatory)
    else if n.component == 17 then with_two
    (λ p s. IsoYearFullExtendedRange (record { padding = p; sign_is_mandatory = s }))
    (padding_of n.padding) (flag_of n.sign_is_mandatory)
    else if n.component == 18 then with_two
    (λ p s. IsoYearFullStandardRange (record { padding = p; sign_is_mandatory = s }))
    (padding_of n.padding) (flag_of n.sign_is_mandatory)
    else if n.component == 19 then with_two
    (λ p s. IsoYearCenturyExtendedRange (record { padding = p; sign_is_mandatory = s }))
    (padding_of n.padding) (flag_of n.sign_is_mandatory)
    else if n.component == 20 then with_two
    (λ p s. IsoYearCenturyStandardRange (record { padding = p; sign_is_mandatory = s }))
    (padding_of n.padding) (flag_of n.sign_is_mandatory)
    else if n.component == 21 then with_one (λ p. CalendarYearLastTwo (record { padding = p }))
    (padding_of n.padding)
    else if n.component == 22 then with_one (λ p. IsoYearLastTwo (record { padding = p }))
    (padding_of n.padding)
    else if n.component == 23 then with_one (λ p. Hour12 (record { padding = p }))
    (padding_of n.padding)
    else if n.component == 24 then with_one (λ p. Hour24 (record { padding = p }))
    (padding_of n.padding)
    else if n.component == 25 then with_one (λ p. Minute (record { padding = p }))
    (padding_of n.padding)
    else if n.component == 26 then with_two
    (λ u s. Period (record { is_uppercase = u; case_sensitive = s })) (flag_of n.is_uppercase)
    (flag_of n.case_sensitive)
    else if n.component == 27 then with_one (λ p. Second (record { padding = p }))
    (padding_of n.padding)
    else if n.component == 28 then with_one (λ d. Subsecond (record { digits = d }))
    (digits_of n.digits)
    else if n.component == 29 then with_two
    (λ p s. OffsetHour (record { padding = p; sign_is_mandatory = s })) (padding_of n.padding)
    (flag_of n.sign_is_mandatory)
    else if n.component == 30 then with_one (λ p. OffsetMinute (record { padding = p }))
    (padding_of n.padding)
    else if n.component == 31 then with_one (λ p. OffsetSecond (record { padding = p }))
    (padding_of n.padding)
    else if n.component == 32 then with_one (λ c. Ignore (record { count = c }))
    (count_of n.ignored)
    else if n.component == 33 then with_one
    (λ s. UnixTimestampSecond (record { sign_is_mandatory = s })) (flag_of n.sign_is_mandatory)
    else if n.component == 34 then with_one
    (λ s. UnixTimestampMillisecond (record { sign_is_mandatory = s }))
    (flag_of n.sign_is_mandatory)
    else if n.component == 35 then with_one
    (λ s. UnixTimestampMicrosecond (record { sign_is_mandatory = s }))
    (flag_of n.sign_is_mandatory)
    else if n.component == 36 then with_one
    (λ s. UnixTimestampNanosecond (record { sign_is_mandatory = s }))
    (flag_of n.sign_is_mandatory)
    else if n.component == 37 then with_one (λ t. End (record { trailing_input = t }))
    (trailing_input_of n.trailing_input)
    else None

-- whether a formatter writes an optional part: the flag of the node, which has one member
abbrev pub format_of : RawNode → Option Bool
format_of n = if n.count == 1 then flag_of n.format else None

-- the trees so far, with the last `count` of them made one, if there are as many
abbrev pub with_members : ℕ → (List Tree → Tree) → List Tree → Option (List Tree)
with_members count make ts =
    if nat_le count (length ts) then Some
    (take (length ts - count) ts ++ make (drop (length ts - count) ts) ∷ [])
    else None

abbrev pub with_component : Option Component → List Tree → Option (List Tree)
with_component None ts = None
with_component (Some c) ts = Some (ts ++ component (modern c) ∷ [])

abbrev pub with_optional : Option Bool → List Tree → Option (List Tree)
with_optional None ts = None
with_optional (Some format) ts = with_members 1 (λ us. optional format (pack us)) ts

-- the trees so far, and one more node with these literals, if it is of this kind
abbrev pub with_node : ℕ → Text → RawNode → List Tree → Option (List Tree)
with_node what literals n ts =
    if what == LITERAL then Some (ts ++ literal (take n.count (drop n.start literals)) ∷ [])
    else if what == COMPONENT then with_component (component_of n) ts
    else if what == COMPOUND then with_members n.count (λ us. compound (trees us)) ts
    else if what == OPTIONAL then with_optional (format_of n) ts
    else if what == FIRST then with_members n.count (λ us. first (trees us)) ts
    else None

abbrev pub grown_with : Text → RawNode → Option (List Tree) → Option (List Tree)
grown_with literals n None = None
grown_with literals n (Some ts) = with_node n.what literals n ts

-- the trees so far, and these nodes
abbrev pub read_on : Text → List RawNode → Option (List Tree) → Option (List Tree)
read_on literals [] ts = ts
read_on literals (n ∷ ns) ts = read_on literals ns (grown_with literals n ts)

-- the trees that nodes read as: each node takes its members from the end of the trees so far, and puts its
-- own tree there
abbrev pub read_nodes : Text → List RawNode → Option (List Tree)
read_nodes literals ns = read_on literals ns (Some [])
