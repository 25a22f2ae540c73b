-- The node of each part of a description.
use Rattle.std.specs.Prelude.{ℕ, ◌+◌, ◌-◌, ◌^◌, ◌++◌, min, Bool, true, false, List, [], ◌∷◌, length}
use Rattle.timefd_modifier.specs.declared.enums.Padding.{Padding}
use Rattle.timefd_modifier.specs.declared.enums.SubsecondDigits.{SubsecondDigits}
use Rattle.timefd_modifier.specs.declared.enums.TrailingInput.{TrailingInput}
use Rattle.timefd_lang_component.specs.declared.component.Component.{Component}
use Rattle.timefd_lang_component.specs.declared.component.Component.TheVariants.{Day, MonthShort, MonthLong, MonthNumerical, Ordinal, WeekdayShort, WeekdayLong, WeekdaySunday, WeekdayMonday, WeekNumberIso, WeekNumberSunday, WeekNumberMonday, CalendarYearFullExtendedRange, CalendarYearFullStandardRange, CalendarYearCenturyExtendedRange, CalendarYearCenturyStandardRange, IsoYearFullExtendedRange, IsoYearFullStandardRange, IsoYearCenturyExtendedRange, IsoYearCenturyStandardRange, CalendarYearLastTwo, IsoYearLastTwo, Hour12, Hour24, Minute, Period, Second, Subsecond, OffsetHour, OffsetMinute, OffsetSecond, Ignore, UnixTimestampSecond, UnixTimestampMillisecond, UnixTimestampMicrosecond, UnixTimestampNanosecond, End}
use Rattle.timefd_lang_node_list.specs.Nodes.{kept_bytes}
use Rattle.timefd_lang_component.specs.Reserved.{reserve, tree_count, trees_count, digits_shown}
use Rattle.timefd_lang_component.specs.Tree.{Text, Tree, component, literal, compound, optional, first, Trees, no_trees, more_trees}
use Rattle.timefd_c_nodes.specs.declared.node.RawNode.{RawNode}
use Rattle.timefd_c_nodes.specs.declared.node.TheConstants.{LITERAL, COMPONENT, COMPOUND, OPTIONAL, FIRST, COMPOSITE}

-- Numbers. A field that a component doesn't have is 0.

abbrev pub flag_number : Bool → ℕ
flag_number false = 1
flag_number true = 2

abbrev pub padding_number : Padding → ℕ
padding_number Padding.Space = 1
padding_number Padding.Zero = 2
padding_number Padding.None = 3

abbrev pub digits_number : SubsecondDigits → ℕ
digits_number SubsecondDigits.One = 1
digits_number SubsecondDigits.Two = 2
digits_number SubsecondDigits.Three = 3
digits_number SubsecondDigits.Four = 4
digits_number SubsecondDigits.Five = 5
digits_number SubsecondDigits.Six = 6
digits_number SubsecondDigits.Seven = 7
digits_number SubsecondDigits.Eight = 8
digits_number SubsecondDigits.Nine = 9
digits_number SubsecondDigits.OneOrMore = 10

abbrev pub trailing_input_number : TrailingInput → ℕ
trailing_input_number TrailingInput.Prohibit = 1
trailing_input_number TrailingInput.Discard = 2

-- Nodes.

abbrev pub blank : ℕ → RawNode
blank what = record {
  what = what;
  component = 0;
  padding = 0;
  sign_is_mandatory = 0;
  case_sensitive = 0;
  one_indexed = 0;
  is_uppercase = 0;
  digits = 0;
  trailing_input = 0;
  format = 0;
  ignored = 0;
  bytes = 0;
  start = 0;
  count = 0;
}

-- What the `bytes` field of a node says if this many bytes are reserved for it: at most what 32 bits hold.
abbrev pub shown_bytes : ℕ → ℕ
shown_bytes bytes = min bytes (2 ^ 32 - 1)

-- bytes of the buffer of literals, from an index on
abbrev pub literal_node : ℕ → ℕ → RawNode
literal_node start len = record (blank LITERAL) { start = start; count = len; bytes = shown_bytes len }

abbrev pub compound_node : ℕ → ℕ → ℕ → RawNode
compound_node start count bytes = record (blank COMPOUND) {
  start = start;
  count = count;
  bytes = shown_bytes bytes;
}

abbrev pub optional_node : ℕ → Bool → ℕ → RawNode
optional_node start format bytes = record (blank OPTIONAL) {
  format = flag_number format;
  start =
      start;
  count = 1;
  bytes = shown_bytes bytes;
}

abbrev pub first_node : ℕ → ℕ → ℕ → RawNode
first_node start count bytes = record (blank FIRST) {
  start = start;
  count = count;
  bytes = shown_bytes bytes;
}

abbrev pub composite_node : ℕ → ℕ → ℕ → RawNode
composite_node start count bytes = record (blank COMPOSITE) {
  start = start;
  count = count;
  bytes = shown_bytes bytes;
}

-- a component, and the bytes that it reserves
abbrev pub numbered : ℕ → ℕ → RawNode
numbered number bytes = record (blank COMPONENT) { component = number; bytes = bytes }

abbrev pub padded : ℕ → ℕ → Padding → RawNode
padded number bytes p = record (numbered number bytes) { padding = padding_number p }

abbrev pub signed : ℕ → ℕ → Padding → Bool → RawNode
signed number bytes p sign = record (numbered number bytes) {
  padding =
      padding_number p;
  sign_is_mandatory = flag_number sign;
}

abbrev pub timestamp : ℕ → ℕ → Bool → RawNode
timestamp number bytes sign = record (numbered number bytes) {
  sign_is_mandatory =
      flag_number sign;
}

abbrev pub cased : ℕ → ℕ → Bool → RawNode
cased number bytes sensitive = record (numbered number bytes) {
  case_sensitive =
      flag_number sensitive;
}

abbrev pub indexed : ℕ → ℕ → Bool → RawNode
indexed number bytes one = record (numbered number bytes) { one_indexed = flag_number one }

abbrev pub period : ℕ → ℕ → Bool → Bool → RawNode
period number bytes upper sensitive =
    record (numbered number bytes) {
      is_uppercase = flag_number upper;
      case_sensitive =
          flag_number sensitive;
    }

abbrev pub subsecond : ℕ → SubsecondDigits → RawNode
subsecond number d = record (numbered number (digits_shown d)) { digits = digits_number d }

abbrev pub ignored : ℕ → ℕ → RawNode
ignored number count = record (numbered number 0) { ignored = count }

abbrev pub end : ℕ → TrailingInput → RawNode
end number t = record (numbered number 0) { trailing_input = trailing_input_number t }

-- the number of each component, and the numbers of its modifiers; no text has a deprecated one
abbrev pub component_table : Component → RawNode
component_table (Day m) = padded 1 2 m.padding
component_table (MonthShort m) = cased 2 3 m.case_sensitive
component_table (MonthLong m) = cased 3 9 m.case_sensitive
component_table (MonthNumerical m) = padded 4 2 m.padding
component_table (Ordinal m) = padded 5 3 m.padding
component_table (WeekdayShort m) = cased 6 3 m.case_sensitive
component_table (WeekdayLong m) = cased 7 9 m.case_sensitive
component_table (WeekdaySunday m) = indexed 8 1 m.one_indexed
component_table (WeekdayMonday m) = indexed 9 1 m.one_indexed
component_table (WeekNumberIso m) = padded 10 2 m.padding
component_table (WeekNumberSunday m) = padded 11 2 m.padding
component_table (WeekNumberMonday m) = padded 12 2 m.padding
component_table (CalendarYearFullExtendedRange m) = signed 13 7 m.padding m.sign_is_mandatory
component_table (CalendarYearFullStandardRange m) = signed 14 5 m.padding m.sign_is_mandatory
component_table (CalendarYearCenturyExtendedRange m) = signed 15 5 m.padding m.sign_is_mandatory
component_table (CalendarYearCenturyStandardRange m) = signed 16 3 m.padding m.sign_is_mandatory
component_table (IsoYearFullExtendedRange m) = signed 17 7 m.padding m.sign_is_mandatory
component_table (IsoYearFullStandardRange m) = signed 18 5 m.padding m.sign_is_mandatory
component_table (IsoYearCenturyExtendedRange m) = signed 19 5 m.padding m.sign_is_mandatory
component_table (IsoYearCenturyStandardRange m) = signed 20 3 m.padding m.sign_is_mandatory
component_table (CalendarYearLastTwo m) = padded 21 2 m.padding
component_table (IsoYearLastTwo m) = padded 22 2 m.padding
component_table (Hour12 m) = padded 23 2 m.padding
component_table (Hour24 m) = padded 24 2 m.padding
component_table (Minute m) = padded 25 2 m.padding
component_table (Period m) = period 26 2 m.is_uppercase m.case_sensitive
component_table (Second m) = padded 27 2 m.padding
component_table (Subsecond m) = subsecond 28 m.digits
component_table (OffsetHour m) = signed 29 3 m.padding m.sign_is_mandatory
component_table (OffsetMinute m) = padded 30 2 m.padding
component_table (OffsetSecond m) = padded 31 2 m.padding
component_table (Ignore m) = ignored 32 m.count.value
component_table (UnixTimestampSecond m) = timestamp 33 15 m.sign_is_mandatory
component_table (UnixTimestampMillisecond m) = timestamp 34 18 m.sign_is_mandatory
component_table (UnixTimestampMicrosecond m) = timestamp 35 21 m.sign_is_mandatory
component_table (UnixTimestampNanosecond m) = timestamp 36 24 m.sign_is_mandatory
component_table (End m) = end 37 m.trailing_input
component_table deprecated = blank COMPONENT

abbrev pub component_node : Component → ℕ → RawNode
component_node c at = record (component_table c) { start = at }

-- how many members there are
abbrev pub trees_len : Trees → ℕ
trees_len no_trees = 0
trees_len (more_trees t ts) = 1 + trees_len ts

-- The node of a tree. It has the index `at`, and `used` bytes of literals are before it. The nodes of its
-- members are right before it.
abbrev pub node_for : ℕ → ℕ → Tree → RawNode
node_for at used (component c) = component_node c at
node_for at used (literal bytes) = literal_node used (length bytes)
node_for at used (compound ts) = compound_node (at - trees_count ts) (trees_len ts)
    (kept_bytes (reserve (compound ts)))
node_for at used (optional format t) =
    optional_node (at - tree_count t) format (kept_bytes (reserve (optional format t)))
node_for at used (first ts) = first_node (at - trees_count ts) (trees_len ts)
    (kept_bytes (reserve (first ts)))

-- the bytes that a tree adds to the literals
abbrev pub own_text : Tree → Text
own_text (literal bytes) = bytes
own_text other = []

-- the bytes that some parts add to the literals, one after another
abbrev pub texts_of : {A : Type 0} → (A → Text) → List A → Text
texts_of own [] = []
texts_of own (a ∷ parts) = own a ++ texts_of own parts

-- the nodes of some parts, one after another; the first has the index `at`
abbrev pub nodes_by : {A : Type 0} → (ℕ → ℕ → A → RawNode) → (A → Text) → ℕ → ℕ → List A → List RawNode
nodes_by node own at used [] = []
nodes_by node own at used (a ∷ parts) =
    node at used a ∷ nodes_by node own (at + 1) (used + length (own a)) parts

-- the literals of some trees, one after another
abbrev pub literals_of : List Tree → Text
literals_of ts = texts_of own_text ts

-- the nodes of some trees, one after another; the first has the index `at`
abbrev pub nodes_from : ℕ → ℕ → List Tree → List RawNode
nodes_from at used ts = nodes_by node_for own_text at used ts
