-- The faults of a text have short words, so the length of each sentence fits in a `usize`.
use Rattle.std.proofs.Common.{ℕ, suc, ◌++◌, ◌+◌, ◌≤◌, ◌==◌, ◌&&◌, not, is_some, map, Bool, true, false, if◌then◌else◌, List, [], ◌∷◌, length, Option, Some, None, Result, Ok, Err, sym, subst, arith, codes}
use Rattle.std.specs.Prelude.{⊤}
use Rattle.std.specs.declared.num.NonZeroU16.{NonZeroU16}
use Rattle.timefd_lang_component.specs.declared.component.Component.{Component}
use Rattle.timefd_lang_component.specs.declared.component.Component.TheVariants.{Day, MonthShort, MonthLong, MonthNumerical, Ordinal, WeekdayShort, WeekdayLong, WeekdaySunday, WeekdayMonday, WeekNumberIso, WeekNumberSunday, WeekNumberMonday, CalendarYearFullExtendedRange, CalendarYearFullStandardRange, CalendarYearCenturyExtendedRange, CalendarYearCenturyStandardRange, IsoYearFullExtendedRange, IsoYearFullStandardRange, IsoYearCenturyExtendedRange, IsoYearCenturyStandardRange, CalendarYearLastTwo, IsoYearLastTwo, Hour12, Hour24, Minute, Period, Second, Subsecond, OffsetHour, OffsetMinute, OffsetSecond, Ignore, UnixTimestampSecond, UnixTimestampMillisecond, UnixTimestampMicrosecond, UnixTimestampNanosecond, End, Month, Weekday, WeekNumber, Hour, UnixTimestamp, Year}
use Rattle.timefd_lang_component.specs.Tree.{Text, Tree, component, first, optional, pack, trees}
use Rattle.timefd_lang_fault.specs.Faults.{Kind, Fault, fault, unclosed_bracket, invalid_name, invalid_modifier, missing_name, missing_modifier, expected, not_supported, duplicate_modifier, invalid_combination}
use Rattle.timefd_language.specs.declared.description_version.DescriptionVersion.{DescriptionVersion}
use Rattle.timefd_lang_fault.specs.declared.name.ComponentName.{ComponentName}
use Rattle.timefd_lang_fault.specs.declared.name.ComponentName.TheVariants as names
use Rattle.timefd_language.specs.declared.setting.Settings.{Settings}
use Rattle.timefd_language.specs.Broken.{Broken, before_inner, IsBroken, FaultOf, broken_fault, bare_closing, half_escape, nameless, ill_modified, too_deep, broken_inside, cut_off, unclosed, refused, no_colon, no_key, no_value}
use Rattle.timefd_language.specs.Bytes.{is_version_three, equal, named, same}
use Rattle.timefd_language.specs.Combinations.{Refusal, refusals}
use Rattle.timefd_language.specs.Fault.{enclosed}
use Rattle.timefd_lang_fault.specs.Words.{expected_white, expected_nested, expected_alternative, optional_item, first_item}
use Rattle.timefd_language.specs.Head.{Head, Placed, head_text, placed}
use Rattle.timefd_language.specs.Grammar.{spelling, nested_text, parts_from}
use Rattle.timefd_language.specs.Names.{Row, ignore, ignored, row_for, row_of, rows, component_names}
use Rattle.timefd_language.specs.Strftime.{StrftimeFaultOf, IllDirective, cut_short, unknown, ill_fault, name_of}
use Rattle.timefd_language.specs.Values.{Key, format, key_in, setting_in}
use Rattle.timefd_language.specs.Verdict.{PlacedDescription, ◌or◌, refuse, unless, is_set, bad_value, bad_modifier, is_formatted, only, bad_modifiers, misplaced, combined, combination, made, after, component_verdict, touching, too_many, nested_refused, nested_wanted, any_modifier, optional_verdict, first_verdict, settings, verdict}
use Rattle.timefd_language.proofs.Lookup.{Each, each-map}
use Rattle.timefd_lang_fault.specs.BorrowedFaults.{HasShortWords, HasShortFault, IsBorrowedOf, to_borrowed_fault}
use Rattle.timefd_lang_fault.specs.declared.borrowed_parse_error.BorrowedParseError.{BorrowedParseError}
use Rattle.timefd_lang_fault.specs.declared.borrowed_parse_error.BorrowedParseError.TheVariants.{Invalid, Memory}

abbrev Short : Option Fault → Type 0
Short None = ⊤
Short (Some f) = HasShortWords f.kind

abbrev ShortErr : Result Tree Fault → Type 0
ShortErr (Ok t) = ⊤
ShortErr (Err f) = HasShortWords f.kind

abbrev ShortKind : Result Component Kind → Type 0
ShortKind (Ok c) = ⊤
ShortKind (Err k) = HasShortWords k

short_or : (a b : Option Fault) → Short a → Short b → Short (a or b)
short_or None b one next = next
short_or (Some f) b one next = one

short_refuse : (t : Bool) (kind : Kind) (i : ℕ) → HasShortWords kind → Short (refuse t kind i)
short_refuse true kind i short = short
short_refuse false kind i short = tt

short_unless : (o : Option Fault) (t : Tree) → Short o → ShortErr (unless o t)
short_unless None t short = tt
short_unless (Some f) t short = short

short_after : (o : Option Fault) (r : Result Tree Fault) → Short o → ShortErr r
    → ShortErr (after o r)
short_after None r short next = next
short_after (Some f) r short next = short

-- Modifiers.

short_modifier : (strict : Bool) (k : Option Key) (before : List Placed) (m : Placed)
    → Short (bad_modifier strict k before m)
short_modifier strict None before m = tt
short_modifier strict (Some k) before m =
    let twice : Bool = strict && is_set strict k.key before in
    let unread : Bool = not (is_some (setting_in strict k.values m.value)) in
    short_or (refuse twice (duplicate_modifier k.key) m.key_index) (bad_value strict k m)
    (short_refuse twice (duplicate_modifier k.key) m.key_index tt)
    (short_refuse unread (invalid_modifier m.value) m.value_index tt)

short_modifiers : (strict : Bool) (keys : List Key) (before ms : List Placed)
    → Short (bad_modifiers strict keys before ms)
short_modifiers strict keys before [] = tt
short_modifiers strict keys before (m ∷ ms) =
    short_or (bad_modifier strict (key_in strict m.key keys) before m)
    (bad_modifiers strict keys (before ++ m ∷ []) ms)
    (short_modifier strict (key_in strict m.key keys) before m)
    (short_modifiers strict keys (before ++ m ∷ []) ms)

-- Components.

abbrev AreShort : List Refusal → Type 0
AreShort [] = ⊤
AreShort (r ∷ rs) = (length r.key + length r.context ≤ 100) × AreShort rs

short_refusals : (c : Component) → AreShort (refusals c)
short_refusals (Day m) = tt
short_refusals (MonthShort m) = (omega arith, tt)
short_refusals (MonthLong m) = (omega arith, tt)
short_refusals (MonthNumerical m) = (omega arith, tt)
short_refusals (Ordinal m) = tt
short_refusals (WeekdayShort m) = (omega arith, tt)
short_refusals (WeekdayLong m) = (omega arith, tt)
short_refusals (WeekdaySunday m) = (omega arith, tt)
short_refusals (WeekdayMonday m) = (omega arith, tt)
short_refusals (WeekNumberIso m) = tt
short_refusals (WeekNumberSunday m) = tt
short_refusals (WeekNumberMonday m) = tt
short_refusals (CalendarYearFullExtendedRange m) = tt
short_refusals (CalendarYearFullStandardRange m) = tt
short_refusals (CalendarYearCenturyExtendedRange m) = tt
short_refusals (CalendarYearCenturyStandardRange m) = tt
short_refusals (IsoYearFullExtendedRange m) = tt
short_refusals (IsoYearFullStandardRange m) = tt
short_refusals (IsoYearCenturyExtendedRange m) = tt
short_refusals (IsoYearCenturyStandardRange m) = tt
short_refusals (CalendarYearLastTwo m) = (omega arith, (omega arith, tt))
short_refusals (IsoYearLastTwo m) = (omega arith, (omega arith, tt))
short_refusals (Hour12 m) = tt
short_refusals (Hour24 m) = tt
short_refusals (Minute m) = tt
short_refusals (Period m) = tt
short_refusals (Second m) = tt
short_refusals (Subsecond m) = tt
short_refusals (OffsetHour m) = tt
short_refusals (OffsetMinute m) = tt
short_refusals (OffsetSecond m) = tt
short_refusals (Ignore m) = tt
short_refusals (UnixTimestampSecond m) = tt
short_refusals (UnixTimestampMillisecond m) = tt
short_refusals (UnixTimestampMicrosecond m) = tt
short_refusals (UnixTimestampNanosecond m) = tt
short_refusals (End m) = tt
short_refusals (Month m) = tt
short_refusals (Weekday m) = tt
short_refusals (WeekNumber m) = tt
short_refusals (Hour m) = tt
short_refusals (UnixTimestamp m) = tt
short_refusals (Year m) = tt

short_misplaced : (r : Refusal) (ms : List Placed) → length r.key + length r.context ≤ 100
    → Short (misplaced r ms)
short_misplaced r [] short = tt
short_misplaced r (m ∷ ms) short =
    short_or (refuse (equal r.key m.key) (invalid_combination r.key r.context) m.key_index)
    (misplaced r ms)
    (short_refuse (equal r.key m.key) (invalid_combination r.key r.context) m.key_index short)
    (short_misplaced r ms short)

short_combined : (rs : List Refusal) (ms : List Placed) → AreShort rs → Short (combined rs ms)
short_combined [] ms short = tt
short_combined (r ∷ rs) ms short =
    short_or (misplaced r ms) (combined rs ms) (short_misplaced r ms short.0)
    (short_combined rs ms short.1)

short_combination : (strict : Bool) (c : Component) (ms : List Placed)
    → Short (combination strict c ms)
short_combination true c ms = short_combined (refusals c) ms (short_refusals c)
short_combination false c ms = tt

short_made : (strict : Bool) (h : Head) (r : Result Component Kind) → ShortKind r
    → ShortErr (made strict h r)
short_made strict h (Ok c) short =
    short_unless (combination strict c (placed h)) (component c)
    (short_combination strict c (placed h))
short_made strict h (Err k) short = short

-- The words of the table.

short_ignored : (n : Option NonZeroU16) → ShortKind (ignored n)
short_ignored None = tt
short_ignored (Some n) = tt

short_ignore : (s : Settings) → ShortKind (ignore s)
short_ignore s = short_ignored s.count

abbrev HasShortRow : Row → Type 0
HasShortRow r = (s : Settings) → ShortKind (r.component s)

abbrev IfRow : (Row → Type 0) → Option Row → Type 0
IfRow P None = ⊤
IfRow P (Some r) = P r

first_or_next : (P : Row → Type 0) (x : Row) (o : Option Row) (t : Bool) → P x → IfRow P o
    → IfRow P (elim t [ true ↦ Some x | false ↦ o ])
first_or_next P x o true one next = one
first_or_next P x o false one next = next

each-named : (P : Row → Type 0) (strict : Bool) (text : Text) (xs : List Row) → Each P xs
    → IfRow P (named (λ r. r.name) strict text xs)
each-named P strict text [] all = tt
each-named P strict text (x ∷ xs) all =
    first_or_next P x (named (λ r. r.name) strict text xs) (same strict x.name text) all.0
    (each-named P strict text xs all.1)

short_row : (n : ComponentName) (s : Settings) → ShortKind ((row_for n).component s)
short_row names.Day s = tt
short_row names.End s = tt
short_row names.Hour s = tt
short_row names.Ignore s = short_ignore s
short_row names.Minute s = tt
short_row names.Month s = tt
short_row names.OffsetHour s = tt
short_row names.OffsetMinute s = tt
short_row names.OffsetSecond s = tt
short_row names.Ordinal s = tt
short_row names.Period s = tt
short_row names.Second s = tt
short_row names.Subsecond s = tt
short_row names.UnixTimestamp s = tt
short_row names.Weekday s = tt
short_row names.WeekNumber s = tt
short_row names.Year s = tt

short_named : (strict : Bool) (name : Text) → IfRow HasShortRow (row_of strict name)
short_named strict name = each-named HasShortRow strict name rows
    (each-map row_for HasShortRow component_names short_row)

short_component : (strict : Bool) (h : Head) (o : Option Row) → IfRow HasShortRow o
    → ShortErr (component_verdict strict h o)
short_component strict h None short = tt
short_component strict h (Some row) short =
    let c : Result Component Kind = row.component (settings strict row.keys (placed h)) in
    short_after (bad_modifiers strict row.keys [] (placed h)) (made strict h c)
    (short_modifiers strict row.keys [] (placed h))
    (short_made strict h c (short (settings strict row.keys (placed h))))

-- Brackets.

short_touching : (parts : List PlacedDescription) → Short (touching parts)
short_touching [] = tt
short_touching (p ∷ ps) = short_refuse (not p.spaced) expected_white p.index tt

short_many : (parts : List PlacedDescription) → Short (too_many parts)
short_many [] = tt
short_many (p ∷ []) = tt
short_many (p ∷ q ∷ ps) = omega arith

short_nested : (parts : List PlacedDescription) → Short (nested_refused parts)
short_nested [] = tt
short_nested (p ∷ ps) = omega arith

short_wanted : (kind : Kind) (parts : List PlacedDescription) (close : ℕ) → HasShortWords kind
    → Short (nested_wanted kind parts close)
short_wanted kind [] close short = short
short_wanted kind (p ∷ ps) close short = tt

short_any : (ms : List Placed) → Short (any_modifier ms)
short_any [] = tt
short_any (m ∷ ms) = tt

short_optional : (strict : Bool) (h : Head) (parts : List PlacedDescription) (close : ℕ)
    → ShortErr (optional_verdict strict h parts close)
short_optional strict h parts close =
    let bad : Option Fault = bad_modifiers strict (format ∷ []) [] (placed h) in
    let wanted : Option Fault = nested_wanted expected_nested parts close in
    let lax : Option Fault = refuse (not strict) optional_item 0 in
    short_unless (bad or too_many parts or wanted or lax)
    (optional (is_formatted strict (placed h)) (only parts))
    (short_or bad (too_many parts or wanted or lax)
    (short_modifiers strict (format ∷ []) [] (placed h))
    (short_or (too_many parts) (wanted or lax) (short_many parts)
    (short_or wanted lax (short_wanted expected_nested parts close tt)
    (short_refuse (not strict) optional_item 0 (omega arith)))))

short_first : (strict : Bool) (h : Head) (parts : List PlacedDescription) (close : ℕ)
    → ShortErr (first_verdict strict h parts close)
short_first true h parts close =
    let wanted : Option Fault = nested_wanted expected_alternative parts close in
    short_unless (any_modifier (placed h) or wanted)
    (first (trees (map (λ (p : PlacedDescription). pack p.trees) parts)))
    (short_or (any_modifier (placed h)) wanted (short_any (placed h))
    (short_wanted expected_alternative parts close tt))
short_first false h parts close =
    let lax : Option Fault = Some (fault first_item 0) in
    short_unless (any_modifier (placed h) or lax)
    (first (trees (map (λ (p : PlacedDescription). pack p.trees) parts)))
    (short_or (any_modifier (placed h)) lax (short_any (placed h)) (omega arith))

short_if : (t : Bool) (a b : Result Tree Fault) → ShortErr a → ShortErr b
    → ShortErr (if t then a else b)
short_if true a b one next = one
short_if false a b one next = next

short_verdict : (strict : Bool) (h : Head) (parts : List PlacedDescription) (close : ℕ)
    → ShortErr (verdict strict h parts close)
short_verdict strict h parts close =
    let is_optional : Bool = same strict (codes "optional") h.name in
    let is_first : Bool = same strict (codes "first") h.name in
    let c : Result Tree Fault = component_verdict strict h (row_of strict h.name) in
    let other : Result Tree Fault = after (nested_refused parts) c in
    let firsts : Result Tree Fault = first_verdict strict h parts close in
    let optionals : Result Tree Fault = optional_verdict strict h parts close in
    short_after (touching parts)
    (if is_optional then optionals else if is_first then firsts else other)
    (short_touching parts)
    (short_if is_optional optionals (if is_first then firsts else other)
    (short_optional strict h parts close)
    (short_if is_first firsts other (short_first strict h parts close)
    (short_after (nested_refused parts) c (short_nested parts)
    (short_component strict h (row_of strict h.name) (short_named strict h.name)))))

short_enclosed : (kind : Kind) (i k : ℕ) → HasShortWords kind
    → HasShortWords (enclosed kind i k).kind
short_enclosed unclosed_bracket i k short = tt
short_enclosed (invalid_name name) i k short = tt
short_enclosed (invalid_modifier value) i k short = tt
short_enclosed missing_name i k short = tt
short_enclosed (missing_modifier key) i k short = tt
short_enclosed (expected what) i k short = tt
short_enclosed (not_supported what context) i k short = short
short_enclosed (duplicate_modifier key) i k short = tt
short_enclosed (invalid_combination key context) i k short = short

short_broken : (v : DescriptionVersion) (limit n : ℕ) (b : Broken) → IsBroken v limit n b
    → HasShortWords (broken_fault b).kind
short_broken v limit n (bare_closing rest) is = tt
short_broken v limit n (half_escape rest) is = tt
short_broken v limit n (nameless white rest) is = tt
short_broken v limit n (ill_modified h white (no_colon word) rest) is = tt
short_broken v limit n (ill_modified h white (no_key value) rest) is = tt
short_broken v limit n (ill_modified h white (no_value key) rest) is = tt
short_broken v limit n (too_deep h ns white rest) is = omega arith
short_broken v limit n (broken_inside h ns white front inner) is =
    short_enclosed (broken_fault inner).kind (broken_fault inner).index
    (length (before_inner h ns white ++ spelling front)) (short_broken v limit (suc n) inner is.5)
short_broken v limit n (cut_off h ns white front) is = tt
short_broken v limit n (unclosed h ns white rest) is = tt
short_broken v limit n (refused h ns white f rest) is =
    subst ShortErr is.3
    (short_verdict (is_version_three v) h (parts_from (length (head_text h)) ns)
    (length (head_text h ++ nested_text ns ++ white)))

pub short_fault : (v : DescriptionVersion) (limit : ℕ) (text : Text) (f : Fault)
    → FaultOf v limit text f → HasShortWords f.kind
short_fault v limit text f is =
    subst (λ g. HasShortWords g.kind) (sym is.5) (short_broken v limit 0 is.1 is.3)

-- Strftime.

short_unknown : (o z : Bool) (b : ℕ)
    → HasShortWords (if o then not_supported (codes "modifier") []
    else if z then not_supported (codes "component") [] else invalid_name (name_of b))
short_unknown true z b = omega arith
short_unknown false true b = omega arith
short_unknown false false b = tt

short_ill : (ill : IllDirective) → HasShortWords (ill_fault ill).kind
short_ill (cut_short f) = tt
short_ill (unknown f b rest) = short_unknown (b == 79) (b == 90) b

pub short_strftime_fault : (text : Text) (f : Fault) → StrftimeFaultOf text f
    → HasShortWords f.kind
short_strftime_fault text f is =
    subst (λ g. HasShortWords g.kind) (sym is.5) (short_ill is.1)

-- Borrowed faults.
pub short_borrowed : (P : Fault → Type 0) → ((f : Fault) → P f → HasShortWords f.kind)
    → (e : BorrowedParseError) → IsBorrowedOf P e → HasShortFault e
short_borrowed P short (Invalid f) is = short (to_borrowed_fault f) is
short_borrowed P short (Memory m) is = tt
