-- Reading a text: its pieces, and what stops them. Each step has a number one greater than the steps
-- inside of it, so reading ends. The length of the text is a large enough number to start with.
use Rattle.std.proofs.Common.{ℕ, zero, suc, ◌==◌, nat_lt, Bool, true, false, List, [], ◌∷◌, Result, Ok, Err, length}
use Rattle.timefd_language.specs.declared.description_version.DescriptionVersion.{DescriptionVersion}
use Rattle.timefd_language.specs.declared.description_version.DescriptionVersion.TheVariants.{One, Two, Three}
use Rattle.timefd_lang_component.specs.Tree.{Text, Tree}
use Rattle.timefd_language.specs.Bytes.{left, backslash, right, is_white, is_special, is_word_byte, is_key_byte, is_run_byte, is_version_three}
use Rattle.timefd_lang_fault.specs.Faults.{Fault}
use Rattle.timefd_language.specs.Fault.{raised}
use Rattle.timefd_language.specs.Head.{Modifier, Head}
use Rattle.timefd_language.specs.Grammar.{Pieces, no_pieces, run, escape, closing, bracket, Nested, no_nested, nested, spelling, items, bracket_verdict}
use Rattle.timefd_language.specs.Front.{Stop, ended, closed, broke, Reading}
use Rattle.timefd_language.specs.Broken.{Misfit, no_colon, no_key, no_value, Broken, bare_closing, half_escape, nameless, ill_modified, too_deep, broken_inside, cut_off, unclosed, refused, broken_fault}

-- the longest front whose bytes pass, and the rest
pub record Cut : Type 0 where
  pub front : Text
  pub rest : Text

abbrev pub cut : Text → Text → Cut
cut front rest = record { front = front; rest = rest }

abbrev pub after_one : ℕ → Cut → Cut
after_one b c = cut (b ∷ c.front) c.rest

unfoldable pub span : (ℕ → Bool) → Text → Cut
span test [] = cut [] []
span test (b ∷ bytes) = elim (test b)
    [ true ↦ after_one b (span test bytes) | false ↦ cut [] (b ∷ bytes) ]

-- Words.

pub data WordRead : Type 0 where
  fits : Text → Text → WordRead
  misfits : Misfit → WordRead

abbrev pub valued : Text → Text → WordRead
valued [] value = misfits (no_key value)
valued (b ∷ key) [] = misfits (no_value (b ∷ key))
valued (b ∷ key) (c ∷ value) = fits (b ∷ key) (c ∷ value)

-- a front of key bytes, and what follows it
abbrev pub keyed : Text → Text → WordRead
keyed key [] = misfits (no_colon key)
keyed key (c ∷ value) = valued key value

unfoldable pub word_of : Text → WordRead
word_of word = let c = span is_key_byte word in keyed c.front c.rest

-- Modifiers.

pub data ModifiersRead : Type 0 where
  all_fit : List Modifier → Text → ModifiersRead
  one_misfits : List Modifier → Text → Misfit → Text → ModifiersRead

abbrev pub modifier : Text → Text → Text → Modifier
modifier white key value = record { white = white; key = key; value = value }

abbrev pub with_modifier : Modifier → ModifiersRead → ModifiersRead
with_modifier m (all_fit ms rest) = all_fit (m ∷ ms) rest
with_modifier m (one_misfits ms white word rest) = one_misfits (m ∷ ms) white word rest

-- white bytes, a word as it was read, and the rest, whose modifiers are `next`
abbrev pub word_continued : (Text → ModifiersRead) → Text → Text → WordRead → ModifiersRead
word_continued next white rest (fits key value) =
    with_modifier (modifier white key value) (next rest)
word_continued next white rest (misfits m) = one_misfits [] white m rest

-- white bytes, a word that may be empty, and the rest of a text
abbrev pub modifiers_continued : (Text → ModifiersRead) → Text → Text → Text → Text → ModifiersRead
modifiers_continued next text [] word rest = all_fit [] text
modifiers_continued next text (b ∷ white) [] rest = all_fit [] text
modifiers_continued next text (b ∷ white) (c ∷ word) rest =
    word_continued next (b ∷ white) rest (word_of (c ∷ word))

unfoldable pub read_modifiers : ℕ → Text → ModifiersRead
read_modifiers zero text = all_fit [] text
read_modifiers (suc k) text =
    let w = span is_white text in
    let u = span is_word_byte w.rest in
    modifiers_continued (λ t. read_modifiers k t) text w.front u.front u.rest

-- What a text begins with.

pub data Start : Type 0 where
  at_end : Start
  at_run : Text → Text → Start
  at_closing : Text → Start
  at_escape : ℕ → ℕ → Text → Start
  at_head : Head → Text → Start
  at_outer_closing : Text → Start
  at_broken : Broken → Start

abbrev pub head_with : Text → Text → List Modifier → Head
head_with white name ms = record { white = white; name = name; modifiers = ms }

abbrev pub head_continued : Text → Text → ModifiersRead → Start
head_continued white name (all_fit ms rest) = at_head (head_with white name ms) rest
head_continued white name (one_misfits ms white' word rest) =
    at_broken (ill_modified (head_with white name ms) white' word rest)

abbrev pub named : ℕ → Text → Text → Text → Start
named k white [] rest = at_broken (nameless white rest)
named k white (b ∷ name) rest = head_continued white (b ∷ name) (read_modifiers k rest)

-- what follows a `[` that isn't an escape
unfoldable pub head_start : ℕ → Text → Start
head_start k text =
    let w = span is_white text in
    let u = span is_word_byte w.rest in
    named k w.front u.front u.rest

unfoldable pub left_start_one : ℕ → Text → Start
left_start_one k [] = head_start k []
left_start_one k (b ∷ text) = elim (b == left)
    [ true ↦ at_escape left left text | false ↦ head_start k (b ∷ text) ]

unfoldable pub left_start : ℕ → DescriptionVersion → Text → Start
left_start k One text = left_start_one k text
left_start k Two text = head_start k text
left_start k Three text = head_start k text

unfoldable pub backslash_start : Text → Start
backslash_start [] = at_broken (half_escape [])
backslash_start (b ∷ text) = elim (is_special b)
    [ true ↦ at_escape backslash b text | false ↦ at_broken (half_escape (b ∷ text)) ]

unfoldable pub right_start : DescriptionVersion → ℕ → Text → Start
right_start v (suc n) text = at_closing text
right_start v zero text = elim (is_version_three v)
    [ true ↦ at_broken (bare_closing text) | false ↦ at_outer_closing text ]

abbrev pub run_start : ℕ → Cut → Start
run_start b c = at_run (b ∷ c.front) c.rest

unfoldable pub start_of : ℕ → DescriptionVersion → ℕ → Text → Start
start_of k v n [] = at_end
start_of k v n (b ∷ text) =
    elim (is_run_byte v b) [
      | true ↦ run_start b (span (is_run_byte v) text)
      | false ↦ elim (b == right) [
        | true ↦ right_start v n text
        | false ↦ elim (b == left) [ true ↦ left_start k v text | false ↦ backslash_start text ]
      ]
    ]

-- What a nested description begins with, if there is one.

pub data NestedStart : Type 0 where
  no_more : Text → Text → NestedStart
  at_limit : Text → Text → NestedStart
  at_inner : Text → Text → NestedStart

abbrev pub nested_at : ℕ → ℕ → Text → Text → NestedStart
nested_at limit n white [] = no_more white []
nested_at limit n white (b ∷ rest) =
    elim (b == left) [
      | true ↦ elim (nat_lt n limit) [ true ↦ at_inner white rest | false ↦ at_limit white rest ]
      | false ↦ no_more white (b ∷ rest)
    ]

unfoldable pub nested_start_of : ℕ → ℕ → Text → NestedStart
nested_start_of limit n text = let w = span is_white text in nested_at limit n w.front w.rest

-- Pieces, and why they stop.

abbrev pub reading : Pieces → Stop → Reading
reading front stop = record { front = front; stop = stop }

-- Nested descriptions, and what follows them.

pub data NestedStop : Type 0 where
  over : Text → Text → NestedStop
  over_limit : Text → Text → NestedStop
  inner_broke : Text → Pieces → Broken → NestedStop
  inner_ended : Text → Pieces → NestedStop

pub record NestedReading : Type 0 where
  pub front : Nested
  pub stop : NestedStop

abbrev pub nested_reading : Nested → NestedStop → NestedReading
nested_reading front stop = record { front = front; stop = stop }

-- a bracket whose head and nested descriptions were read
pub data Closed : Type 0 where
  whole : Head → Nested → Text → Tree → Text → Closed
  fails : Broken → Closed

abbrev pub judged : Head → Nested → Text → Text → Result Tree Fault → Closed
judged h ns white rest (Ok tree) = whole h ns white tree rest
judged h ns white rest (Err f) = fails (refused h ns white f rest)

abbrev pub ended_by : DescriptionVersion → Head → Nested → Text → Text → Closed
ended_by v h ns white [] = fails (unclosed h ns white [])
ended_by v h ns white (b ∷ rest) =
    elim (b == right) [
      | true ↦ judged h ns white rest (bracket_verdict v h ns white)
      | false ↦ fails (unclosed h ns white (b ∷ rest))
    ]

abbrev pub stopped_by : DescriptionVersion → Head → Nested → NestedStop → Closed
stopped_by v h ns (over white rest) = ended_by v h ns white rest
stopped_by v h ns (over_limit white rest) = fails (too_deep h ns white rest)
stopped_by v h ns (inner_broke white front b) = fails (broken_inside h ns white front b)
stopped_by v h ns (inner_ended white front) = fails (cut_off h ns white front)

unfoldable pub closed_of : DescriptionVersion → Head → NestedReading → Closed
closed_of v h r = stopped_by v h r.front r.stop

abbrev pub with_bracket : (Text → Reading) → Closed → Reading
with_bracket next (whole h ns white tree rest) = let r = next rest in
    reading (bracket h ns white tree r.front) r.stop
with_bracket next (fails b) = reading no_pieces (broke b)

abbrev pub continued : DescriptionVersion → (Text → Reading) → (Text → NestedReading) → Start
    → Reading
continued v next into at_end = reading no_pieces ended
continued v next into (at_run bytes rest) = let r = next rest in reading (run bytes r.front) r.stop
continued v next into (at_closing rest) = reading no_pieces (closed rest)
continued v next into (at_escape a b rest) = let r = next rest in
    reading (escape a b r.front) r.stop
continued v next into (at_outer_closing rest) = let r = next rest in
    reading (closing r.front) r.stop
continued v next into (at_broken b) = reading no_pieces (broke b)
continued v next into (at_head h rest) = with_bracket next (closed_of v h (into rest))

abbrev pub inner_continued : (Text → NestedReading) → Text → Pieces → Stop → NestedReading
inner_continued next white front ended = nested_reading no_nested (inner_ended white front)
inner_continued next white front (closed rest) = let r = next rest in
    nested_reading (nested white front r.front) r.stop
inner_continued next white front (broke b) = nested_reading no_nested (inner_broke white front b)

abbrev pub inner_read : (Text → NestedReading) → Text → Reading → NestedReading
inner_read next white r = inner_continued next white r.front r.stop

abbrev pub nested_continued : (Text → Reading) → (Text → NestedReading) → NestedStart
    → NestedReading
nested_continued inner next (no_more white rest) = nested_reading no_nested (over white rest)
nested_continued inner next (at_limit white rest) = nested_reading no_nested (over_limit white rest)
nested_continued inner next (at_inner white rest) = inner_read next white (inner rest)

unfoldable mutual
  pub read : ℕ → DescriptionVersion → ℕ → ℕ → Text → Reading
  read zero v limit n text = reading no_pieces ended
  read (suc k) v limit n text =
      continued v (λ t. read k v limit n t) (λ t. read_nested k v limit n t) (start_of k v n text)

  pub read_nested : ℕ → DescriptionVersion → ℕ → ℕ → Text → NestedReading
  read_nested zero v limit n text = nested_reading no_nested (over [] text)
  read_nested (suc k) v limit n text =
      nested_continued (λ t. read k v limit (suc n) t) (λ t. read_nested k v limit n t)
      (nested_start_of limit n text)

-- What the text is: the trees, or the fault.

abbrev pub answer_from : Pieces → Stop → Result (List Tree) Fault
answer_from front ended = Ok (items front)
answer_from front (closed rest) = Ok []
answer_from front (broke b) = Err (raised (broken_fault b) (length (spelling front)))

unfoldable pub answer_of : DescriptionVersion → ℕ → Text → Result (List Tree) Fault
unfolding read start_of nested_start_of closed_of span word_of read_modifiers head_start left_start
    left_start_one backslash_start right_start
answer_of v limit text = let r = read (suc (length text)) v limit 0 text in
    answer_from r.front r.stop
