-- Brackets that hold the name of a component, alone or with modifiers after it.
use Rattle.std.proofs.Common.{◌≡◌, ℕ, ◌+◌, Bool, true, false, List, [], ◌∷◌, ◌++◌, length, Some, None, Ok, refl, sym, ap, ◌∙◌, subst, arith, append_assoc, append-nil, length-append, take, drop, take-append-drop, ◌<◌, IsTrue, IsUtf8}
use Rattle.std.proofs.lemmas.Str.{IsCharBoundary-from_take}
use Rattle.std.specs.Str.{IsCharBoundary}
use Rattle.std.specs.List.{list_all}
use Rattle.std.proofs.lemmas.Bool.{and_parts}
use Rattle.timefd_lang_component.specs.declared.component.Component.{Component}
use Rattle.timefd_lang_component.specs.Tree.{Text, component}
use Rattle.timefd_language.specs.declared.description_version.DescriptionVersion.{DescriptionVersion}
use Rattle.timefd_lang_fault.specs.declared.key.Key as code_key
use Rattle.timefd_lang_fault.specs.declared.name.ComponentName.{ComponentName}
use Rattle.timefd_lang_fault.specs.declared.name.Name.{Name}
use Rattle.timefd_language.specs.declared.setting.Setting.{Setting}
use Rattle.timefd_language.specs.declared.setting.Settings.{Settings}
use Rattle.timefd_parse.specs.declared.head.positions.Positions.{Positions}
use Rattle.timefd_language.specs.Bytes.{left, right, colon, is_white, is_word_byte, is_key_byte, is_version_three, ZeroOrMore, OneOrMore}
use Rattle.timefd_language.specs.Combinations.{Refusal, refusals}
use Rattle.timefd_language.specs.Head.{Head, Modifier, AreModifiers, Placed, modifiers_text, name_index, placed, placed_at, placed_from}
use Rattle.timefd_language.specs.Names.{row_for}
use Rattle.timefd_language.specs.Settings.{defaults, with}
use Rattle.timefd_language.specs.Values.{key_in, setting_in}
use Rattle.timefd_language.specs.Grammar.{bracket, no_nested, spelling}
use Rattle.timefd_language.specs.Lookup.{IsNameOf, key_for}
use Rattle.timefd_language.specs.Verdict as rules
use Rattle.timefd_language.specs.Verdict.{unless, after, combination, combined, component_verdict, settings, verdict}
use Rattle.timefd_parse.specs.Checked.{Checks, ShowsPosition}
use Rattle.timefd_parse.specs.Judged.{ShowsPositions}
use Rattle.timefd_parse.specs.Positions.{no_positions, position}
use Rattle.timefd_parse.specs.Quick.{BeginsWithValue, FollowsWhiteByte, IsModified, IsNoted, TakenAndWhite, TakenBefore, Takes, TakesModifiers}
use Rattle.timefd_parse.specs.Read.{LeadsOn, IsBare}
use Rattle.timefd_parse.proofs.CheckLemmas.{good_one, none_shown, position_known, take_good}
use Rattle.timefd_parse.proofs.HeadLemmas.{modifiers_more, modifiers_text_more, placed_more}
use Rattle.timefd_language.proofs.ModernPieces.{name_modern}

named_itself : (strict : Bool) (n : ComponentName)
    → IsNameOf strict (row_for n).name (Some (Name.Component n))
named_itself true ComponentName.Day = (refl, refl, refl)
named_itself true ComponentName.End = (refl, refl, refl)
named_itself true ComponentName.Hour = (refl, refl, refl)
named_itself true ComponentName.Ignore = (refl, refl, refl)
named_itself true ComponentName.Minute = (refl, refl, refl)
named_itself true ComponentName.Month = (refl, refl, refl)
named_itself true ComponentName.OffsetHour = (refl, refl, refl)
named_itself true ComponentName.OffsetMinute = (refl, refl, refl)
named_itself true ComponentName.OffsetSecond = (refl, refl, refl)
named_itself true ComponentName.Ordinal = (refl, refl, refl)
named_itself true ComponentName.Period = (refl, refl, refl)
named_itself true ComponentName.Second = (refl, refl, refl)
named_itself true ComponentName.Subsecond = (refl, refl, refl)
named_itself true ComponentName.UnixTimestamp = (refl, refl, refl)
named_itself true ComponentName.Weekday = (refl, refl, refl)
named_itself true ComponentName.WeekNumber = (refl, refl, refl)
named_itself true ComponentName.Year = (refl, refl, refl)
named_itself false ComponentName.Day = (refl, refl, refl)
named_itself false ComponentName.End = (refl, refl, refl)
named_itself false ComponentName.Hour = (refl, refl, refl)
named_itself false ComponentName.Ignore = (refl, refl, refl)
named_itself false ComponentName.Minute = (refl, refl, refl)
named_itself false ComponentName.Month = (refl, refl, refl)
named_itself false ComponentName.OffsetHour = (refl, refl, refl)
named_itself false ComponentName.OffsetMinute = (refl, refl, refl)
named_itself false ComponentName.OffsetSecond = (refl, refl, refl)
named_itself false ComponentName.Ordinal = (refl, refl, refl)
named_itself false ComponentName.Period = (refl, refl, refl)
named_itself false ComponentName.Second = (refl, refl, refl)
named_itself false ComponentName.Subsecond = (refl, refl, refl)
named_itself false ComponentName.UnixTimestamp = (refl, refl, refl)
named_itself false ComponentName.Weekday = (refl, refl, refl)
named_itself false ComponentName.WeekNumber = (refl, refl, refl)
named_itself false ComponentName.Year = (refl, refl, refl)

is_word : (n : ComponentName) → OneOrMore is_word_byte (row_for n).name
is_word ComponentName.Day = refl
is_word ComponentName.End = refl
is_word ComponentName.Hour = refl
is_word ComponentName.Ignore = refl
is_word ComponentName.Minute = refl
is_word ComponentName.Month = refl
is_word ComponentName.OffsetHour = refl
is_word ComponentName.OffsetMinute = refl
is_word ComponentName.OffsetSecond = refl
is_word ComponentName.Ordinal = refl
is_word ComponentName.Period = refl
is_word ComponentName.Second = refl
is_word ComponentName.Subsecond = refl
is_word ComponentName.UnixTimestamp = refl
is_word ComponentName.Weekday = refl
is_word ComponentName.WeekNumber = refl
is_word ComponentName.Year = refl

bare_head : Text → Head
bare_head name = record { white = []; name = name; modifiers = [] }

nothing_combined : (rs : List Refusal) → combined rs [] ≡ None
nothing_combined [] = refl
nothing_combined (r ∷ rs) = nothing_combined rs

bare_made : (strict : Bool) (name : Text) (c : Component)
    → rules.made strict (bare_head name) (Ok c) ≡ Ok (component c)
unfolding bare_head
bare_made true name c = ap (λ f. unless f (component c)) (nothing_combined (refusals c))
bare_made false name c = refl

bare_verdict : (strict : Bool) (n : ComponentName) (c : Component) (position : ℕ)
    → (row_for n).component (defaults strict) ≡ Ok c
    → verdict strict (bare_head (row_for n).name) [] position ≡ Ok (component c)
unfolding bare_head
bare_verdict strict n c position e =
    let is = named_itself strict n in
    rw (is.0, is.1, is.2, e) (bare_made strict (row_for n).name c)

bare_leads : (v : DescriptionVersion) (limit n : ℕ) (inside rest : Text) (name : ComponentName)
    (c : Component) → inside ≡ (row_for name).name ++ right ∷ rest → IsUtf8 rest
    → (row_for name).component (defaults (is_version_three v)) ≡ Ok c
    → LeadsOn v limit n (left ∷ inside) (component c) rest
unfolding bare_head
bare_leads v limit n inside rest name c e utf8 made = record {
  leads = λ front tail are f. (
    bracket (bare_head (row_for name).name) no_nested [] (component c) front,
    (
      record { white = refl; name = is_word name; modifiers = tt },
      tt,
      refl,
      bare_verdict (is_version_three v) name c _ made,
      are,
    ),
    ap (λ t. left ∷ t) (e ∙ ap (λ t. (row_for name).name ++ right ∷ t) f) ∙
        simp (append_assoc, append-nil),
    refl,
  );
  shorter = omega (arith, ap length e, length-append (row_for name).name (right ∷ rest));
  utf8 = utf8;
}

pub is_bare : (v : DescriptionVersion) (strict : Bool) (inside rest : Text) (name : ComponentName)
    (s : Settings) (c : Component) → strict ≡ is_version_three v
    → (inside ≡ (row_for name).name ++ right ∷ rest) × IsUtf8 rest → s ≡ defaults strict
    → (row_for name).component s ≡ Ok c
    → IsBare v inside c rest
is_bare v strict inside rest name s c exact shows new made =
    let plain : (row_for name).component (defaults (is_version_three v)) ≡ Ok c =
    ap (λ b. (row_for name).component (defaults b)) (sym exact) ∙
    ap (row_for name).component (sym new) ∙ made in
    record {
      leads = λ limit n. bare_leads v limit n inside rest name c shows.0 shows.1 plain;
      is_modern = name_modern name _ c made;
    }

-- Modifiers.

modified_head : Text → Text → List Modifier → Head
modified_head white name ms = record { white = white; name = name; modifiers = ms }

is_key : (k : code_key.Key) → OneOrMore is_key_byte (key_for k).key
is_key code_key.Key.Padding = refl
is_key code_key.Key.TrailingInput = refl
is_key code_key.Key.HourRepr = refl
is_key code_key.Key.Count = refl
is_key code_key.Key.MonthRepr = refl
is_key code_key.Key.CaseSensitive = refl
is_key code_key.Key.Sign = refl
is_key code_key.Key.Case = refl
is_key code_key.Key.Digits = refl
is_key code_key.Key.Precision = refl
is_key code_key.Key.WeekdayRepr = refl
is_key code_key.Key.OneIndexed = refl
is_key code_key.Key.WeekNumberRepr = refl
is_key code_key.Key.YearRepr = refl
is_key code_key.Key.Range = refl
is_key code_key.Key.Base = refl
is_key code_key.Key.Format = refl

-- no modifiers yet
pub none_taken : (strict : Bool) (name : ComponentName) (text : Text) (s : Settings)
    (positions : Positions) → s ≡ defaults strict → positions ≡ no_positions
    → TakenAndWhite strict name text s positions text
none_taken strict name text s positions new empty = (
  [],
  refl,
  record {
    list = [];
    are = tt;
    whole = refl;
    checks = λ k total e. record {
      fault = tt;
      settings = λ none. new;
      positions = λ none exact key.
          subst (λ p. ShowsPosition total (position p key) None) (sym empty) (no_position total key);
    };
  },
)
  where
    no_position : (total : ℕ) (key : code_key.Key) → ShowsPosition total (position no_positions key) None
    no_position total code_key.Key.Padding = tt
    no_position total _ = tt

taken_key : (strict : Bool) (name : ComponentName) (key : code_key.Key) → Takes name key
    → key_in strict (key_for key).key (row_for name).keys ≡ Some (key_for key)
taken_key true name key takes = takes.0
taken_key false name key takes = takes.1

taken_value : (strict : Bool) (key : code_key.Key) (text rest : Text) (setting : Setting)
    (is : BeginsWithValue key text setting rest)
    → setting_in strict (key_for key).values is.value ≡ Some setting
taken_value true key text rest setting is = is.exactly
taken_value false key text rest setting is = is.anyhow

-- White bytes before a modifier or before the `]`.

white_more : (white : Text) (b : ℕ) → ZeroOrMore is_white white → IsTrue (is_white b)
    → ZeroOrMore is_white (white ++ b ∷ [])
white_more [] b all is = rw is refl
white_more (a ∷ white) b all is =
    let parts = and_parts (is_white a) (list_all is_white white) all in
    rw parts.0 (white_more white b parts.1 is)

one_or_more_white : (white : Text) (b : ℕ) → ZeroOrMore is_white white → IsTrue (is_white b)
    → OneOrMore is_white (white ++ b ∷ [])
one_or_more_white [] b all is = white_more [] b all is
one_or_more_white (a ∷ white) b all is = white_more (a ∷ white) b all is

-- a byte moved over to the white ones before it
moved : (white front word : Text) (b : ℕ) → front ≡ b ∷ word
    → white ++ front ≡ (white ++ b ∷ []) ++ word
moved white front word b e =
    ap (λ t. white ++ t) e ∙ sym (append_assoc white (b ∷ []) word)

-- one white byte more
pub white_taken : (strict : Bool) (name : ComponentName) (text front word : Text) (s : Settings)
    (positions : Positions) → TakenAndWhite strict name text s positions front
    → FollowsWhiteByte front word → TakenAndWhite strict name text s positions word
white_taken strict name text front word s positions before is = (
  before.0 ++ is.0 ∷ [],
  white_more before.0 is.0 before.1 is.1,
  subst (TakenBefore strict name text s positions) (moved before.0 front word is.0 is.2) before.2,
)

one_more : (strict : Bool) (name : ComponentName) (text white word rest : Text) (s s' : Settings)
    (positions positions' : Positions) (key : code_key.Key) (setting : Setting)
    → TakenBefore strict name text s positions (white ++ word) → OneOrMore is_white white
    → IsModified name word key setting rest
    → (IsTrue strict → IsNoted positions key (length word) positions') → s' ≡ with s setting
    → TakenBefore strict name text s' positions' rest
one_more strict name text white word rest s s' positions positions' key setting before spaced is noted set =
    let value = is.3 in
    let m : Modifier = record { white = white; key = (key_for key).key; value = value.value } in
    let lengths : length text ≡ length (modifiers_text before.list) + (length white + length word) =
    omega (
      arith,
      ap length before.whole,
      length-append (modifiers_text before.list) (white ++ word),
      length-append white word,
    ) in
    record {
      list = before.list ++ m ∷ [];
      are = modifiers_more before.list m before.are
          (record { white = spaced; key = is_key key; value = value.is_word });
      whole = before.whole ∙ ap (λ t. modifiers_text before.list ++ (white ++ t))
          (is.2 ∙ ap (λ t. (key_for key).key ++ colon ∷ t) value.whole) ∙
          rw (modifiers_text_more before.list m) (simp append_assoc);
      checks = λ k total f.
          let position_at : ℕ = k + length (modifiers_text before.list) in
          let remaining : position_at + length white + length word ≡ total = omega (arith, f, lengths) in
          let old = before.checks k total f in
          subst (Checks strict (Some (Name.Component name)) total
          (record { settings = s'; positions = positions'; fault = None }))
          (sym (placed_more k before.list m))
          (take_good strict (Some (Name.Component name)) total
          (record { settings = s; positions = positions; fault = None }) (length word)
          (placed_from k before.list) (placed_at position_at m) key setting s' positions' old refl
          remaining
          (good_one strict (Some (Name.Component name)) total key setting
          (placed_from k before.list) (placed_at position_at m) (taken_key strict name key is.1)
          (taken_value strict key is.0 rest setting value)
          (λ exact. position_known total _ _ false (old.positions refl exact key) (noted exact).0)) set
          (λ exact. (noted exact).1));
    }

-- one modifier more
pub one_taken : (strict : Bool) (name : ComponentName) (text front word rest : Text) (s s' : Settings)
    (positions positions' : Positions) (key : code_key.Key) (setting : Setting)
    → TakenAndWhite strict name text s positions front → FollowsWhiteByte front word
    → IsModified name word key setting rest
    → (IsTrue strict → IsNoted positions key (length word) positions') → s' ≡ with s setting
    → TakenAndWhite strict name text s' positions' rest
one_taken strict name text front word rest s s' positions positions' key setting before follows is noted set = (
  [],
  refl,
  one_more strict name text (before.0 ++ follows.0 ∷ []) word rest s s' positions positions' key setting
      (subst (TakenBefore strict name text s positions) (moved before.0 front word follows.0 follows.2)
      before.2) (one_or_more_white before.0 follows.0 before.1 follows.1) is noted set,
)

-- all of them, if a `]` comes next
pub all_taken : (strict : Bool) (name : ComponentName) (text front rest : Text) (s : Settings)
    (positions : Positions) → TakenAndWhite strict name text s positions front
    → front ≡ right ∷ rest → IsUtf8 rest → TakesModifiers strict name text s positions rest
all_taken strict name text front rest s positions before e utf8 = (
  (
    before.0,
    before.1,
    subst (λ t. TakenBefore strict name text s positions (before.0 ++ t)) e before.2,
  ),
  utf8,
)

-- less is left after each
pub less_left : (name : ComponentName) (front word rest : Text) (key : code_key.Key)
    (setting : Setting) → FollowsWhiteByte front word → IsModified name word key setting rest
    → length rest < length front
less_left name front word rest key setting follows is =
    omega (
      arith,
      ap length follows.2,
      ap length is.2,
      length-append (key_for key).key (colon ∷ is.0),
      ap length is.3.whole,
      length-append is.3.value rest,
    )

modified_verdict : (strict : Bool) (white : Text) (n : ComponentName) (ms : List Modifier) (c : Component)
    (position : ℕ)
    → component_verdict strict (modified_head white (row_for n).name ms) (Some (row_for n)) ≡ Ok
    (component c)
    → verdict strict (modified_head white (row_for n).name ms) [] position ≡ Ok (component c)
unfolding modified_head
modified_verdict strict white n ms c position e =
    let is = named_itself strict n in
    rw (is.0, is.1, is.2) e

-- modifiers that were taken make a component
judged : (strict : Bool) (white : Text) (n : ComponentName) (ms : List Modifier) (total : ℕ)
    (s : Settings) (positions : Positions) (c : Component)
    → Checks strict (Some (Name.Component n)) total
    (record { settings = s; positions = positions; fault = None })
    (placed (modified_head white (row_for n).name ms))
    → (row_for n).component s ≡ Ok c
    → combination strict c (placed (modified_head white (row_for n).name ms)) ≡ None
    → component_verdict strict (modified_head white (row_for n).name ms) (Some (row_for n)) ≡ Ok
    (component c)
judged strict white n ms total s positions c checks e free =
    let h : Head = modified_head white (row_for n).name ms in
    ap (λ b. after b (rules.made strict h ((row_for n).component (settings strict (row_for n).keys
    (placed h))))) (none_shown total None _ checks.fault refl)
    ∙ ap (rules.made strict h) (ap (row_for n).component (sym (checks.settings refl)) ∙ e)
    ∙ ap (λ f. unless f (component c)) free

-- what is put together, as it was read
joined : (white name text before front tail : Text)
    → left ∷ (white ++ (name ++ (text ++ (before ++ right ∷ (front ++ tail))))) ≡ left ∷
    ((((((white ++ name) ++ text) ++ []) ++ before) ++ right ∷ front) ++ tail)
joined white name text before front tail = simp (append_assoc, append-nil)

modified_leads : (v : DescriptionVersion) (limit n : ℕ) (white named after before rest : Text)
    (name : ComponentName) (ms : List Modifier) (c : Component)
    → ZeroOrMore is_white white → named ≡ (row_for name).name ++ after → AreModifiers ms
    → ZeroOrMore is_white before → after ≡ modifiers_text ms ++ (before ++ right ∷ rest)
    → IsUtf8 rest
    → component_verdict (is_version_three v) (modified_head white (row_for name).name ms)
    (Some (row_for name)) ≡ Ok (component c)
    → LeadsOn v limit n (left ∷ (white ++ named)) (component c) rest
unfolding modified_head
modified_leads v limit n white named after before rest name ms c spaced e are ends d utf8 made = record {
  leads = λ front tail others f. (
    bracket (modified_head white (row_for name).name ms) no_nested before (component c) front,
    (
      record { white = spaced; name = is_word name; modifiers = are },
      tt,
      ends,
      modified_verdict (is_version_three v) white name ms c _ made,
      others,
    ),
    ap (λ t. left ∷ (white ++ t)) (e ∙ ap (λ t. (row_for name).name ++ t)
        (d ∙ ap (λ t. modifiers_text ms ++ (before ++ right ∷ t)) f)) ∙
        joined white (row_for name).name (modifiers_text ms) before (spelling front) tail,
    refl,
  );
  shorter = omega (
    arith,
    length-append white named,
    ap length e,
    length-append (row_for name).name after,
    ap length d,
    length-append (modifiers_text ms) (before ++ right ∷ rest),
    length-append before (right ∷ rest),
  );
  utf8 = utf8;
}

pub is_modified : (v : DescriptionVersion) (strict : Bool) (white named after rest : Text)
    (name : ComponentName) (s : Settings) (positions : Positions) (c : Component)
    → strict ≡ is_version_three v → ZeroOrMore is_white white
    → (named ≡ (row_for name).name ++ after) × IsUtf8 after
    → TakesModifiers strict name after s positions rest → (row_for name).component s ≡ Ok c
    → ((total : ℕ) (ps : List Placed) → (IsTrue strict → ShowsPositions total positions ps)
    → combination strict c ps ≡ None)
    → IsBare v (white ++ named) c rest
unfolding modified_head
is_modified v strict white named after rest name s positions c exact spaced shows taken made free =
    let taken_before = taken.0.2 in
    let ms = taken_before.list in
    let h : Head = modified_head white (row_for name).name ms in
    let start : ℕ = name_index h + length (row_for name).name in
    let checks = taken_before.checks start (start + length after) refl in
    let good = judged strict white name ms (start + length after) s positions c checks made
    (free (start + length after) (placed h) (λ is. checks.positions refl is)) in
    record {
      leads = λ limit n. modified_leads v limit n white named after taken.0.0 rest name ms c spaced
          shows.0 taken_before.are taken.0.1 taken_before.whole taken.1
          (subst (λ b. component_verdict b h (Some (row_for name)) ≡ Ok (component c)) exact good);
      is_modern = name_modern name _ c made;
    }

-- The same of the bytes that were compared, which are those of the word and of the text.
pub front_is : (text word x y : Text) → x ≡ word → y ≡ text → x ≡ take (length x) y
    → word ≡ take (length word) text
front_is text word x y first second begins =
    subst (λ w. w ≡ take (length w) text) first (subst (λ t. x ≡ take (length x) t) second begins)

-- what follows the word
pub word_before : (text word : Text) → word ≡ take (length word) text
    → text ≡ word ++ drop (length word) text
word_before text word begins =
    sym (take-append-drop (length word) text) ∙ ap (λ t. t ++ drop (length word) text) (sym begins)

-- If a text begins with a word, a character ends where the word ends.
pub word_ends : (text word : Text) → word ≡ take (length word) text → IsUtf8 text → IsUtf8 word
    → IsCharBoundary text (length word)
word_ends text word begins utf8 whole =
    IsCharBoundary-from_take text (length word) utf8
    (omega (
      arith,
      ap length (word_before text word begins),
      length-append word (drop (length word) text),
    ))
    (subst IsUtf8 begins whole)
