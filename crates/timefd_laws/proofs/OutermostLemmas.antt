-- An unclosed bracket is reported at the outermost one: no rule about closed brackets reports one.
use Rattle.std.proofs.Common.{ℕ, ◌≡◌, ◌≢◌, ◌+◌, Bool, true, false, not, ◌&&◌, is_some, if◌then◌else◌, codes, List, [], ◌∷◌, ◌++◌, length, map, Option, Some, None, Result, Ok, Err, refl, sym, ap, ◌∙◌, subst, arith}
use Rattle.std.specs.Prelude.{⊤}
use Rattle.std.specs.declared.num.NonZeroU16.{NonZeroU16}
use Rattle.timefd_lang_component.specs.Tree.{Text, Tree, component, optional, first, trees, pack}
use Rattle.timefd_lang_component.specs.declared.component.Component.{Component}
use Rattle.timefd_lang_fault.specs.Faults.{Kind, Fault, fault, unclosed_bracket, invalid_name, invalid_modifier, missing_name, missing_modifier, expected, not_supported, duplicate_modifier, invalid_combination}
use Rattle.timefd_language.specs.declared.description_version.DescriptionVersion.{DescriptionVersion}
use Rattle.timefd_lang_fault.specs.declared.name.ComponentName.{ComponentName}
use Rattle.timefd_language.specs.declared.setting.Settings.{Settings}
use Rattle.timefd_language.specs.Bytes.{left, equal, same, is_version_three}
use Rattle.timefd_language.specs.Fault.{enclosed}
use Rattle.timefd_lang_fault.specs.Words.{expected_nested, expected_alternative, optional_item, first_item}
use Rattle.timefd_language.specs.Head.{Head, Placed, placed, modifiers_text, head_text}
use Rattle.timefd_language.specs.Values.{Key, key_in, setting_in, format}
use Rattle.timefd_language.specs.Names.{Row, row_for, rows, row_of, component_names, ignored}
use Rattle.timefd_language.specs.Combinations.{Refusal, refusals}
use Rattle.timefd_language.specs.Verdict.{PlacedDescription, ◌or◌, refuse, unless, is_set, bad_value, bad_modifier, bad_modifiers, misplaced, combined, combination, made, after, settings, component_verdict, touching, too_many, nested_refused, nested_wanted, any_modifier, is_formatted, only, optional_verdict, first_verdict, verdict}
use Rattle.timefd_language.specs.Grammar.{spelling, nested_text, parts_from}
use Rattle.timefd_language.specs.Broken.{no_colon, no_key, no_value, Broken, bare_closing, half_escape, nameless, ill_modified, too_deep, broken_inside, cut_off, unclosed, refused, IsBroken, broken_text, broken_fault}
use Rattle.timefd_language.proofs.Lookup.{each-map}
use Rattle.timefd_laws.specs.Brackets.{OutermostUnclosed}
use Rattle.timefd_laws.proofs.LastLemmas.{found_in}

-- Kinds that aren't an unclosed bracket.

abbrev IsOther : Kind → Type 0
IsOther kind = kind ≢ unclosed_bracket

name_other : (t : Text) → IsOther (invalid_name t)
name_other t e = absurd cc

modifier_other : (t : Text) → IsOther (invalid_modifier t)
modifier_other t e = absurd cc

no_name_other : IsOther missing_name
no_name_other e = absurd cc

missing_other : (t : Text) → IsOther (missing_modifier t)
missing_other t e = absurd cc

expected_other : (t : Text) → IsOther (expected t)
expected_other t e = absurd cc

not_supported_other : (t u : Text) → IsOther (not_supported t u)
not_supported_other t u e = absurd cc

duplicate_other : (t : Text) → IsOther (duplicate_modifier t)
duplicate_other t e = absurd cc

combination_other : (t u : Text) → IsOther (invalid_combination t u)
combination_other t u e = absurd cc

-- The fault of a rule, if there is one, is another kind.
abbrev Other : Option Fault → Type 0
Other None = ⊤
Other (Some f) = IsOther f.kind

abbrev OtherAnswer : Result Tree Fault → Type 0
OtherAnswer (Ok t) = ⊤
OtherAnswer (Err f) = IsOther f.kind

other_or : (a b : Option Fault) → Other a → Other b → Other (a or b)
other_or None b p q = q
other_or (Some f) b p q = p

other_refuse : (c : Bool) (kind : Kind) (index : ℕ) → IsOther kind → Other (refuse c kind index)
other_refuse true kind index p = p
other_refuse false kind index p = tt

other_unless : (o : Option Fault) (t : Tree) → Other o → OtherAnswer (unless o t)
other_unless None t p = tt
other_unless (Some f) t p = p

other_after : (o : Option Fault) (r : Result Tree Fault) → Other o → OtherAnswer r
    → OtherAnswer (after o r)
other_after None r p q = q
other_after (Some f) r p q = p

other_if : (c : Bool) (a b : Result Tree Fault) → OtherAnswer a → OtherAnswer b
    → OtherAnswer (if c then a else b)
other_if true a b p q = p
other_if false a b p q = q

-- Modifiers.

other_modifier : (strict : Bool) (key : Option Key) (before : List Placed) (m : Placed)
    → Other (bad_modifier strict key before m)
other_modifier strict None before m = modifier_other m.key
other_modifier strict (Some key) before m =
    let again : Bool = strict && is_set strict key.key before in
    let bad : Bool = not (is_some (setting_in strict key.values m.value)) in
    other_or (refuse again (duplicate_modifier key.key) m.key_index) (bad_value strict key m)
    (other_refuse again (duplicate_modifier key.key) m.key_index (duplicate_other key.key))
    (other_refuse bad (invalid_modifier m.value) m.value_index (modifier_other m.value))

other_modifiers : (strict : Bool) (keys : List Key) (before ms : List Placed)
    → Other (bad_modifiers strict keys before ms)
other_modifiers strict keys before [] = tt
other_modifiers strict keys before (m ∷ ms) =
    other_or (bad_modifier strict (key_in strict m.key keys) before m)
    (bad_modifiers strict keys (before ++ m ∷ []) ms)
    (other_modifier strict (key_in strict m.key keys) before m)
    (other_modifiers strict keys (before ++ m ∷ []) ms)

other_any : (ms : List Placed) → Other (any_modifier ms)
other_any [] = tt
other_any (m ∷ ms) = modifier_other m.key

other_misplaced : (r : Refusal) (ms : List Placed) → Other (misplaced r ms)
other_misplaced r [] = tt
other_misplaced r (m ∷ ms) =
    other_or (refuse (equal r.key m.key) (invalid_combination r.key r.context) m.key_index)
    (misplaced r ms)
    (other_refuse (equal r.key m.key) (invalid_combination r.key r.context) m.key_index
    (combination_other r.key r.context))
    (other_misplaced r ms)

other_combined : (rs : List Refusal) (ms : List Placed) → Other (combined rs ms)
other_combined [] ms = tt
other_combined (r ∷ rs) ms =
    other_or (misplaced r ms) (combined rs ms) (other_misplaced r ms) (other_combined rs ms)

other_combination : (strict : Bool) (c : Component) (ms : List Placed)
    → Other (combination strict c ms)
other_combination true c ms = other_combined (refusals c) ms
other_combination false c ms = tt

-- Components.

abbrev OtherKind : Result Component Kind → Type 0
OtherKind (Ok c) = ⊤
OtherKind (Err kind) = IsOther kind

abbrev OtherRow : Row → Type 0
OtherRow row = (s : Settings) → OtherKind (row.component s)

other_ignored : (o : Option NonZeroU16) → OtherKind (ignored o)
other_ignored None = missing_other (codes "count")
other_ignored (Some n) = tt

other_row : (n : ComponentName) → OtherRow (row_for n)
other_row ComponentName.Day s = tt
other_row ComponentName.End s = tt
other_row ComponentName.Hour s = tt
other_row ComponentName.Ignore s = other_ignored s.count
other_row ComponentName.Minute s = tt
other_row ComponentName.Month s = tt
other_row ComponentName.OffsetHour s = tt
other_row ComponentName.OffsetMinute s = tt
other_row ComponentName.OffsetSecond s = tt
other_row ComponentName.Ordinal s = tt
other_row ComponentName.Period s = tt
other_row ComponentName.Second s = tt
other_row ComponentName.Subsecond s = tt
other_row ComponentName.UnixTimestamp s = tt
other_row ComponentName.Weekday s = tt
other_row ComponentName.WeekNumber s = tt
other_row ComponentName.Year s = tt

other_made : (strict : Bool) (h : Head) (r : Result Component Kind) → OtherKind r
    → OtherAnswer (made strict h r)
other_made strict h (Err kind) p = p
other_made strict h (Ok c) p =
    other_unless (combination strict c (placed h)) (component c)
    (other_combination strict c (placed h))

other_component : (strict : Bool) (h : Head) (o : Option Row)
    → ((row : Row) → o ≡ Some row → OtherRow row) → OtherAnswer (component_verdict strict h o)
other_component strict h None all = name_other h.name
other_component strict h (Some row) all =
    let found : Result Component Kind = row.component (settings strict row.keys (placed h)) in
    other_after (bad_modifiers strict row.keys [] (placed h)) (made strict h found)
    (other_modifiers strict row.keys [] (placed h))
    (other_made strict h found (all row refl (settings strict row.keys (placed h))))

-- Nested descriptions.

other_touching : (ps : List PlacedDescription) → Other (touching ps)
other_touching [] = tt
other_touching (p ∷ ps) = other_refuse _ _ p.index (expected_other _)

other_many : (ps : List PlacedDescription) → Other (too_many ps)
other_many [] = tt
other_many (p ∷ []) = tt
other_many (p ∷ q ∷ ps) = not_supported_other _ _

other_nested : (ps : List PlacedDescription) → Other (nested_refused ps)
other_nested [] = tt
other_nested (p ∷ ps) = not_supported_other _ _

other_wanted : (kind : Kind) (ps : List PlacedDescription) (close : ℕ) → IsOther kind
    → Other (nested_wanted kind ps close)
other_wanted kind [] close p = p
other_wanted kind (q ∷ ps) close p = tt

other_optional : (strict : Bool) (h : Head) (ps : List PlacedDescription) (close : ℕ)
    → OtherAnswer (optional_verdict strict h ps close)
other_optional strict h ps close =
    other_unless
    (bad_modifiers strict (format ∷ []) [] (placed h) or too_many ps or nested_wanted
    expected_nested ps close or refuse (not strict) optional_item 0)
    (optional (is_formatted strict (placed h)) (only ps))
    (other_or (bad_modifiers strict (format ∷ []) [] (placed h))
    (too_many ps or nested_wanted expected_nested ps close or refuse (not strict) optional_item 0)
    (other_modifiers strict (format ∷ []) [] (placed h))
    (other_or (too_many ps)
    (nested_wanted expected_nested ps close or refuse (not strict) optional_item 0) (other_many ps)
    (other_or (nested_wanted expected_nested ps close) (refuse (not strict) optional_item 0)
    (other_wanted expected_nested ps close (expected_other _))
    (other_refuse (not strict) optional_item 0 (not_supported_other _ _)))))

other_first_part : (strict : Bool) (ps : List PlacedDescription) (close : ℕ)
    → Other (if strict then nested_wanted expected_alternative ps close else Some
    (fault first_item 0))
other_first_part true ps close = other_wanted expected_alternative ps close (expected_other _)
other_first_part false ps close = not_supported_other _ _

other_first : (strict : Bool) (h : Head) (ps : List PlacedDescription) (close : ℕ)
    → OtherAnswer (first_verdict strict h ps close)
other_first strict h ps close =
    other_unless
    (any_modifier (placed h) or (if strict then nested_wanted expected_alternative ps close else
    Some (fault first_item 0)))
    (first (trees (map (λ p. pack p.trees) ps)))
    (other_or (any_modifier (placed h))
    (if strict then nested_wanted expected_alternative ps close else Some (fault first_item 0))
    (other_any (placed h)) (other_first_part strict ps close))

other_verdict : (strict : Bool) (h : Head) (ps : List PlacedDescription) (close : ℕ)
    → OtherAnswer (verdict strict h ps close)
other_verdict strict h ps close =
    other_after (touching ps)
    (if same strict (codes "optional") h.name then optional_verdict strict h ps close
    else if same strict (codes "first") h.name then first_verdict strict h ps close
    else after (nested_refused ps) (component_verdict strict h (row_of strict h.name)))
    (other_touching ps)
    (other_if (same strict (codes "optional") h.name) (optional_verdict strict h ps close)
    (if same strict (codes "first") h.name then first_verdict strict h ps close
    else after (nested_refused ps) (component_verdict strict h (row_of strict h.name)))
    (other_optional strict h ps close)
    (other_if (same strict (codes "first") h.name) (first_verdict strict h ps close)
    (after (nested_refused ps) (component_verdict strict h (row_of strict h.name)))
    (other_first strict h ps close)
    (other_after (nested_refused ps) (component_verdict strict h (row_of strict h.name))
    (other_nested ps)
    (other_component strict h (row_of strict h.name)
    (λ row e. found_in (λ r. r.name) OtherRow strict h.name rows row
    (each-map row_for OtherRow component_names other_row) e)))))

-- Broken texts.

enclosed_at : (kind : Kind) (i k : ℕ) → (enclosed kind i k).kind ≡ unclosed_bracket
    → (enclosed kind i k).index ≡ 0
enclosed_at unclosed_bracket i k e = refl
enclosed_at (invalid_name t) i k e = absurd (name_other t e)
enclosed_at (invalid_modifier t) i k e = absurd (modifier_other t e)
enclosed_at missing_name i k e = absurd (no_name_other e)
enclosed_at (missing_modifier t) i k e = absurd (missing_other t e)
enclosed_at (expected t) i k e = absurd (expected_other t e)
enclosed_at (not_supported t u) i k e = absurd (not_supported_other t u e)
enclosed_at (duplicate_modifier t) i k e = absurd (duplicate_other t e)
enclosed_at (invalid_combination t u) i k e = absurd (combination_other t u e)

-- The broken text begins with the bracket, and its fault is reported there.
abbrev BeginsThere : Broken → Type 0
BeginsThere b = (rest : Text) × (broken_text b ≡ left ∷ rest) × ((broken_fault b).index ≡ 0)

begins_there : (b : Broken) (v : DescriptionVersion) (limit n : ℕ) → IsBroken v limit n b
    → (broken_fault b).kind ≡ unclosed_bracket → BeginsThere b
begins_there (bare_closing rest) v limit n is e = absurd (expected_other _ e)
begins_there (half_escape rest) v limit n is e = absurd (expected_other _ e)
begins_there (nameless white rest) v limit n is e = absurd (no_name_other e)
begins_there (ill_modified h white (no_colon word) rest) v limit n is e =
    absurd (modifier_other word e)
begins_there (ill_modified h white (no_key value) rest) v limit n is e =
    absurd (modifier_other [] e)
begins_there (ill_modified h white (no_value key) rest) v limit n is e =
    absurd (modifier_other [] e)
begins_there (too_deep h ns white rest) v limit n is e = absurd (not_supported_other _ _ e)
begins_there (broken_inside h ns white front inner) v limit n is e = (
  h.white ++ h.name ++ modifiers_text h.modifiers ++ nested_text ns ++ white ++ left ∷ []
      ++ spelling front ++ broken_text inner,
  refl,
  enclosed_at (broken_fault inner).kind _ _ e,
)
begins_there (cut_off h ns white front) v limit n is e = (
  h.white ++ h.name ++ modifiers_text h.modifiers ++ nested_text ns ++ white ++ left ∷ []
      ++ spelling front,
  refl,
  refl,
)
begins_there (unclosed h ns white rest) v limit n is e =
    (h.white ++ h.name ++ modifiers_text h.modifiers ++ nested_text ns ++ white ++ rest, refl, refl)
begins_there (refused h ns white f rest) v limit n is e =
    absurd (subst OtherAnswer is.3 (other_verdict (is_version_three v) h
    (parts_from (length (head_text h)) ns) (length (head_text h ++ nested_text ns ++ white))) e)

pub outermost_unclosed : OutermostUnclosed
outermost_unclosed v limit text f h e =
    let b = begins_there h.1 v limit 0 h.3 (sym (ap (λ g. g.kind) h.5) ∙ e) in (
      h.0,
      b.0,
      h.2,
      h.4 ∙ ap (λ x. spelling h.0 ++ x) b.1,
      ap (λ g. g.index) h.5 ∙ ap (λ i. i + length (spelling h.0)) b.2 ∙ omega arith,
    )
