-- Rules about modifiers.
use Rattle.std.proofs.Common.{ℕ, ◌≡◌, ◌+◌, Bool, true, false, not, ◌&&◌, List, [], ◌∷◌, ◌++◌, length, Some, None, is_some, IsTrue, refl, sym, ap, ◌∙◌}
use Rattle.std.proofs.lemmas.Bool.{or_parts}
use Rattle.timefd_lang_component.specs.Tree.{Text, component}
use Rattle.timefd_lang_component.specs.declared.component.Component.{Component}
use Rattle.timefd_lang_fault.specs.Faults.{fault, invalid_modifier, duplicate_modifier, invalid_combination}
use Rattle.timefd_language.specs.declared.description_version.DescriptionVersion.{DescriptionVersion}
use Rattle.timefd_language.specs.declared.description_version.DescriptionVersion.TheVariants.{Three}
use Rattle.timefd_lang_fault.specs.declared.name.ComponentName.{ComponentName}
use Rattle.timefd_lang_fault.specs.declared.name.Name.{Name}
use Rattle.timefd_language.specs.Bytes.{equal, is_version_three}
use Rattle.timefd_language.specs.Combinations.{Refusal, refusals}
use Rattle.timefd_language.specs.Head.{Head, Modifier, Placed, placed_at, placed_from, placed, modifier_text, modifiers_text, name_index, head_text}
use Rattle.timefd_language.specs.Names.{row_for}
use Rattle.timefd_language.specs.Lookup.{keys_for}
use Rattle.timefd_language.specs.Verdict.{◌or◌, refuse, unless, after, bad_value, bad_modifier, bad_modifiers, misplaced, combined, combination, made, settings, component_verdict}
use Rattle.timefd_language.specs.Grammar.{no_nested, nested_text, bracket_verdict}
use Rattle.timefd_language.proofs.Words.{equal-refl}
use Rattle.timefd_laws.specs.Heads.{IsNamed, has_key, key_index, value_index}
use Rattle.timefd_laws.specs.Modifiers.{UnknownKey, RepeatedKey, BadValue, MissingCount, UselessKey, GoodComponent, NoneRefused}
use Rattle.timefd_laws.proofs.HeadLemmas.{is_ordinary, bad_reported, all_good, reached, placed_from-append}

pub unknown_key : UnknownKey
unknown_key v h ns white name before m is unknown =
    let strict : Bool = is_version_three v in
    let s = reached v h ns name before m is in
    let k : ℕ = name_index h + length h.name + length (modifiers_text before) in
    bad_reported v h ns white name (fault (invalid_modifier m.key) (key_index h before m)) is.named is.nests
    (s.bad ∙ ap (λ o. bad_modifier strict o s.after (placed_at k m)
    or bad_modifiers strict (keys_for name) (s.after ++ placed_at k m ∷ [])
    (placed_from (k + length (modifier_text m)) is.rest)) unknown)

pub repeated_key : RepeatedKey
repeated_key h ns white name before m key is known again =
    let s = reached Three h ns name before m is in
    let k : ℕ = name_index h + length h.name + length (modifiers_text before) in
    bad_reported Three h ns white name (fault (duplicate_modifier key.key) (key_index h before m)) is.named
    is.nests
    (s.bad ∙ ap (λ o. bad_modifier true o s.after (placed_at k m)
    or bad_modifiers true (keys_for name) (s.after ++ placed_at k m ∷ [])
    (placed_from (k + length (modifier_text m)) is.rest)) known
    ∙ ap (λ b. (refuse (true && b) (duplicate_modifier key.key) (key_index h before m)
    or bad_value true key (placed_at k m))
    or bad_modifiers true (keys_for name) (s.after ++ placed_at k m ∷ [])
    (placed_from (k + length (modifier_text m)) is.rest)) (s.keys key.key ∙ again))

pub bad_value_reported : BadValue
bad_value_reported v h ns white name before m key is known fresh bad =
    let strict : Bool = is_version_three v in
    let s = reached v h ns name before m is in
    let k : ℕ = name_index h + length h.name + length (modifiers_text before) in
    bad_reported v h ns white name (fault (invalid_modifier m.value) (value_index h before m)) is.named
    is.nests
    (s.bad ∙ ap (λ o. bad_modifier strict o s.after (placed_at k m)
    or bad_modifiers strict (keys_for name) (s.after ++ placed_at k m ∷ [])
    (placed_from (k + length (modifier_text m)) is.rest)) known
    ∙ ap (λ b. (refuse b (duplicate_modifier key.key) (key_index h before m)
    or bad_value strict key (placed_at k m))
    or bad_modifiers strict (keys_for name) (s.after ++ placed_at k m ∷ [])
    (placed_from (k + length (modifier_text m)) is.rest))
    (ap (λ b. strict && b) (s.keys key.key) ∙ fresh)
    ∙ ap (λ o. refuse (not (is_some o)) (invalid_modifier m.value) (value_index h before m)
    or bad_modifiers strict (keys_for name) (s.after ++ placed_at k m ∷ [])
    (placed_from (k + length (modifier_text m)) is.rest)) bad)

-- A component whose modifiers are good.
good_modifiers : (v : DescriptionVersion) (h : Head) (white : Text) (n : ComponentName)
    → IsNamed v h (Some (Name.Component n))
    → bad_modifiers (is_version_three v) (keys_for (Name.Component n)) [] (placed h) ≡ None
    → bracket_verdict v h no_nested white
    ≡ made (is_version_three v) h
    ((row_for n).component (settings (is_version_three v) (row_for n).keys (placed h)))
good_modifiers v h white n named good =
    let strict : Bool = is_version_three v in
    is_ordinary strict h [] (length (head_text h ++ nested_text no_nested ++ white)) refl named.0
    named.1
    ∙ ap (component_verdict strict h) named.2
    ∙ ap (λ x. after x (made strict h
    ((row_for n).component (settings strict (row_for n).keys (placed h))))) good

no_placed : (h : Head) → h.modifiers ≡ [] → placed h ≡ []
no_placed h e = ap (placed_from (name_index h + length h.name)) e

pub missing_count : MissingCount
missing_count v h white named none =
    good_modifiers v h white ComponentName.Ignore named
    (ap (bad_modifiers (is_version_three v) (keys_for (Name.Component ComponentName.Ignore)) [])
    (no_placed h none))
    ∙ ap (λ ps. made (is_version_three v) h ((row_for ComponentName.Ignore).component
    (settings (is_version_three v) (row_for ComponentName.Ignore).keys ps))) (no_placed h none)

-- Combinations.

not_misplaced : (r : Refusal) (k : ℕ) (ms : List Modifier) → has_key true r.key ms ≡ false
    → misplaced r (placed_from k ms) ≡ None
not_misplaced r k [] none = refl
not_misplaced r k (m ∷ ms) none =
    let p = or_parts (equal r.key m.key) (has_key true r.key ms) none in
    ap (λ b. refuse b (invalid_combination r.key r.context) (k + length m.white)
    or misplaced r (placed_from (k + length (modifier_text m)) ms)) p.0
    ∙ not_misplaced r (k + length (modifier_text m)) ms p.1

misplaced_after : (r : Refusal) (k : ℕ) (ms : List Modifier) (ps : List Placed)
    → has_key true r.key ms ≡ false → misplaced r (placed_from k ms ++ ps) ≡ misplaced r ps
misplaced_after r k [] ps none = refl
misplaced_after r k (m ∷ ms) ps none =
    let p = or_parts (equal r.key m.key) (has_key true r.key ms) none in
    ap (λ b. refuse b (invalid_combination r.key r.context) (k + length m.white)
    or misplaced r (placed_from (k + length (modifier_text m)) ms ++ ps)) p.0
    ∙ misplaced_after r (k + length (modifier_text m)) ms ps p.1

none_combined : (rs : List Refusal) (k : ℕ) (ms : List Modifier) → NoneRefused rs ms
    → combined rs (placed_from k ms) ≡ None
none_combined [] k ms none = refl
none_combined (r ∷ rs) k ms none =
    ap (λ o. o or combined rs (placed_from k ms)) (not_misplaced r k ms none.0)
    ∙ none_combined rs k ms none.1

combined_after : (earlier later : List Refusal) (k : ℕ) (ms : List Modifier)
    → NoneRefused earlier ms
    → combined (earlier ++ later) (placed_from k ms) ≡ combined later (placed_from k ms)
combined_after [] later k ms none = refl
combined_after (r ∷ earlier) later k ms none =
    ap (λ o. o or combined (earlier ++ later) (placed_from k ms)) (not_misplaced r k ms none.0)
    ∙ combined_after earlier later k ms none.1

pub useless_key : UselessKey
useless_key h white n c r earlier later before rest m named sets refused none are fresh e =
    let k : ℕ = name_index h + length h.name in
    let j : ℕ = k + length (modifiers_text before) in
    let after_it : List Placed = placed_from (j + length (modifier_text m)) rest in
    good_modifiers Three h white n named (all_good Three (Name.Component n) h sets.0)
    ∙ ap (made true h) sets.1
    ∙ ap (λ rs. unless (combined rs (placed h)) (component c)) refused
    ∙ ap (λ o. unless o (component c))
    (combined_after earlier (r ∷ later) k h.modifiers none
    ∙ ap (λ ms. misplaced r (placed_from k ms) or combined later (placed h)) are
    ∙ ap (λ ps. misplaced r ps or combined later (placed h))
    (placed_from-append k before (m ∷ rest))
    ∙ ap (λ o. o or combined later (placed h))
    (misplaced_after r k before (placed_at j m ∷ after_it) fresh)
    ∙ ap (λ b. (refuse b (invalid_combination r.key r.context) (key_index h before m)
    or misplaced r after_it) or combined later (placed h))
    (ap (equal r.key) (sym e) ∙ equal-refl r.key))

no_combination : (strict : Bool) (c : Component) (k : ℕ) (ms : List Modifier)
    → (IsTrue strict → NoneRefused (refusals c) ms)
    → combination strict c (placed_from k ms) ≡ None
no_combination true c k ms none = none_combined (refusals c) k ms (none refl)
no_combination false c k ms none = refl

pub good_component : GoodComponent
good_component v h white n c named sets none =
    good_modifiers v h white n named (all_good v (Name.Component n) h sets.0)
    ∙ ap (made (is_version_three v) h) sets.1
    ∙ ap (λ o. unless o (component c))
    (no_combination (is_version_three v) c (name_index h + length h.name) h.modifiers none)
