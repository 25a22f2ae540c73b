-- What a head is by itself, rule by rule.
use Rattle.std.proofs.Common.{◌≡◌, ℕ, Bool, true, false, not, if◌then◌else◌, codes, List, [], ◌∷◌, ◌++◌, length, map, Option, Some, None, option_map, Result, Ok, Err, IsUtf8, refl, sym, ap, ◌∙◌, subst, append_assoc}
use Rattle.std.specs.Borrow.{Bor}
use Rattle.timefd_lang_component.specs.declared.component.Component.{Component}
use Rattle.timefd_lang_fault.specs.Slots.{context_of}
use Rattle.timefd_lang_fault.specs.declared.refuser.Refuser.{Refuser}
use Rattle.timefd_lang_fault.specs.Faults.{Kind, Fault, fault, missing_modifier, invalid_combination, invalid_name}
use Rattle.timefd_lang_component.specs.Tree.{Text, Tree, component, optional, first, trees, pack}
use Rattle.timefd_lang_fault.specs.declared.read_error.Fault as code_fault
use Rattle.timefd_lang_fault.specs.declared.rule.Rule.TheVariants as broken
use Rattle.timefd_parse.specs.declared.head.Head as code_head
use Rattle.timefd_parse.specs.declared.head.verdict.HeadVerdict.{HeadVerdict}
use Rattle.timefd_parse.specs.declared.head.verdict.HeadVerdict.TheVariants as verdicts
use Rattle.timefd_parse.specs.declared.head.modifiers.Modifiers as code_modifiers
use Rattle.timefd_lang_fault.specs.declared.name.ComponentName.{ComponentName}
use Rattle.timefd_lang_fault.specs.declared.name.Name.{Name}
use Rattle.timefd_lang_fault.specs.declared.name.Name.TheVariants as names
use Rattle.timefd_parse.specs.declared.head.positions.Positions.{Positions}
use Rattle.timefd_language.specs.declared.combination.Refusal as code_refusal
use Rattle.timefd_lang_fault.specs.declared.key.Key as code_key
use Rattle.timefd_language.specs.Bytes.{equal, same, left, is_white, is_word_byte, OneOrMore, StopsBefore}
use Rattle.timefd_lang_fault.specs.Words.{expected_white, expected_nested, expected_alternative, optional_item, first_item, nested_here}
use Rattle.timefd_language.specs.Head.{Head, Placed, placed, name_index}
use Rattle.timefd_language.specs.Names.{Row, row_for, row_of}
use Rattle.timefd_language.specs.Combinations.{Refusal, refusals}
use Rattle.timefd_language.specs.Lookup.{key_for, IsNameOf, refusal_for}
use Rattle.timefd_parse.specs.Positions.{position}
use Rattle.timefd_language.specs.Verdict.{PlacedDescription, ◌or◌, unless, after, refuse, settings, component_verdict, combination, combined, misplaced, made, nested_wanted, too_many, is_formatted, only, optional_verdict, first_verdict, touching, nested_refused, verdict}
use Rattle.timefd_lang_fault.specs.ReadErrors.{IsFault}
use Rattle.timefd_parse.specs.Checked.{Checks, ShowsFault, ShowsPosition, first_position}
use Rattle.timefd_parse.specs.Heads.{ShowsHead}
use Rattle.timefd_parse.specs.HeadVerdicts.{BeginsJudged, IsPlain, IsVerdict, Decides, nests, refused_unless, placing}
use Rattle.timefd_parse.specs.Judged.{ShowsPositions, JudgedFault}
use Rattle.timefd_parse.proofs.CheckLemmas.{none_shown, shows_none}
use Rattle.timefd_parse.proofs.VerdictLemmas.{any_is_bad}

-- What modifiers set.

pub fault_shown : (total : ℕ) (o : Option code_fault.Fault) (b : Option Fault)
    (f : code_fault.Fault) → ShowsFault total o b → o ≡ Some f
    → (g : Fault) × (b ≡ Some g) × IsFault total f g
fault_shown total None b f is e = absurd cc
fault_shown total (Some x) None f is e = absurd is
fault_shown total (Some x) (Some g) f is e =
    (g, refl, subst (λ y. IsFault total y g) (let same : x ≡ f = cc in same) is)

-- Components.

misplaced_at : (r : Refusal) (ps : List Placed)
    → misplaced r ps ≡ option_map (λ i. fault (invalid_combination r.key r.context) i)
    (first_position r.key ps)
misplaced_at r [] = refl
misplaced_at r (p ∷ ps) = by (equal r.key p.key) (misplaced_at r ps)
  where
    by : (t : Bool) → misplaced r ps ≡ option_map
        (λ i. fault (invalid_combination r.key r.context) i) (first_position r.key ps)
        → (refuse t (invalid_combination r.key r.context) p.key_index or misplaced r ps)
        ≡ option_map (λ i. fault (invalid_combination r.key r.context) i)
        (elim t as (λ _. Option ℕ) [ true ↦ Some p.key_index | false ↦ first_position r.key ps ])
    by true e = refl
    by false e = e

pub lax_refused : (total : ℕ) (strict : Bool) (c : Component) (ps : List Placed) → strict ≡ false
    → ShowsFault total None (combination strict c ps)
lax_refused total strict c ps lax =
    shows_none total None _ refl (ap (λ b. if b then combined (refusals c) ps else None) lax)

pub exactly : (strict : Bool) (c : Component) (ps : List Placed) → strict ≡ true
    → combination strict c ps ≡ combined (refusals c) ps
exactly strict c ps exact = ap (λ b. if b then combined (refusals c) ps else None) exact

-- the refusals from one on decide
pub refused_here : (total : ℕ) (positions : Positions) (ps : List Placed) (r : code_refusal.Refusal)
    (rest : List Refusal) (remaining len : ℕ) (spelling : Bor (List ℕ)) (all : Option Fault)
    → ShowsPositions total positions ps
    → position positions r.key ≡ Some remaining → spelling.now ≡ (key_for r.key).key
    → all ≡ combined (refusal_for r ∷ rest) ps
    → ShowsFault total
    (Some (record { rule = broken.RefusedModifier spelling r.refuser; remaining = remaining; len = len }))
    all
refused_here total positions ps r rest remaining len spelling all shows at spelled e =
    by (first_position (key_for r.key).key ps) refl
    (subst (λ o. ShowsPosition total o (first_position (key_for r.key).key ps)) at (shows r.key))
  where
    by : (o : Option ℕ) → first_position (key_for r.key).key ps ≡ o
        → ShowsPosition total (Some remaining) o
        → ShowsFault total
        (Some (record { rule = broken.RefusedModifier spelling r.refuser; remaining = remaining; len = len }))
        all
    by None f is = absurd is
    by (Some i) f is =
        let g : Fault = fault (invalid_combination (key_for r.key).key (context_of r.refuser)) i in
        subst (ShowsFault total (Some
        (record { rule = broken.RefusedModifier spelling r.refuser; remaining = remaining; len = len })))
        (sym (e ∙ ap (λ x. x or combined rest ps) (misplaced_at (refusal_for r) ps ∙
        ap (option_map (λ j. fault (invalid_combination (key_for r.key).key (context_of r.refuser)) j))
        f)))
        (record { kind = ap (λ k. invalid_combination k (context_of r.refuser)) (sym spelled); position = is })

pub refused_later : (total : ℕ) (positions : Positions) (ps : List Placed) (r : code_refusal.Refusal)
    (rest : List Refusal) (all : Option Fault) → ShowsPositions total positions ps
    → position positions r.key ≡ None → all ≡ combined (refusal_for r ∷ rest) ps → all ≡ combined rest ps
refused_later total positions ps r rest all shows none e =
    by (first_position (key_for r.key).key ps) refl
    (subst (λ o. ShowsPosition total o (first_position (key_for r.key).key ps)) none (shows r.key))
  where
    by : (o : Option ℕ) → first_position (key_for r.key).key ps ≡ o → ShowsPosition total None o
        → all ≡ combined rest ps
    by None f is = e ∙ ap (λ x. x or combined rest ps) (misplaced_at (refusal_for r) ps ∙
        ap (option_map (λ j. fault (invalid_combination (key_for r.key).key (context_of r.refuser)) j)) f)
    by (Some i) f is = absurd is

module _ (strict : Bool) (total : ℕ) (head : code_head.Head) (modifiers : code_modifiers.Modifiers)
    (h : Head) (n : ComponentName) (shows : ShowsHead strict total head modifiers h)
    (named : head.name ≡ Some (names.Component n)) where
  checks : Checks strict (Some (names.Component n)) total modifiers (placed h)
  checks = subst (λ o. Checks strict o total modifiers (placed h)) named shows.checks

  pub component_bad : (f : code_fault.Fault) → modifiers.fault ≡ Some f
      → JudgedFault total (component_verdict strict h (Some (row_for n))) f
  component_bad f e =
      let b = fault_shown total _ _ f checks.fault e in (
        b.0,
        ap (λ x. after x (made strict h
            ((row_for n).component (settings strict (row_for n).keys (placed h))))) b.1,
        b.2,
      )

  good : modifiers.fault ≡ None → (r : Result Component Kind)
      → (row_for n).component modifiers.settings ≡ r
      → component_verdict strict h (Some (row_for n)) ≡ made strict h r
  good none r e =
      ap (λ x. after x (made strict h
      ((row_for n).component (settings strict (row_for n).keys (placed h)))))
      (none_shown total _ _ checks.fault none)
      ∙ ap (made strict h) (ap (row_for n).component (sym (checks.settings none)) ∙ e)

  pub component_missing : (key : Bor (List ℕ)) (len : ℕ) → modifiers.fault ≡ None
      → (row_for n).component modifiers.settings ≡ Err (missing_modifier key.now)
      → JudgedFault total (component_verdict strict h (Some (row_for n)))
      (record { rule = broken.MissingModifier key; remaining = head.remaining; len = len })
  component_missing key len none e = (
    fault (missing_modifier key.now) (name_index h),
    good none _ e,
    record { kind = refl; position = shows.position },
  )

  pub positions_shown : modifiers.fault ≡ None → strict ≡ true
      → ShowsPositions total modifiers.positions (placed h)
  positions_shown none exact = checks.positions none exact

  pub component_refused : (c : Component) (f : code_fault.Fault) → modifiers.fault ≡ None
      → (row_for n).component modifiers.settings ≡ Ok c
      → (o : Option code_fault.Fault) → o ≡ Some f
      → ShowsFault total o (combination strict c (placed h))
      → JudgedFault total (component_verdict strict h (Some (row_for n))) f
  component_refused c f none e o some is =
      let b = fault_shown total o _ f is some in
      (b.0, good none (Ok c) e ∙ ap (λ x. unless x (component c)) b.1, b.2)

  pub component_found : (c : Component) → modifiers.fault ≡ None
      → (row_for n).component modifiers.settings ≡ Ok c
      → (o : Option code_fault.Fault) → o ≡ None
      → ShowsFault total o (combination strict c (placed h))
      → component_verdict strict h (Some (row_for n)) ≡ Ok (component c)
  component_found c none e o free is =
      good none (Ok c) e ∙ ap (λ x. unless x (component c)) (none_shown total o _ is free)

-- The order of the rules.

abbrev by_tests : Bool → Head → List PlacedDescription → ℕ → Bool → Bool → Option Row
    → Result Tree Fault
by_tests strict h parts position is_optional is_first row =
    if is_optional then optional_verdict strict h parts position
    else if is_first then first_verdict strict h parts position
    else after (nested_refused parts) (component_verdict strict h row)

abbrev pub by_name : Bool → Head → List PlacedDescription → ℕ → Option Name → Result Tree Fault
by_name strict h parts position (Some names.Optional) = optional_verdict strict h parts position
by_name strict h parts position (Some names.First) = first_verdict strict h parts position
by_name strict h parts position (Some (names.Component n)) =
    component_verdict strict h (Some (row_for n))
by_name strict h parts position None = component_verdict strict h None

named : (strict : Bool) (h : Head) (parts : List PlacedDescription) (position : ℕ) (name : Option Name)
    → IsNameOf strict h.name name
    → by_tests strict h parts position (same strict (codes "optional") h.name)
    (same strict (codes "first") h.name) (row_of strict h.name)
    ≡ after (refused_unless (nests name) parts) (by_name strict h parts position name)
named strict h parts position (Some names.Optional) is =
    ap (λ b. by_tests strict h parts position b (same strict (codes "first") h.name)
    (row_of strict h.name)) is
named strict h parts position (Some names.First) is =
    ap (λ b. by_tests strict h parts position b (same strict (codes "first") h.name)
    (row_of strict h.name)) is.0
    ∙ ap (λ b. by_tests strict h parts position false b (row_of strict h.name)) is.1
named strict h parts position (Some (names.Component n)) is =
    ap (λ b. by_tests strict h parts position b (same strict (codes "first") h.name)
    (row_of strict h.name)) is.0
    ∙ ap (λ b. by_tests strict h parts position false b (row_of strict h.name)) is.1
    ∙ ap (λ r. by_tests strict h parts position false false r) is.2
named strict h parts position None is =
    ap (λ b. by_tests strict h parts position b (same strict (codes "first") h.name)
    (row_of strict h.name)) is.0
    ∙ ap (λ b. by_tests strict h parts position false b (row_of strict h.name)) is.1
    ∙ ap (λ r. by_tests strict h parts position false false r) is.2

after_both : (a b : Option Fault) (r : Result Tree Fault)
    → after a (after b r) ≡ after (a or b) r
after_both (Some f) b r = refl
after_both None b r = refl

by_rules : (strict : Bool) (total position : ℕ) (head : code_head.Head)
    (modifiers : code_modifiers.Modifiers) (h : Head) (parts : List PlacedDescription)
    → ShowsHead strict total head modifiers h
    → verdict strict h parts position ≡ after (placing (nests head.name) parts)
    (by_name strict h parts position head.name)
by_rules strict total position head modifiers h parts shows =
    ap (after (touching parts)) (named strict h parts position head.name
    (subst (λ w. IsNameOf strict w head.name) (sym shows.word) shows.name))
    ∙ after_both (touching parts) (refused_unless (nests head.name) parts)
    (by_name strict h parts position head.name)

-- what a head decides by its name
pub decided : (strict : Bool) (total : ℕ) (head : code_head.Head)
    (modifiers : code_modifiers.Modifiers) (h : Head) (name : Option Name)
    (by : List PlacedDescription → ℕ → Result Tree Fault)
    → ShowsHead strict total head modifiers h → head.name ≡ name
    → ((parts : List PlacedDescription) (position : ℕ) → by_name strict h parts position name ≡ by parts position)
    → Decides strict h (nests head.name) by
decided strict total head modifiers h name by shows is same = λ parts position.
    by_rules strict total position head modifiers h parts shows
    ∙ ap (after (placing (nests head.name) parts))
    (ap (by_name strict h parts position) is ∙ same parts position)

pub refused_name : (strict : Bool) (total : ℕ) (head : code_head.Head)
    (modifiers : code_modifiers.Modifiers) (h : Head) (len : ℕ) → ShowsHead strict total head modifiers h
    → head.name ≡ None
    → IsVerdict strict total h (nests head.name) (verdicts.Refused
    (record { rule = broken.UnknownName head.word; remaining = head.remaining; len = len }))
refused_name strict total head modifiers h len shows none = (
  fault (invalid_name h.name) (name_index h),
  record { kind = ap invalid_name shows.word; position = shows.position },
  decided strict total head modifiers h None _ shows none (λ parts position. refl),
)

module _ (strict : Bool) (total : ℕ) (head : code_head.Head) (modifiers : code_modifiers.Modifiers)
    (h : Head) (name : Name) (shows : ShowsHead strict total head modifiers h)
    (is : head.name ≡ Some name) where
  checked : Checks strict (Some name) total modifiers (placed h)
  checked = subst (λ o. Checks strict o total modifiers (placed h)) is shows.checks

pub refused_optional : (strict : Bool) (total : ℕ) (head : code_head.Head)
    (modifiers : code_modifiers.Modifiers) (h : Head) (f : code_fault.Fault)
    → ShowsHead strict total head modifiers h → head.name ≡ Some names.Optional
    → modifiers.fault ≡ Some f → IsVerdict strict total h (nests head.name) (verdicts.Refused f)
refused_optional strict total head modifiers h f shows is bad =
    let b = fault_shown total _ _ f (checked strict total head modifiers h names.Optional shows
    is).fault bad in (
      b.0,
      b.2,
      decided strict total head modifiers h (Some names.Optional) _ shows is
          (λ parts position. ap (λ a. unless (a or too_many parts or nested_wanted expected_nested parts
          position or refuse (not strict) optional_item 0)
          (optional (is_formatted strict (placed h)) (only parts))) b.1),
    )

pub refused_first : (strict : Bool) (total : ℕ) (head : code_head.Head)
    (modifiers : code_modifiers.Modifiers) (h : Head) (f : code_fault.Fault)
    → ShowsHead strict total head modifiers h → head.name ≡ Some names.First
    → modifiers.fault ≡ Some f → IsVerdict strict total h (nests head.name) (verdicts.Refused f)
refused_first strict total head modifiers h f shows is bad =
    let b = fault_shown total _ _ f (checked strict total head modifiers h names.First shows
    is).fault bad in (
      b.0,
      b.2,
      decided strict total head modifiers h (Some names.First) _ shows is
          (λ parts position. ap (λ a. unless (a or (if strict then nested_wanted expected_alternative
          parts position else Some (fault first_item 0)))
          (first (trees (map (λ (p : PlacedDescription). pack p.trees) parts))))
          (any_is_bad strict (placed h) ∙ b.1)),
    )

pub is_optional : (strict : Bool) (total : ℕ) (head : code_head.Head)
    (modifiers : code_modifiers.Modifiers) (h : Head) → ShowsHead strict total head modifiers h
    → head.name ≡ Some names.Optional → modifiers.fault ≡ None
    → IsVerdict strict total h (nests head.name) (verdicts.Optional modifiers.settings.format)
is_optional strict total head modifiers h shows is none =
    let c = checked strict total head modifiers h names.Optional shows is in (
      none_shown total _ _ c.fault none,
      ap (λ s. s.format) (c.settings none),
      decided strict total head modifiers h (Some names.Optional) _ shows is
          (λ parts position. refl),
    )

pub is_first : (strict : Bool) (total : ℕ) (head : code_head.Head)
    (modifiers : code_modifiers.Modifiers) (h : Head) → ShowsHead strict total head modifiers h
    → head.name ≡ Some names.First → modifiers.fault ≡ None
    → IsVerdict strict total h (nests head.name) verdicts.First
is_first strict total head modifiers h shows is none = (
  none_shown total _ _ (checked strict total head modifiers h names.First shows is).fault none,
  decided strict total head modifiers h (Some names.First) _ shows is (λ parts position. refl),
)

-- Heads that are a word and a space.

plain : Text → Head
plain name = record { white = []; name = name; modifiers = [] }

by_optional : (strict : Bool) → Decides strict (plain (codes "optional")) true (optional_verdict strict
    (plain (codes "optional")))
unfolding plain
by_optional true = λ parts position.
    after_both (touching parts) None (optional_verdict true (plain (codes "optional")) parts position)
by_optional false = λ parts position.
    after_both (touching parts) None (optional_verdict false (plain (codes "optional")) parts position)

by_first : (strict : Bool) → Decides strict (plain (codes "first")) true (first_verdict strict
    (plain (codes "first")))
unfolding plain
by_first true = λ parts position.
    after_both (touching parts) None (first_verdict true (plain (codes "first")) parts position)
by_first false = λ parts position.
    after_both (touching parts) None (first_verdict false (plain (codes "first")) parts position)

begins_plainly : (strict : Bool) (inside name rest tail : Text) (verdict : HeadVerdict)
    → OneOrMore is_word_byte name → inside ≡ name ++ 32 ∷ rest → rest ≡ left ∷ tail
    → IsVerdict strict (length (left ∷ inside)) (plain name) true verdict → IsUtf8 rest
    → BeginsJudged strict inside (record { verdict = verdict; nests = true; spaced = true }) rest
unfolding plain
begins_plainly strict inside name rest tail verdict word e f is utf8 = (
  (
    plain name,
    record {
      white = 32 ∷ [];
      is = record { white = refl; name = word; modifiers = tt };
      verdict = is;
      whole = ap (λ t. left ∷ t) e ∙ simp append_assoc;
      all_white = refl;
      stops_white = subst (StopsBefore is_white) (sym f) refl;
      stops_word = subst (StopsBefore is_word_byte) (sym f) refl;
      spaced = refl;
    },
  ),
  utf8,
)

-- what begins with one of the words
pub plainly : (strict : Bool) (inside word rest tail : Text) (verdict : HeadVerdict)
    → IsPlain word verdict → (inside ≡ word ++ rest) × IsUtf8 rest → rest ≡ left ∷ tail
    → BeginsJudged strict inside (record { verdict = verdict; nests = true; spaced = true }) rest
unfolding plain
plainly strict inside word rest tail (verdicts.Optional formatted) is e f =
    begins_plainly strict inside (codes "optional") rest tail (verdicts.Optional formatted) refl
    (e.0 ∙ ap (λ w. w ++ rest) is.0) f (refl, is.1 ∙ formatted_by strict, by_optional strict) e.1
  where
    formatted_by : (b : Bool) → true ≡ is_formatted b []
    formatted_by true = refl
    formatted_by false = refl
plainly strict inside word rest tail verdicts.First is e f =
    begins_plainly strict inside (codes "first") rest tail verdicts.First refl
    (e.0 ∙ ap (λ w. w ++ rest) is) f (refl, by_first strict) e.1
plainly strict inside word rest tail (verdicts.Component c) is e f = absurd is
plainly strict inside word rest tail (verdicts.Refused g) is e f = absurd is

-- What a verdict on a head means for its bracket.

module _ (strict : Bool) (total position : ℕ) (h : Head) (nested : Bool)
    (parts : List PlacedDescription) where
  pub misplaced_nested : (v : HeadVerdict) (o : Option code_fault.Fault) (f : code_fault.Fault)
      → IsVerdict strict total h nested v → ShowsFault total o (placing nested parts) → o ≡ Some f
      → JudgedFault total (verdict strict h parts position) f
  misplaced_nested (verdicts.Component c) o f is shows some =
      let b = fault_shown total o _ f shows some in
      (b.0, is.2 parts position ∙ ap (λ x. after x (Ok (component c))) b.1, b.2)
  misplaced_nested (verdicts.Optional formatted) o f is shows some =
      let b = fault_shown total o _ f shows some in
      (b.0, is.2 parts position ∙ ap (λ x. after x (optional_verdict strict h parts position)) b.1, b.2)
  misplaced_nested verdicts.First o f is shows some =
      let b = fault_shown total o _ f shows some in
      (b.0, is.1 parts position ∙ ap (λ x. after x (first_verdict strict h parts position)) b.1, b.2)
  misplaced_nested (verdicts.Refused e) o f is shows some =
      let b = fault_shown total o _ f shows some in
      (b.0, is.2 parts position ∙ ap (λ x. after x (Err is.0)) b.1, b.2)

  -- with nested descriptions where they may be, or none
  pub well_placed : (by : List PlacedDescription → ℕ → Result Tree Fault)
      (o : Option code_fault.Fault) → Decides strict h nested by
      → ShowsFault total o (placing nested parts) → o ≡ None
      → verdict strict h parts position ≡ by parts position
  well_placed by o decides shows none =
      decides parts position ∙ ap (λ x. after x (by parts position)) (none_shown total o _ shows none)

refused_anyway : (b : Bool) (kind : Kind) (index : ℕ) (f : Fault)
    → (refuse b kind index or Some f) ≡ None → ⊥
refused_anyway true kind index f e = absurd cc
refused_anyway false kind index f e = absurd cc

pub none_nested : (total : ℕ) (nested : Bool) (parts : List PlacedDescription)
    (o : Option code_fault.Fault) → nested ≡ false → ShowsFault total o (placing nested parts)
    → o ≡ None → parts ≡ []
none_nested total nested [] o lax shows none = refl
none_nested total nested (p ∷ ps) o lax shows none =
    absurd (refused_anyway (not p.spaced) expected_white p.index (fault nested_here 0)
    (sym (ap (λ b. placing b (p ∷ ps)) lax) ∙ none_shown total o _ shows none))

-- what a slice of refusals is read as past its end
abbrev pub no_refusal : code_refusal.Refusal
no_refusal = record { key = code_key.TheVariants.Padding; refuser = Refuser.NumericalMonth }
