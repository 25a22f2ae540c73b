-- Modifiers, taken one at a time.
use Rattle.std.proofs.Common.{◌≡◌, ℕ, ◌+◌, Bool, true, false, not, ◌&&◌, ◌||◌, if◌then◌else◌, List, [], ◌∷◌, ◌++◌, Option, Some, None, is_some, option_map, Ok, refl, sym, ap, ◌∙◌, subst, append_assoc, append-nil, IsTrue}
use Rattle.std.specs.Borrow.{Bor}
use Rattle.std.specs.Bool.{⊤}
use Rattle.std.proofs.lemmas.Bool.{true≢false}
use Rattle.timefd_lang_component.specs.Tree.{Text}
use Rattle.timefd_lang_fault.specs.RuleKinds.{rule_kind}
use Rattle.timefd_lang_fault.specs.declared.rule.Rule.{Rule}
use Rattle.timefd_lang_fault.specs.Faults.{Fault, fault, invalid_modifier, duplicate_modifier}
use Rattle.timefd_lang_fault.specs.declared.read_error.Fault as code_fault
use Rattle.timefd_lang_fault.specs.declared.rule.Rule.TheVariants as broken
use Rattle.timefd_lang_fault.specs.declared.key.Key as code_key
use Rattle.timefd_lang_fault.specs.declared.key.Key.TheVariants.{Padding, TrailingInput, HourRepr, Count, MonthRepr, CaseSensitive, Sign, Case, Digits, Precision, WeekdayRepr, OneIndexed, WeekNumberRepr, YearRepr, Range, Base, Format}
use Rattle.timefd_parse.specs.declared.head.modifier.Modifier as code
use Rattle.timefd_parse.specs.declared.head.modifiers.Modifiers.{Modifiers}
use Rattle.timefd_lang_fault.specs.declared.name.Name.{Name}
use Rattle.timefd_parse.specs.declared.head.positions.Positions.{Positions}
use Rattle.timefd_language.specs.declared.setting.Setting.{Setting}
use Rattle.timefd_language.specs.declared.setting.Settings.{Settings}
use Rattle.timefd_language.specs.Bytes.{equal}
use Rattle.timefd_language.specs.Settings.{with}
use Rattle.timefd_language.specs.Head.{Placed}
use Rattle.timefd_language.specs.Values.{Key, key_in, setting_in}
use Rattle.timefd_language.specs.Lookup.{key_for, keys_of}
use Rattle.timefd_parse.specs.Positions.{position, with_position}
use Rattle.timefd_language.specs.Verdict.{bad_modifier, bad_modifiers, ◌or◌, bad_value, refuse, is_set, settings, settings_from, setting_of, with_option}
use Rattle.timefd_lang_fault.specs.ReadErrors.{IsFault}
use Rattle.timefd_parse.specs.ReadModifiers.{IsPlaced}
use Rattle.timefd_parse.specs.Checked.{first_position, ShowsFault, ShowsPosition, Checks, ChecksOne}
use Rattle.timefd_language.proofs.Lookup.{equal-true, Each, named-found}
use Rattle.timefd_language.proofs.Words.{equal-refl}

-- The first fault of two.

or_none : (a : Option Fault) → (a or None) ≡ a
or_none (Some f) = refl
or_none None = refl

or_assoc : (a b c : Option Fault) → (a or (b or c)) ≡ ((a or b) or c)
or_assoc (Some f) b c = refl
or_assoc None b c = refl

-- One more modifier, in the rules.

pub bad_more : (strict : Bool) (keys : List Key) (before ps : List Placed) (p : Placed)
    → bad_modifiers strict keys before
    (ps ++ p ∷ []) ≡ (bad_modifiers strict keys before ps or bad_modifier strict
    (key_in strict p.key keys) (before ++ ps) p)
bad_more strict keys before [] p =
    or_none _ ∙ ap (λ b. bad_modifier strict (key_in strict p.key keys) b p)
    (sym (append-nil before))
bad_more strict keys before (q ∷ ps) p =
    let first : Option Fault = bad_modifier strict (key_in strict q.key keys) before q in
    ap (λ r. first or r) (bad_more strict keys (before ++ q ∷ []) ps p)
    ∙ or_assoc first _ _
    ∙ ap (λ b. (first or bad_modifiers strict keys (before ++ q ∷ []) ps) or bad_modifier strict
    (key_in strict p.key keys) b p) (append_assoc before (q ∷ []) ps)

settings_more : (strict : Bool) (keys : List Key) (s : Settings) (ps : List Placed) (p : Placed)
    → settings_from strict keys s (ps ++ p ∷ []) ≡ with_option (settings_from strict keys s ps)
    (setting_of strict (key_in strict p.key keys) p.value)
settings_more strict keys s [] p = refl
settings_more strict keys s (q ∷ ps) p =
    settings_more strict keys (with_option s (setting_of strict (key_in strict q.key keys) q.value))
    ps p

-- Places.

is_set_position : (key : Text) (ps : List Placed) → is_set true key ps ≡ is_some (first_position key ps)
is_set_position key [] = refl
is_set_position key (p ∷ ps) = by (equal key p.key) (is_set_position key ps)
  where
    by : (t : Bool) → is_set true key ps ≡ is_some (first_position key ps)
        → (t || is_set true key ps) ≡ is_some
        (elim t as (λ _. Option ℕ) [ true ↦ Some p.key_index | false ↦ first_position key ps ])
    by true e = refl
    by false e = e

abbrev first_or : Option ℕ → Option ℕ → Option ℕ
first_or (Some i) o = Some i
first_or None o = o

abbrev position_if : Bool → ℕ → Option ℕ
position_if true i = Some i
position_if false i = None

first_position_more : (key : Text) (ps : List Placed) (p : Placed)
    → first_position key (ps ++ p ∷ []) ≡ first_or (first_position key ps)
    (position_if (equal key p.key) p.key_index)
first_position_more key [] p = by (equal key p.key)
  where
    by : (t : Bool) → elim t as (λ _. Option ℕ) [ true ↦ Some p.key_index | false ↦ None ]
        ≡ position_if t p.key_index
    by true = refl
    by false = refl
first_position_more key (q ∷ ps) p = by (equal key q.key) (first_position_more key ps p)
  where
    by : (t : Bool) → first_position key (ps ++ p ∷ []) ≡ first_or (first_position key ps)
        (position_if (equal key p.key) p.key_index)
        → elim t as (λ _. Option ℕ)
        [ true ↦ Some q.key_index | false ↦ first_position key (ps ++ p ∷ []) ]
        ≡ first_or (elim t as (λ _. Option ℕ)
        [ true ↦ Some q.key_index | false ↦ first_position key ps ])
        (position_if (equal key p.key) p.key_index)
    by true e = refl
    by false e = e

-- what is shown if there is no fault

pub none_shown : (total : ℕ) (o : Option code_fault.Fault) (b : Option Fault) → ShowsFault total o b
    → o ≡ None → b ≡ None
none_shown total None None is e = refl
none_shown total None (Some g) is e = absurd is
none_shown total (Some f) b is e = absurd (cc)

pub shows_none : (total : ℕ) (o : Option code_fault.Fault) (b : Option Fault) → o ≡ None → b ≡ None
    → ShowsFault total o b
shows_none total None None e d = tt
shows_none total None (Some g) e d = absurd (cc)
shows_none total (Some f) b e d = absurd (cc)

some_shown : (total : ℕ) (o : Option ℕ) (i : Option ℕ) → ShowsPosition total o i
    → is_some o ≡ is_some i
some_shown total None None is = refl
some_shown total None (Some i) is = absurd is
some_shown total (Some r) None is = absurd is
some_shown total (Some r) (Some i) is = refl

-- Looking at one modifier.

not_again : (strict : Bool) (key : code_key.Key) (ps : List Placed)
    → (strict ≡ true → is_some (first_position (key_for key).key ps) ≡ false)
    → (strict && is_set strict (key_for key).key ps) ≡ false
not_again true key ps new = is_set_position (key_for key).key ps ∙ new refl
not_again false key ps new = refl

-- a good modifier, given by its key and its value
pub good_one : (strict : Bool) (name : Option Name) (total : ℕ) (key : code_key.Key)
    (setting : Setting) (ps : List Placed) (p : Placed)
    → key_in strict p.key (keys_of name) ≡ Some (key_for key)
    → setting_in strict (key_for key).values p.value ≡ Some setting
    → (strict ≡ true → is_some (first_position (key_for key).key ps) ≡ false)
    → ChecksOne strict name total (Ok (key, setting)) ps p
good_one strict name total key setting ps p known sets new = (
  known,
  subst (λ k. bad_modifier strict k ps p ≡ None) (sym known)
      (subst (λ b. (refuse b (duplicate_modifier (key_for key).key) p.key_index or bad_value strict
      (key_for key) p) ≡ None) (sym (not_again strict key ps new))
      (ap (λ w. refuse (not (is_some w)) (invalid_modifier p.value) p.value_index) sets)),
  sets,
  λ exact. none_of (first_position (key_for key).key ps) (new exact),
)
  where
    none_of : (i : Option ℕ) → is_some i ≡ false → i ≡ None
    none_of None h = refl
    none_of (Some i) h = absurd (true≢false h)

module _ (strict : Bool) (name : Option Name) (total : ℕ) (m : code.Modifier) (ps : List Placed)
    (p : Placed) (is : IsPlaced total m p) where
  abbrev Refused : code_fault.Fault → Type 0
  Refused f = (g : Fault) × (bad_modifier strict (key_in strict p.key (keys_of name)) ps p ≡ Some g)
      × IsFault total f g

  looked_up : (o : Option Key) → key_in strict m.key.now (keys_of name) ≡ o
      → key_in strict p.key (keys_of name) ≡ o
  looked_up o e = ap (λ t. key_in strict t (keys_of name)) is.key ∙ e

  -- a key that isn't known
  pub at_unknown : (len : ℕ) (r : Rule) (o : Option code_key.Key)
      → rule_kind r ≡ invalid_modifier m.key.now
      → option_map key_for o ≡ key_in strict m.key.now (keys_of name) → o ≡ None
      → Refused (record { rule = r; remaining = m.key_remaining; len = len })
  at_unknown len r o kind known e =
      let none : key_in strict p.key (keys_of name) ≡ None =
      looked_up None (sym known ∙ ap (option_map key_for) e) in (
        fault (invalid_modifier p.key) p.key_index,
        subst (λ k. bad_modifier strict k ps p ≡ Some (fault (invalid_modifier p.key) p.key_index))
            (sym none) refl,
        record { kind = ap invalid_modifier is.key ∙ sym kind; position = is.key_position },
      )

  found : (o : Option code_key.Key) (key : code_key.Key)
      → option_map key_for o ≡ key_in strict m.key.now (keys_of name) → o ≡ Some key
      → key_in strict p.key (keys_of name) ≡ Some (key_for key)
  found o key known e = looked_up (Some (key_for key)) (sym known ∙ ap (option_map key_for) e)

  -- a key that was there before
  pub at_again : (len : ℕ) (o : Option code_key.Key) (key : code_key.Key) (spelling : Bor (List ℕ))
      → option_map key_for o ≡ key_in strict m.key.now (keys_of name) → o ≡ Some key
      → strict ≡ true → is_some (first_position (key_for key).key ps) ≡ true
      → spelling.now ≡ (key_for key).key
      → Refused (record { rule = broken.DuplicateModifier spelling; remaining = m.key_remaining; len = len })
  at_again len o key spelling known e exact there spelled = (
    fault (duplicate_modifier (key_for key).key) p.key_index,
    subst (λ k. bad_modifier strict k ps p ≡ Some
        (fault (duplicate_modifier (key_for key).key) p.key_index)) (sym (found o key known e))
        (subst (λ b. (refuse b (duplicate_modifier (key_for key).key) p.key_index or bad_value
        strict (key_for key) p) ≡ Some
        (fault (duplicate_modifier (key_for key).key) p.key_index))
        (sym (set_again strict exact)) refl),
    record { kind = ap duplicate_modifier (sym spelled); position = is.key_position },
  )
    where
      set_again : (s : Bool) → s ≡ true → (s && is_set s (key_for key).key ps) ≡ true
      set_again true e = is_set_position (key_for key).key ps ∙ there
      set_again false e = absurd (true≢false (sym e))

  checked : (o : Option code_key.Key) (key : code_key.Key) (v : Option Setting)
      → option_map key_for o ≡ key_in strict m.key.now (keys_of name) → o ≡ Some key
      → (strict ≡ true → is_some (first_position (key_for key).key ps) ≡ false)
      → v ≡ setting_in strict (key_for key).values m.value.now
      → bad_modifier strict (key_in strict p.key (keys_of name)) ps p ≡ refuse (not (is_some v))
      (invalid_modifier p.value) p.value_index
  checked o key v known e new valued =
      subst (λ k. bad_modifier strict k ps p ≡ refuse (not (is_some v)) (invalid_modifier p.value)
      p.value_index) (sym (found o key known e))
      (subst (λ b. (refuse b (duplicate_modifier (key_for key).key) p.key_index or bad_value strict
      (key_for key) p) ≡ refuse (not (is_some v)) (invalid_modifier p.value) p.value_index)
      (sym (not_again strict key ps new))
      (ap (λ w. refuse (not (is_some w)) (invalid_modifier p.value) p.value_index)
      (ap (setting_in strict (key_for key).values) is.value ∙ sym valued)))

  -- a bad value
  pub at_bad_value : (len : ℕ) (o : Option code_key.Key) (key : code_key.Key) (v : Option Setting)
      → option_map key_for o ≡ key_in strict m.key.now (keys_of name) → o ≡ Some key
      → (strict ≡ true → is_some (first_position (key_for key).key ps) ≡ false)
      → v ≡ setting_in strict (key_for key).values m.value.now → v ≡ None
      → Refused (record { rule = broken.UnknownValue m.value key; remaining = m.value_remaining; len = len })
  at_bad_value len o key v known e new valued none = (
    fault (invalid_modifier p.value) p.value_index,
    checked o key v known e new valued ∙
        ap (λ w. refuse (not (is_some w)) (invalid_modifier p.value) p.value_index) none,
    record { kind = ap invalid_modifier is.value; position = is.value_position },
  )

  -- a good one
  pub at_good : (o : Option code_key.Key) (key : code_key.Key) (v : Option Setting)
      (setting : Setting) → option_map key_for o ≡ key_in strict m.key.now (keys_of name)
      → o ≡ Some key
      → (strict ≡ true → is_some (first_position (key_for key).key ps) ≡ false)
      → v ≡ setting_in strict (key_for key).values m.value.now → v ≡ Some setting
      → ChecksOne strict name total (Ok (key, setting)) ps p
  at_good o key v setting known e new valued some =
      good_one strict name total key setting ps p (found o key known e)
      (ap (setting_in strict (key_for key).values) is.value ∙ sym valued ∙ some) new

pub position_known : (total : ℕ) (o i : Option ℕ) (b : Bool) → ShowsPosition total o i → is_some o ≡ b
    → is_some i ≡ b
position_known total o i b is e = sym (some_shown total o i is) ∙ e

-- Taking one more.

position_law : (p : Positions) (k j : code_key.Key) (r : ℕ)
    → position (with_position p k r) j ≡ (if equal (key_for k).key (key_for j).key then Some r else position
    p j)
position_law p Padding Padding r = refl
position_law p Padding _ r = refl
position_law p TrailingInput Padding r = refl
position_law p TrailingInput _ r = refl
position_law p HourRepr Padding r = refl
position_law p HourRepr _ r = refl
position_law p Count Padding r = refl
position_law p Count _ r = refl
position_law p MonthRepr Padding r = refl
position_law p MonthRepr _ r = refl
position_law p CaseSensitive Padding r = refl
position_law p CaseSensitive _ r = refl
position_law p Sign Padding r = refl
position_law p Sign _ r = refl
position_law p Case Padding r = refl
position_law p Case _ r = refl
position_law p Digits Padding r = refl
position_law p Digits _ r = refl
position_law p Precision Padding r = refl
position_law p Precision _ r = refl
position_law p WeekdayRepr Padding r = refl
position_law p WeekdayRepr _ r = refl
position_law p OneIndexed Padding r = refl
position_law p OneIndexed _ r = refl
position_law p WeekNumberRepr Padding r = refl
position_law p WeekNumberRepr _ r = refl
position_law p YearRepr Padding r = refl
position_law p YearRepr _ r = refl
position_law p Range Padding r = refl
position_law p Range _ r = refl
position_law p Base Padding r = refl
position_law p Base _ r = refl
position_law p Format Padding r = refl
position_law p Format _ r = refl

equal_not : (a b : Text) → equal a b ≡ false → equal b a ≡ false
equal_not a b e = by (equal b a) refl
  where
    by : (t : Bool) → equal b a ≡ t → t ≡ false
    by true h = absurd (true≢false (sym (equal-refl a) ∙ ap (equal a) (sym (equal-true b a h)) ∙ e))
    by false h = refl

or_no_position : (i : Option ℕ) → first_or i None ≡ i
or_no_position None = refl
or_no_position (Some i) = refl

named_key : (keys : List Key) (text : Text) (k : Key) → key_in true text keys ≡ Some k
    → k.key ≡ text
named_key keys text k e = (named-found (λ (x : Key). x.key) (λ (x : Key). ⊤) text keys k (all keys)
    e).1
  where
    all : (xs : List Key) → Each (λ (x : Key). ⊤) xs
    all [] = tt
    all (x ∷ xs) = (tt, all xs)

position_more : (total : ℕ) (positions : Positions) (key j : code_key.Key) (r : ℕ) (ps : List Placed)
    (p : Placed) → (key_for key).key ≡ p.key → first_position (key_for key).key ps ≡ None
    → p.key_index + r ≡ total
    → ShowsPosition total (position positions j) (first_position (key_for j).key ps)
    → ShowsPosition total (position (with_position positions key r) j)
    (first_position (key_for j).key (ps ++ p ∷ []))
position_more total positions key j r ps p is_named none at before =
    by (equal (key_for key).key (key_for j).key) refl
  where
    shows : (o i : Option ℕ) → position (with_position positions key r) j ≡ o
        → first_position (key_for j).key (ps ++ p ∷ []) ≡ i → ShowsPosition total o i
        → ShowsPosition total (position (with_position positions key r) j)
        (first_position (key_for j).key (ps ++ p ∷ []))
    shows o i e d h = subst (λ x. ShowsPosition total x (first_position (key_for j).key (ps ++ p ∷ [])))
        (sym e) (subst (ShowsPosition total o) (sym d) h)

    by : (t : Bool) → equal (key_for key).key (key_for j).key ≡ t
        → ShowsPosition total (position (with_position positions key r) j)
        (first_position (key_for j).key (ps ++ p ∷ []))
    by true e =
        let same : (key_for key).key ≡ (key_for j).key =
        equal-true (key_for key).key (key_for j).key e in
        shows (Some r) (Some p.key_index)
        (position_law positions key j r ∙ ap (λ t. if t then Some r else position positions j) e)
        (first_position_more (key_for j).key ps p ∙
        ap (λ i. first_or i (position_if (equal (key_for j).key p.key) p.key_index))
        (ap (λ k. first_position k ps) (sym same) ∙ none)
        ∙ ap (λ t. first_or None (position_if t p.key_index))
        (ap (equal (key_for j).key) (sym is_named ∙ same) ∙ equal-refl (key_for j).key))
        at
    by false e =
        shows (position positions j) (first_position (key_for j).key ps)
        (position_law positions key j r ∙ ap (λ t. if t then Some r else position positions j) e)
        (first_position_more (key_for j).key ps p ∙
        ap (λ t. first_or (first_position (key_for j).key ps) (position_if t p.key_index))
        (ap (equal (key_for j).key) (sym is_named) ∙ equal_not (key_for key).key (key_for j).key
        e)
        ∙ or_no_position (first_position (key_for j).key ps))
        before

-- the parts of Modifiers that one more good modifier leaves
pub take_good : (strict : Bool) (name : Option Name) (total : ℕ) (c : Modifiers) (r : ℕ)
    (ps : List Placed) (p : Placed) (key : code_key.Key) (setting : Setting) (settings' : Settings)
    (positions' : Positions)
    → Checks strict name total c ps → c.fault ≡ None → p.key_index + r ≡ total
    → ChecksOne strict name total (Ok (key, setting)) ps p
    → settings' ≡ with c.settings setting → (IsTrue strict → positions' ≡ with_position c.positions key r)
    → Checks strict name total (record { settings = settings'; positions = positions'; fault = c.fault })
    (ps ++ p ∷ [])
take_good strict name total c r ps p key setting settings' positions' checks none is one s q = record {
  fault = shows_none total c.fault _ none
      (bad_more strict (keys_of name) [] ps p ∙
      ap (λ b. b or bad_modifier strict (key_in strict p.key (keys_of name)) ps p)
      (none_shown total c.fault _ checks.fault none) ∙ one.1);
  settings = λ e.
      s ∙ ap (λ x. with x setting) (checks.settings none)
      ∙ ap (with_option (settings strict (keys_of name) ps))
      (sym (ap (λ k. setting_of strict k p.value) one.0 ∙ one.2))
      ∙ sym (settings_more strict (keys_of name) _ ps p);
  positions = λ e exact k.
      subst (λ x. ShowsPosition total (position x k) (first_position (key_for k).key (ps ++ p ∷ [])))
      (sym (q exact))
      (position_more total c.positions key k r ps p (named strict exact one.0) (one.3 exact) is
      (checks.positions none exact k));
}
  where
    named : (b : Bool) → b ≡ true → key_in b p.key (keys_of name) ≡ Some (key_for key)
        → (key_for key).key ≡ p.key
    named true e found = named_key (keys_of name) p.key (key_for key) found
    named false e found = absurd (true≢false (sym e))

pub take_bad : (strict : Bool) (name : Option Name) (total : ℕ) (c : Modifiers) (ps : List Placed)
    (p : Placed) (f : code_fault.Fault) (settings' : Settings) (positions' : Positions)
    → Checks strict name total c ps → c.fault ≡ None
    → ((g : Fault) × (bad_modifier strict (key_in strict p.key (keys_of name)) ps p ≡ Some g)
    × IsFault total f g)
    → Checks strict name total (record { settings = settings'; positions = positions'; fault = Some f })
    (ps ++ p ∷ [])
take_bad strict name total c ps p f settings' positions' checks none one = record {
  fault = subst (ShowsFault total (Some f))
      (sym (bad_more strict (keys_of name) [] ps p ∙
      ap (λ b. b or bad_modifier strict (key_in strict p.key (keys_of name)) ps p)
      (none_shown total c.fault _ checks.fault none) ∙ one.1))
      one.2;
  settings = λ e. absurd (cc);
  positions = λ e exact k. absurd (cc);
}

-- a fault stays the first
pub take_after : (strict : Bool) (name : Option Name) (total : ℕ) (c : Modifiers) (ps : List Placed)
    (p : Placed) → Checks strict name total c ps → is_some c.fault ≡ true
    → Checks strict name total c (ps ++ p ∷ [])
take_after strict name total c ps p checks some = record {
  fault = subst (ShowsFault total c.fault) (sym (bad_more strict (keys_of name) [] ps p))
      (still c.fault _ some checks.fault);
  settings = λ e. absurd (true≢false (sym some ∙ ap is_some e));
  positions = λ e exact k. absurd (true≢false (sym some ∙ ap is_some e));
}
  where
    still : (o : Option code_fault.Fault) (b : Option Fault) → is_some o ≡ true
        → ShowsFault total o b → ShowsFault total o
        (b or bad_modifier strict (key_in strict p.key (keys_of name)) ps p)
    still (Some f) (Some g) some is = is
    still (Some f) None some is = absurd is
    still None b some is = absurd (true≢false (sym some))

pub no_fault : (o : Option code_fault.Fault) → is_some o ≡ false → o ≡ None
no_fault None e = refl
no_fault (Some f) e = absurd (true≢false e)
