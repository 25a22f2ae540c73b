-- The verdict, rule by rule.
use Rattle.std.proofs.Common.{IsTrue, ◌++◌, ◌<◌, ◌≡◌, ℕ, ◌+◌, Bool, true, false, not, if◌then◌else◌, List, [], ◌∷◌, length, map, Some, None, Ok, Err, refl, sym, ap, ◌∙◌, subst, arith}
use Rattle.std.proofs.lemmas.List.{length-map}
use Rattle.timefd_lang_fault.specs.Faults.{Fault, fault}
use Rattle.timefd_lang_component.specs.Tree.{Tree, optional, first, trees, pack}
use Rattle.timefd_lang_node_list.specs.Nodes.{before, ending}
use Rattle.timefd_lang_node_list.proofs.NodeLemmas.{before-append, ending-append}
use Rattle.timefd_parse.specs.declared.piece.Piece.TheVariants.{Compound}
use Rattle.timefd_parse.specs.declared.bracket.verdict.Nested as code_nested
use Rattle.timefd_language.specs.Bytes.{same}
use Rattle.timefd_lang_fault.specs.Words.{expected_nested, expected_alternative, many_nested, optional_item, first_item}
use Rattle.timefd_language.specs.Head.{Head, Placed, placed}
use Rattle.timefd_language.specs.Values.{format}
use Rattle.timefd_parse.specs.Positions.{position}
use Rattle.timefd_language.specs.Verdict.{PlacedDescription, ◌or◌, unless, refuse, bad_modifiers, made, any_modifier, nested_wanted, too_many, is_formatted, only, optional_verdict, first_verdict}
use Rattle.timefd_parse.specs.Pieces.{IsBuilt, IsPiece}
use Rattle.timefd_parse.specs.Judged.{ShowsNested, packed}

-- Parts.

module _ (total : ℕ) (n : code_nested.Nested) where
  pub parts_none : (parts : List PlacedDescription) → ShowsNested total n parts → n.count ≡ 0
      → parts ≡ []
  parts_none [] shows e = refl
  parts_none (p ∷ ps) shows e = absurd (omega (arith, shows.2, e))

  pub parts_one : (parts : List PlacedDescription) → ShowsNested total n parts → n.count ≡ 1
      → (p : PlacedDescription) × (parts ≡ p ∷ [])
  parts_one [] shows e = absurd (omega (arith, shows, e))
  parts_one (p ∷ []) shows e = (p, refl)
  parts_one (p ∷ q ∷ ps) shows e = absurd (omega (arith, shows.2, e))

  pub parts_many : (parts : List PlacedDescription) → ShowsNested total n parts → 1 < n.count
      → (f : Fault) × (too_many parts ≡ Some f) × (f.kind ≡ many_nested)
      × (f.index + n.remaining ≡ total)
  parts_many [] shows many = absurd (omega (arith, shows, many))
  parts_many (p ∷ []) shows many = absurd (omega (arith, shows.2, many))
  parts_many (p ∷ q ∷ ps) shows many = (fault many_nested p.index, refl, refl, shows.1)

  parts_count : (parts : List PlacedDescription) → ShowsNested total n parts
      → n.count ≡ length (packed parts)
  parts_count [] shows = shows
  parts_count (p ∷ ps) shows = shows.2 ∙
      sym (length-map (p ∷ ps) (λ (q : PlacedDescription). pack q.trees))

-- `optional`

pub optional_none : (strict : Bool) (position : ℕ) (h : Head) (parts : List PlacedDescription)
    → bad_modifiers strict (format ∷ []) [] (placed h) ≡ None → parts ≡ []
    → optional_verdict strict h parts position ≡ Err (fault expected_nested position)
optional_none strict position h parts bad none =
    subst (λ ps. optional_verdict strict h ps position ≡ Err (fault expected_nested position)) (sym none)
    (subst (λ a. unless (a or too_many [] or nested_wanted expected_nested [] position or refuse
    (not strict) optional_item 0) (optional (is_formatted strict (placed h)) (only [])) ≡ Err
    (fault expected_nested position)) (sym bad) refl)

pub optional_many : (strict : Bool) (position : ℕ) (h : Head) (parts : List PlacedDescription)
    (g : Fault) → bad_modifiers strict (format ∷ []) [] (placed h) ≡ None → too_many parts ≡ Some g
    → optional_verdict strict h parts position ≡ Err g
optional_many strict position h parts g bad many =
    subst (λ a. unless (a or too_many parts or nested_wanted expected_nested parts position or refuse
    (not strict) optional_item 0) (optional (is_formatted strict (placed h)) (only parts)) ≡ Err
    g) (sym bad)
    (subst (λ a. unless (None or a or nested_wanted expected_nested parts position or refuse
    (not strict) optional_item 0) (optional (is_formatted strict (placed h)) (only parts)) ≡ Err
    g) (sym many) refl)

pub optional_lax : (strict : Bool) (position : ℕ) (h : Head) (p : PlacedDescription)
    (parts : List PlacedDescription) → bad_modifiers strict (format ∷ []) [] (placed h) ≡ None
    → strict ≡ false
    → parts ≡ p ∷ [] → optional_verdict strict h parts position ≡ Err (fault optional_item 0)
optional_lax strict position h p parts bad lax one =
    subst (λ ps. optional_verdict strict h ps position ≡ Err (fault optional_item 0)) (sym one)
    (subst (λ a. unless (a or None or None or refuse (not strict) optional_item 0)
    (optional (is_formatted strict (placed h)) (only (p ∷ []))) ≡ Err (fault optional_item 0))
    (sym bad)
    (subst (λ b. unless (None or None or None or refuse (not b) optional_item 0)
    (optional (is_formatted strict (placed h)) (only (p ∷ []))) ≡ Err (fault optional_item 0))
    (sym lax) refl))

optional_found : (strict : Bool) (position : ℕ) (h : Head) (p : PlacedDescription)
    (parts : List PlacedDescription) → bad_modifiers strict (format ∷ []) [] (placed h) ≡ None
    → strict ≡ true
    → parts ≡ p ∷ [] → optional_verdict strict h parts position ≡ Ok
    (optional (is_formatted strict (placed h)) (pack p.trees))
optional_found strict position h p parts bad exact one =
    let tree : Tree = optional (is_formatted strict (placed h)) (pack p.trees) in
    subst (λ ps. optional_verdict strict h ps position ≡ Ok tree) (sym one)
    (subst (λ a. unless (a or None or None or refuse (not strict) optional_item 0) tree ≡ Ok tree)
    (sym bad)
    (subst (λ b. unless (None or None or None or refuse (not b) optional_item 0) tree ≡ Ok tree)
    (sym exact) refl))

-- the last tree made one that may be skipped
made_optional : (base old new : List Tree) (tree : Tree) (format shown : Bool)
    → old ≡ base ++ tree ∷ [] → new ≡ before 1 old ++ optional format (pack (ending 1 old)) ∷ []
    → format ≡ shown
    → new ≡ base ++ optional shown tree ∷ []
made_optional base old new tree format shown o made same =
    made ∙ ap (λ ts. before 1 ts ++ optional format (pack (ending 1 ts)) ∷ []) o
    ∙ ap (λ ts. ts ++ optional format (pack (ending 1 (base ++ tree ∷ []))) ∷ [])
    (before-append base (tree ∷ []) 1 refl)
    ∙ ap (λ ts. base ++ optional format (pack ts) ∷ []) (ending-append base (tree ∷ []) 1 refl)
    ∙ ap (λ f. base ++ optional f tree ∷ []) same

pub optional_made : (strict builds : Bool) (total position : ℕ) (n : code_nested.Nested) (formatted : Bool)
    (h : Head) (parts : List PlacedDescription) (base old new : List Tree)
    → bad_modifiers strict (format ∷ []) [] (placed h) ≡ None
    → formatted ≡ is_formatted strict (placed h)
    → ShowsNested total n parts → n.count ≡ 1 → strict ≡ true
    → IsBuilt builds base old (packed parts)
    → (IsTrue builds → new ≡ before 1 old ++ optional formatted (pack (ending 1 old)) ∷ [])
    → (tree : Tree) × (optional_verdict strict h parts position ≡ Ok tree)
    × IsPiece strict builds base new Compound tree
optional_made strict builds total position n formatted h parts base old new good same shows one exact are
    made =
    let p = parts_one total n parts shows one in (
      optional (is_formatted strict (placed h)) (pack p.0.trees),
      optional_found strict position h p.0 parts good exact p.1,
      (
        exact,
        λ on. made_optional base old new (pack p.0.trees) _ _
            (are on ∙ ap (λ ps. base ++ packed ps) p.1) (made on) same,
      ),
    )

-- `first`

pub any_is_bad : (strict : Bool) (ps : List Placed) → any_modifier ps ≡ bad_modifiers strict [] [] ps
any_is_bad strict [] = refl
any_is_bad strict (p ∷ ps) = refl

pub first_lax : (strict : Bool) (position : ℕ) (h : Head) (parts : List PlacedDescription)
    → bad_modifiers strict [] [] (placed h) ≡ None → strict ≡ false
    → first_verdict strict h parts position ≡ Err (fault first_item 0)
first_lax strict position h parts bad lax =
    subst (λ a. unless (a or (if strict then nested_wanted expected_alternative parts position
    else Some (fault first_item 0)))
    (first (trees (map (λ (p : PlacedDescription). pack p.trees) parts))) ≡ Err
    (fault first_item 0)) (sym (any_is_bad strict (placed h) ∙ bad))
    (subst (λ b. unless (None or (if b then nested_wanted expected_alternative parts position else Some
    (fault first_item 0))) (first (trees (map (λ (p : PlacedDescription). pack p.trees) parts)))
    ≡ Err (fault first_item 0)) (sym lax) refl)

pub first_empty : (strict : Bool) (position : ℕ) (h : Head) (parts : List PlacedDescription)
    → bad_modifiers strict [] [] (placed h) ≡ None → strict ≡ true → parts ≡ []
    → first_verdict strict h parts position ≡ Err (fault expected_alternative position)
first_empty strict position h parts bad exact none =
    subst (λ a. unless (a or (if strict then nested_wanted expected_alternative parts position
    else Some (fault first_item 0)))
    (first (trees (map (λ (p : PlacedDescription). pack p.trees) parts))) ≡ Err
    (fault expected_alternative position)) (sym (any_is_bad strict (placed h) ∙ bad))
    (subst (λ b. unless (None or (if b then nested_wanted expected_alternative parts position else Some
    (fault first_item 0))) (first (trees (map (λ (p : PlacedDescription). pack p.trees) parts)))
    ≡ Err (fault expected_alternative position)) (sym exact)
    (subst (λ ps. unless (nested_wanted expected_alternative ps position)
    (first (trees (map (λ (p : PlacedDescription). pack p.trees) ps))) ≡ Err
    (fault expected_alternative position)) (sym none) refl))

first_found : (strict : Bool) (position : ℕ) (h : Head) (parts : List PlacedDescription)
    → bad_modifiers strict [] [] (placed h) ≡ None → strict ≡ true → (parts ≡ [] → ⊥)
    → first_verdict strict h parts position ≡ Ok (first (trees (packed parts)))
first_found strict position h [] bad exact some = absurd (some refl)
first_found strict position h (p ∷ ps) bad exact some =
    let tree : Tree = first (trees (packed (p ∷ ps))) in
    subst (λ a. unless (a or (if strict then None else Some (fault first_item 0))) tree ≡ Ok tree)
    (sym (any_is_bad strict (placed h) ∙ bad))
    (subst (λ b. unless (None or (if b then None else Some (fault first_item 0))) tree ≡ Ok tree)
    (sym exact) refl)

-- the last trees made alternatives
made_first : (base old new list : List Tree) (count : ℕ) → old ≡ base ++ list → count ≡ length list
    → new ≡ before count old ++ first (trees (ending count old)) ∷ []
    → new ≡ base ++ first (trees list) ∷ []
made_first base old new list count o counted made =
    made ∙ ap (λ ts. before count ts ++ first (trees (ending count ts)) ∷ []) o
    ∙ ap (λ ts. ts ++ first (trees (ending count (base ++ list))) ∷ [])
    (before-append base list count counted)
    ∙ ap (λ ts. base ++ first (trees ts) ∷ []) (ending-append base list count counted)

pub first_made : (strict builds : Bool) (total position : ℕ) (n : code_nested.Nested) (h : Head)
    (parts : List PlacedDescription) (base old new : List Tree)
    → bad_modifiers strict [] [] (placed h) ≡ None
    → ShowsNested total n parts → (n.count ≡ 0 → ⊥) → strict ≡ true
    → IsBuilt builds base old (packed parts)
    → (IsTrue builds → new ≡ before n.count old ++ first (trees (ending n.count old)) ∷ [])
    → (tree : Tree) × (first_verdict strict h parts position ≡ Ok tree)
    × IsPiece strict builds base new Compound tree
first_made strict builds total position n h parts base old new good shows some exact are made = (
  first (trees (packed parts)),
  first_found strict position h parts good exact
      (λ e. some (parts_count total n parts shows ∙ ap (λ ps. length (packed ps)) e)),
  (
    exact,
    λ on. made_first base old new (packed parts) n.count (are on)
        (parts_count total n parts shows) (made on),
  ),
)
