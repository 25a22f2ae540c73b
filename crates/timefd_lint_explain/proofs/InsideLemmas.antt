-- What is in a bracket, for each kind of tree.
use Rattle.std.proofs.Common.{ℕ, ◌≡◌, ◌∙◌, ◌+◌, cond, not, Bool, true, false, codes, List, [], ◌∷◌, ◌++◌, length, map, Option, Some, None, Result, Ok, IsTrue, refl, sym, ap, subst, append_assoc}
use Rattle.std.proofs.lemmas.Bool.{not-true}
use Rattle.std.specs.Prelude.{⊤}
use Rattle.timefd_lang_component.specs.declared.component.Component.{Component}
use Rattle.timefd_lang_component.specs.Tree.{Text, Tree, component, literal, compound, optional, first, trees, pack}
use Rattle.timefd_parse.specs.Faults.{Fault, fault}
use Rattle.timefd_language.specs.declared.description_version.DescriptionVersion.{DescriptionVersion}
use Rattle.timefd_language.specs.declared.description_version.DescriptionVersion.TheVariants.{One, Two, Three}
use Rattle.timefd_language.specs.Bytes.{right, same, is_white, is_version_three, ZeroOrMore}
use Rattle.timefd_parse.specs.Words.{expected_nested, expected_alternative, many_nested, optional_item, first_item}
use Rattle.timefd_language.specs.Grammar.{Pieces, no_pieces, run, escape, closing, bracket, Nested, no_nested, nested, ArePieces, AreNested, Spells, bracket_verdict, items, nested_text, parts_from, spelling}
use Rattle.timefd_language.specs.Head.{Head, IsHead, head_text, placed}
use Rattle.timefd_language.specs.Letters.{Flag, letters, item_of}
use Rattle.timefd_language.specs.Names.{Row, row_of}
use Rattle.timefd_language.specs.Strftime.{Directives, no_directives, plain, directive, AreDirectives, SpellsStrftime, directive_items}
use Rattle.timefd_language.specs.Values.{format}
use Rattle.timefd_language.specs.Verdict.{PlacedDescription, ◌or◌, unless, after, bad_modifiers, settings, made, component_verdict, touching, too_many, nested_refused, nested_wanted, any_modifier, is_formatted, only, optional_verdict, first_verdict, verdict}
use Rattle.timefd_lint_explain.specs.Inside.{Nests}
use Rattle.timefd_language.proofs.Lift.{unless_fault}
use Rattle.timefd_language.proofs.Lookup.{Each, each-passes}
use Rattle.timefd_language.proofs.ModernPieces.{item_has}
use Rattle.timefd_language.proofs.Roomy.{after_ok, made_ok, unless_ok}

-- The tree of each nested description.
abbrev pub packed : List PlacedDescription → List Tree
packed ps = map (λ p. pack p.trees) ps

-- A bracket with descriptions of these trees is this tree. A component holds no descriptions. Optional items
-- and alternatives are only in version 3.
abbrev pub Holds : Bool → List Tree → Tree → Type 0
Holds strict held (component c) = ⊤
Holds strict held (literal bytes) = ⊥
Holds strict held (compound ts) = ⊥
Holds strict held (optional f t) = IsTrue strict × (held ≡ t ∷ [])
Holds strict held (first ts) = IsTrue strict × (trees held ≡ ts)

component_is : (strict : Bool) (h : Head) (o : Option Row) (t : Tree)
    → component_verdict strict h o ≡ Ok t → (c : Component) × (component c ≡ t)
component_is strict h None t e = absurd cc
component_is strict h (Some r) t e =
    let leaf = made_ok strict h (r.component (settings strict r.keys (placed h))) t
    (after_ok (bad_modifiers strict r.keys [] (placed h))
    (made strict h (r.component (settings strict r.keys (placed h)))) t e) in
    (leaf.0, leaf.1)

chosen : (P : Tree → Type 0) (b : Bool) (x y : Result Tree Fault) (t : Tree) → (x ≡ Ok t → P t)
    → (y ≡ Ok t → P t) → cond b x y ≡ Ok t → P t
chosen P true x y t of_x of_y e = of_x e
chosen P false x y t of_x of_y e = of_y e

last_fault : (a b c : Option Fault) (f : Fault) (t u : Tree)
    → unless (a or b or c or Some f) t ≡ Ok u → ⊥
last_fault (Some x) b c f t u e = cc
last_fault None (Some x) c f t u e = cc
last_fault None None (Some x) f t u e = cc
last_fault None None None f t u e = cc

of_optional : (strict : Bool) (h : Head) (ps : List PlacedDescription) (close : ℕ) (t : Tree)
    → optional_verdict strict h ps close ≡ Ok t → Holds strict (packed ps) t
of_optional true h [] close t e =
    absurd (unless_fault (bad_modifiers true (format ∷ []) [] (placed h))
    (fault expected_nested close) (optional (is_formatted true (placed h)) (only [])) t e)
of_optional true h (p ∷ []) close t e =
    subst (Holds true (packed (p ∷ [])))
    (unless_ok (bad_modifiers true (format ∷ []) [] (placed h) or None)
    (optional (is_formatted true (placed h)) (only (p ∷ []))) t e) (refl, refl)
of_optional true h (p ∷ q ∷ ps) close t e =
    absurd (unless_fault (bad_modifiers true (format ∷ []) [] (placed h))
    (fault many_nested p.index) (optional (is_formatted true (placed h)) (only (p ∷ q ∷ ps))) t e)
of_optional false h ps close t e =
    absurd (last_fault (bad_modifiers false (format ∷ []) [] (placed h)) (too_many ps)
    (nested_wanted expected_nested ps close) (fault optional_item 0)
    (optional (is_formatted false (placed h)) (only ps)) t e)

of_first : (strict : Bool) (h : Head) (ps : List PlacedDescription) (close : ℕ) (t : Tree)
    → first_verdict strict h ps close ≡ Ok t → Holds strict (packed ps) t
of_first true h ps close t e =
    subst (Holds true (packed ps))
    (unless_ok (any_modifier (placed h) or nested_wanted expected_alternative ps close)
    (first (trees (packed ps))) t e) (refl, refl)
of_first false h ps close t e =
    absurd (unless_fault (any_modifier (placed h)) (fault first_item 0) (first (trees (packed ps)))
    t e)

of_component : (strict : Bool) (h : Head) (ps : List PlacedDescription) (t : Tree)
    → after (nested_refused ps) (component_verdict strict h (row_of strict h.name)) ≡ Ok t
    → Holds strict (packed ps) t
of_component strict h ps t e =
    let c = component_is strict h (row_of strict h.name) t
    (after_ok (nested_refused ps) (component_verdict strict h (row_of strict h.name)) t e) in
    subst (Holds strict (packed ps)) c.1 tt

verdict_holds : (strict : Bool) (h : Head) (ps : List PlacedDescription) (close : ℕ) (t : Tree)
    → verdict strict h ps close ≡ Ok t → Holds strict (packed ps) t
verdict_holds strict h ps close t e =
    let rest : Result Tree Fault =
    after (nested_refused ps) (component_verdict strict h (row_of strict h.name)) in
    chosen (Holds strict (packed ps)) (same strict (codes "optional") h.name)
    (optional_verdict strict h ps close)
    (cond (same strict (codes "first") h.name) (first_verdict strict h ps close) rest) t
    (of_optional strict h ps close t)
    (chosen (Holds strict (packed ps)) (same strict (codes "first") h.name)
    (first_verdict strict h ps close) rest t (of_first strict h ps close t)
    (of_component strict h ps t))
    (after_ok (touching ps) _ t e)

-- The tree of each nested description.
abbrev pub held_trees : Nested → List Tree
held_trees no_nested = []
held_trees (nested w ps ns) = pack (items ps) ∷ held_trees ns

held_packed : (k : ℕ) (ns : Nested) → packed (parts_from k ns) ≡ held_trees ns
held_packed k no_nested = refl
held_packed k (nested w ps ns) =
    ap (λ ts. pack (items ps) ∷ ts) (held_packed (k + length w + 1 + length (spelling ps) + 1) ns)

pub bracket_holds : (v : DescriptionVersion) (h : Head) (ns : Nested) (white : Text) (t : Tree)
    → bracket_verdict v h ns white ≡ Ok t → Holds (is_version_three v) (held_trees ns) t
bracket_holds v h ns white t e =
    subst (λ held. Holds (is_version_three v) held t) (held_packed (length (head_text h)) ns)
    (verdict_holds (is_version_three v) h (parts_from (length (head_text h)) ns)
    (length (head_text h ++ nested_text ns ++ white)) t e)

-- Texts that spell one tree.

-- The text is a bracket with these descriptions, and the tree holds their trees.
pub record IsBracket (limit : ℕ) (text : Text) (t : Tree) : Type 0 where
  pub head : Head
  pub inside : Nested
  pub white : Text
  pub is_head : IsHead head
  pub are : AreNested Three limit 0 inside
  pub all_white : ZeroOrMore is_white white
  pub whole : text ≡ head_text head ++ (nested_text inside ++ (white ++ right ∷ []))
  pub holds : Holds true (held_trees inside) t

no_more : (ps : Pieces) → items ps ≡ [] → spelling ps ≡ []
no_more no_pieces e = refl
no_more (run bytes rest) e = absurd cc
no_more (escape a b rest) e = absurd cc
no_more (closing rest) e = absurd cc
no_more (bracket h ns white tree rest) e = absurd cc

not_literal : (bytes : Text) (t : Tree) (ts : List Tree) → t ∷ [] ≡ literal bytes ∷ ts → Nests t
    → ⊥
not_literal bytes t ts e n = let is : t ≡ literal bytes = cc in subst Nests is n

strict_is : (v : DescriptionVersion) (held : List Tree) (t : Tree) → Nests t
    → Holds (is_version_three v) held t → v ≡ Three
strict_is One held (optional f t) n h = absurd cc
strict_is One held (first ts) n h = absurd cc
strict_is One held (component c) n h = absurd n
strict_is One held (literal bytes) n h = absurd n
strict_is One held (compound ts) n h = absurd n
strict_is Two held (optional f t) n h = absurd cc
strict_is Two held (first ts) n h = absurd cc
strict_is Two held (component c) n h = absurd n
strict_is Two held (literal bytes) n h = absurd n
strict_is Two held (compound ts) n h = absurd n
strict_is Three held t n h = refl

regrouped : (a b c d e : Text) → d ≡ e → ((a ++ b) ++ c) ++ right ∷ d ≡ a ++ (b ++ (c ++ right ∷ e))
regrouped a b c d e is = ap (λ x. ((a ++ b) ++ c) ++ right ∷ x) is ∙ simp append_assoc

pub nesting_bracket : (v : DescriptionVersion) (limit : ℕ) (text : Text) (t : Tree)
    → Spells v limit 0 text (t ∷ []) → Nests t → (v ≡ Three) × IsBracket limit text t
nesting_bracket v limit text t s n = by s.0 s.1 s.2 s.3
  where
    by : (ps : Pieces) → ArePieces v limit 0 ps → text ≡ spelling ps → t ∷ [] ≡ items ps
        → (v ≡ Three) × IsBracket limit text t
    by no_pieces are whole e = absurd cc
    by (run bytes rest) are whole e = absurd (not_literal bytes t (items rest) e n)
    by (escape a b rest) are whole e = absurd (not_literal (b ∷ []) t (items rest) e n)
    by (closing rest) are whole e = absurd (not_literal (right ∷ []) t (items rest) e n)
    by (bracket h ns white tree rest) are whole e =
        let is : tree ≡ t = cc in
        let none : items rest ≡ [] = cc in
        let holds : Holds (is_version_three v) (held_trees ns) t =
        subst (Holds (is_version_three v) (held_trees ns)) is
        (bracket_holds v h ns white tree are.3) in
        let three : v ≡ Three = strict_is v (held_trees ns) t n holds in (
          three,
          record {
            head = h;
            inside = ns;
            white = white;
            is_head = are.0;
            are = subst (λ x. AreNested x limit 0 ns) three are.1;
            all_white = are.2;
            whole = whole
                ∙ regrouped (head_text h) (nested_text ns) white (spelling rest) [] (no_more rest none);
            holds = subst (λ x. Holds (is_version_three x) (held_trees ns) t) three holds;
          },
        )

-- Compounds are only in strftime.

abbrev pub IsCompound : Tree → Type 0
IsCompound (component c) = ⊥
IsCompound (literal bytes) = ⊥
IsCompound (compound ts) = ⊤
IsCompound (optional f t) = ⊥
IsCompound (first ts) = ⊥

no_compound : (strict : Bool) (held : List Tree) (t : Tree) → Holds strict held t → IsCompound t
    → ⊥
no_compound strict held (component c) h is = is
no_compound strict held (literal bytes) h is = is
no_compound strict held (compound ts) h is = h
no_compound strict held (optional f t) h is = is
no_compound strict held (first ts) h is = is

abbrev pub NoCompounds : List Tree → Type 0
NoCompounds [] = ⊤
NoCompounds (t ∷ ts) = (IsCompound t → ⊥) × NoCompounds ts

pieces_flat : (v : DescriptionVersion) (limit n : ℕ) (ps : Pieces) → ArePieces v limit n ps
    → NoCompounds (items ps)
pieces_flat v limit n no_pieces are = tt
pieces_flat v limit n (run bytes rest) are = ((λ is. is), pieces_flat v limit n rest are.2)
pieces_flat v limit n (escape a b rest) are = ((λ is. is), pieces_flat v limit n rest are.1)
pieces_flat v limit n (closing rest) are = ((λ is. is), pieces_flat v limit n rest are.2)
pieces_flat v limit n (bracket h ns white tree rest) are = (
  no_compound (is_version_three v) (held_trees ns) tree (bracket_holds v h ns white tree are.3),
  pieces_flat v limit n rest are.4,
)

pub spelled_flat : (v : DescriptionVersion) (limit : ℕ) (text : Text) (list : List Tree)
    → Spells v limit 0 text list → NoCompounds list
spelled_flat v limit text list s = subst NoCompounds (sym s.3) (pieces_flat v limit 0 s.0 s.1)

-- Strftime nests nothing.

abbrev nests : Tree → Bool
nests (component c) = false
nests (literal bytes) = false
nests (compound ts) = false
nests (optional f t) = true
nests (first ts) = true

nests_not : (t : Tree) → nests t ≡ false → Nests t → ⊥
nests_not (component c) e n = n
nests_not (literal bytes) e n = n
nests_not (compound ts) e n = n
nests_not (optional f t) e n = cc
nests_not (first ts) e n = cc

letters_flat : (f : Flag) → Each (λ l. Nests (l.item f) → ⊥) letters
letters_flat f = each-passes (λ l. not (nests (l.item f))) (λ l. Nests (l.item f) → ⊥)
    (λ l e. nests_not (l.item f) (not-true (nests (l.item f)) e)) letters refl

pub strftime_flat : (text : Text) (t : Tree) → SpellsStrftime text (t ∷ []) → Nests t → ⊥
unfolding item_of
strftime_flat text t s n = by s.0 s.1 s.3
  where
    by : (ds : Directives) → AreDirectives ds → t ∷ [] ≡ directive_items ds → ⊥
    by no_directives are e = cc
    by (plain bytes rest) are e = not_literal bytes t (directive_items rest) e n
    by (directive f b tree rest) are e =
        let is : t ≡ tree = cc in
        item_has (λ x. Nests x → ⊥) letters f b tree (letters_flat f) are.2 (subst Nests is n)
