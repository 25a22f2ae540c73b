-- Facts about the items of each letter of strftime.
use Rattle.std.proofs.Common.{◌≡◌, ◌&&◌, Bool, true, false, List, [], ◌∷◌, refl, sym, subst}
use Rattle.std.proofs.lemmas.Bool.{and_parts}
use Rattle.timefd_lang_component.specs.declared.component.Component.{Component}
use Rattle.timefd_lang_component.specs.declared.component.Component.TheVariants.{Ignore}
use Rattle.timefd_lang_component.specs.Tree.{Text, Tree, component, literal, compound, optional, first, Trees, no_trees, more_trees, trees}
use Rattle.timefd_lang_convert.specs.Laws.{Flattening}
use Rattle.timefd_lang_convert.specs.Leaves.{IsLeaf, AreLeaves, IsShallow, AreShallow}
use Rattle.timefd_lang_convert.proofs.FlatLemmas.{spells_flat}
use Rattle.timefd_language.specs.Bytes.{OneOrMore}
use Rattle.timefd_language.specs.Letters.{Flag, letters, item_of}
use Rattle.timefd_language.specs.Strftime.{is_plain, Directives, no_directives, plain, directive, directive_items, AreDirectives, SpellsStrftime}
use Rattle.timefd_language.proofs.Lookup.{Each, each-passes}
use Rattle.timefd_language.proofs.ModernPieces.{item_has, strftime_modernity_law}
use Rattle.timefd_lift.specs.Plain.{IsCounted}

-- Leaves, by a test that is computed for each letter.

abbrev has_no_count : Component → Bool
has_no_count (Ignore m) = false
has_no_count _ = true

counted : (c : Component) → has_no_count c ≡ true → IsCounted c
counted (Ignore m) e = absurd cc
counted _ e = tt

abbrev is_leaf : Tree → Bool
is_leaf (component c) = has_no_count c
is_leaf (literal []) = false
is_leaf (literal (b ∷ bytes)) = true
is_leaf (compound ts) = false
is_leaf (optional format t) = false
is_leaf (first ts) = false

abbrev are_leaves : Trees → Bool
are_leaves no_trees = true
are_leaves (more_trees t ts) = is_leaf t && are_leaves ts

abbrev is_shallow : Tree → Bool
is_shallow (component c) = is_leaf (component c)
is_shallow (literal bytes) = is_leaf (literal bytes)
is_shallow (compound ts) = are_leaves ts
is_shallow (optional format t) = false
is_shallow (first ts) = false

leaf : (t : Tree) → is_leaf t ≡ true → IsLeaf t
leaf (component c) e = counted c e
leaf (literal []) e = absurd cc
leaf (literal (b ∷ bytes)) e = tt
leaf (compound ts) e = absurd cc
leaf (optional format t) e = absurd cc
leaf (first ts) e = absurd cc

leaves : (ts : Trees) → are_leaves ts ≡ true → AreLeaves ts
leaves no_trees e = tt
leaves (more_trees t ts) e =
    let p = and_parts (is_leaf t) (are_leaves ts) e in (leaf t p.0, leaves ts p.1)

shallow : (t : Tree) → is_shallow t ≡ true → IsShallow t
shallow (component c) e = leaf (component c) e
shallow (literal bytes) e = leaf (literal bytes) e
shallow (compound ts) e = leaves ts e
shallow (optional format t) e = absurd cc
shallow (first ts) e = absurd cc

letters_shallow : (f : Flag) → Each (λ l. IsShallow (l.item f)) letters
letters_shallow f =
    each-passes (λ l. is_shallow (l.item f)) (λ l. IsShallow (l.item f))
    (λ l e. shallow (l.item f) e) letters refl

run_leaf : (bytes : Text) → OneOrMore is_plain bytes → IsLeaf (literal bytes)
run_leaf [] some = absurd some
run_leaf (b ∷ bytes) some = tt

directives_shallow : (ds : Directives) → AreDirectives ds → AreShallow (trees (directive_items ds))
unfolding item_of
directives_shallow no_directives are = tt
directives_shallow (plain bytes rest) are =
    (run_leaf bytes are.0, directives_shallow rest are.2)
directives_shallow (directive f b tree rest) are =
    (item_has IsShallow letters f b tree (letters_shallow f) are.2, directives_shallow rest are.3)

pub spelled_shallow : (text : Text) (list : List Tree) → SpellsStrftime text list
    → AreShallow (trees list)
spelled_shallow text list s =
    subst (λ x. AreShallow (trees x)) (sym s.3) (directives_shallow s.0 s.1)

pub flattening_law : Flattening
flattening_law limit text list s =
    spells_flat limit list (spelled_shallow text list s) (strftime_modernity_law text list s)
