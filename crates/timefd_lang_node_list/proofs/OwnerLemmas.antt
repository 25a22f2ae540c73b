-- Whether nodes own their text: one more after them, one less, and copies.
use Rattle.std.proofs.Common.{◌≡◌, ◌∙◌, Bool, true, false, ◌||◌, List, [], ◌∷◌, ◌++◌, map, refl, sym, ap}
use Rattle.std.specs.Bool.{IsTrue, IsFalse}
use Rattle.std.specs.List.{list_any}
use Rattle.std.proofs.lemmas.Bool.{true≢false}
use Rattle.std.proofs.lemmas.List.Folds.{list_any-append}
use Rattle.timefd_lang_node_list.specs.declared.node.Node.{Node}
use Rattle.timefd_lang_node_list.specs.declared.node.Node.TheVariants as node
use Rattle.timefd_lang_node_list.specs.Nodes.{part}
use Rattle.timefd_lang_node_list.specs.Owners.{IsFlag, is_text, owns_text}

or_of_none : (a b : Bool) → IsFalse a → IsFalse b → IsFalse (a || b)
or_of_none false false h g = refl
or_of_none false true h g = absurd (true≢false g)
or_of_none true b h g = absurd (true≢false h)

or_is_none : (a b : Bool) → IsFalse (a || b) → IsFalse a × IsFalse b
or_is_none false false h = (refl, refl)
or_is_none false true h = absurd (true≢false h)
or_is_none true b h = absurd (true≢false h)

-- one node after the others
only_where : (own owns : Bool) → (IsTrue own → IsTrue owns) → IsFalse owns → IsFalse own
only_where false owns h f = refl
only_where true owns h f = sym (h refl) ∙ f

pub flag_more : (owns : Bool) (ns : List Node) (n : Node) → IsFlag owns ns
    → (IsTrue (owns_text n) → IsTrue owns) → IsFlag owns (ns ++ n ∷ [])
flag_more owns ns n flag new f =
    list_any-append owns_text ns (n ∷ []) ∙
    or_of_none (list_any owns_text ns) (list_any owns_text (n ∷ [])) (flag f)
    (or_of_none (owns_text n) false (only_where (owns_text n) owns new f) refl)

-- the last of nodes that own nothing, and those before it
pub borrowed_front : (ns ms : List Node) → IsFalse (list_any owns_text (ns ++ ms))
    → IsFalse (list_any owns_text ns)
borrowed_front ns ms h =
    (or_is_none (list_any owns_text ns) (list_any owns_text ms)
    (sym (list_any-append owns_text ns ms) ∙ h)).0

pub borrowed_last : (ns : List Node) (n : Node) → IsFalse (list_any owns_text (ns ++ n ∷ []))
    → IsFalse (owns_text n)
borrowed_last ns n h =
    (or_is_none (owns_text n) false
    (or_is_none (list_any owns_text ns) (list_any owns_text (n ∷ []))
    (sym (list_any-append owns_text ns (n ∷ [])) ∙ h)).1).0

-- copies that own what these own
abbrev pub any_owner : List Bool → Bool
any_owner [] = false
any_owner (b ∷ bs) = b || any_owner bs

any_of_map : (ns : List Node) → list_any owns_text ns ≡ any_owner (map owns_text ns)
any_of_map [] = refl
any_of_map (n ∷ ns) = ap (λ b. owns_text n || b) (any_of_map ns)

pub flag_copied : (owns : Bool) (ns ms : List Node) → map owns_text ms ≡ map owns_text ns
    → IsFlag owns ns → IsFlag owns ms
flag_copied owns ns ms same flag f = any_of_map ms ∙ ap any_owner same ∙ sym (any_of_map ns) ∙ flag f

-- true for all texts but the borrowed ones
pub owner_unless_borrowed : (n : Node) → ((borrowed : _) → n ≡ node.Literal borrowed → ⊥)
    → is_text (part n).role ≡ owns_text n
owner_unless_borrowed (node.Literal borrowed) h = absurd (h borrowed refl)
owner_unless_borrowed (node.OwnedLiteral owned) h = refl
owner_unless_borrowed (node.Component c kept) h = refl
owner_unless_borrowed (node.Compound m) h = refl
owner_unless_borrowed (node.Optional format inner kept) h = refl
owner_unless_borrowed (node.First m) h = refl
