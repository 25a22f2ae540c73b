-- There is no reason against a tree that some text spells.
use Rattle.std.proofs.Common.{ℕ, suc, ◌≡◌, ◌+◌, ◌-◌, ◌<◌, ◌==◌, cond, not, Bool, true, false, List, [], ◌∷◌, ◌++◌, map, length, Option, Some, None, Result, Ok, codes, refl, sym, ap, subst, ◌∙◌, arith}
use Rattle.std.proofs.lemmas.Bool.{false≢true}
use Rattle.std.proofs.lemmas.Bool.Decides.{nat_tests}
use Rattle.timefd_lang_component.specs.declared.component.Component.{Component}
use Rattle.timefd_lang_component.specs.Equality.{same_component}
use Rattle.timefd_lang_component.specs.ComponentEquality.{component_same}
use Rattle.timefd_lang_component.specs.Modern.{modern}
use Rattle.timefd_lang_component.specs.Tree.{Text, Tree, component, literal, compound, optional, first, Trees, no_trees, more_trees, trees, pack}
use Rattle.timefd_lang_fault.specs.Faults.{fault}
use Rattle.timefd_language.specs.declared.description_version.DescriptionVersion.TheVariants.{Three}
use Rattle.timefd_language.specs.Bytes.{same, is_run_byte, OneOrMore}
use Rattle.timefd_lang_fault.specs.Words.{expected_nested, expected_alternative}
use Rattle.timefd_language.specs.Head.{Head, head_text, placed}
use Rattle.timefd_language.specs.Names.{row_of}
use Rattle.timefd_language.specs.Values.{format}
use Rattle.timefd_language.specs.Verdict.{PlacedDescription, is_formatted, only, bad_modifiers, any_modifier, optional_verdict, first_verdict, component_verdict, verdict}
use Rattle.timefd_language.specs.Grammar.{Pieces, Nested, no_pieces, run, escape, closing, bracket, no_nested, nested, spelling, nested_text, items, ArePieces, AreNested, BeginsNoRun, bracket_verdict, parts_from, is_empty}
use Rattle.timefd_language.proofs.Lift.{unless_fault}
use Rattle.timefd_language.proofs.Roomy.{verdict_has}
use Rattle.timefd_lift.proofs.Leaves.{IsLeaf, component_leaf, third}
use Rattle.timefd_lang_convert.specs.declared.printing.error.Unspelled.{Unspelled}
use Rattle.timefd_lang_convert.specs.declared.printing.error.Unspelled.TheVariants.{TooDeep, DeprecatedComponent}
use Rattle.timefd_lang_convert.specs.Printing.Laws.{SpellsTree, Spelled}
use Rattle.timefd_lang_convert.specs.Printing.Printed.{listed, unpacked}
use Rattle.timefd_lang_convert.specs.Printing.Reasons.{◌or◌, is_run, literal_reason, component_reason, deeper, reason, members_reason, member_reason, nested_reason, HasCounts, HaveCounts}
use Rattle.timefd_lang_convert.proofs.PrintingLemmas.LiteralLemmas.{escape_none, run_none, run_no_escape}
use Rattle.timefd_lang_convert.proofs.PrintingLemmas.PrintedLemmas.{or_none}

-- Reasons.

or_both : (a b : Option Unspelled) → a ≡ None → b ≡ None → a or b ≡ None
or_both a b no_a no_b = ap (λ x. x or b) no_a ∙ no_b

some_more : (left : ℕ) → 0 < left → (left == 0) ≡ false
some_more left e = grind (arith, nat_tests)

deeper_room : (left : ℕ) (o : Option Unspelled) → 0 < left → o ≡ None → deeper left o ≡ None
deeper_room left o some e = ap (λ t. cond t (Some TooDeep) o) (some_more left some) ∙ e

alone_reason : (left : ℕ) (t : Tree) → member_reason left false t ≡ None → reason left t ≡ None
alone_reason left (component c) e = e
alone_reason left (literal bytes) e = e
alone_reason left (compound ts) e = absurd cc
alone_reason left (optional f t) e = e
alone_reason left (first ts) e = e

pack_reason : (left : ℕ) (ts : List Tree) → members_reason left false (trees ts) ≡ None
    → reason left (pack ts) ≡ None
pack_reason left [] e = refl
pack_reason left (t ∷ []) e = alone_reason left t (or_none (member_reason left false t) None e).0
pack_reason left (t ∷ u ∷ ts) e = e

pack_counts : (ts : List Tree) → HaveCounts (trees ts) → HasCounts (pack ts)
pack_counts [] h = tt
pack_counts (t ∷ []) h = h.0
pack_counts (t ∷ u ∷ ts) h = h

-- Brackets.

-- the tree isn't a literal, and there is no reason against it as a member
abbrev IsGood : ℕ → Tree → Type 0
IsGood left tree = ((after_run : Bool) → member_reason left after_run tree ≡ None)
    × (is_run tree ≡ false) × HasCounts tree

current_none : (c : Component) → modern c ≡ c → component_reason c ≡ None
current_none c e =
    ap (λ t. cond t None (Some DeprecatedComponent))
    (subst (λ d. same_component d c ≡ true) (sym e) (component_same c))

leaf_good : (left : ℕ) (tree : Tree) → IsLeaf tree → IsGood left tree
leaf_good left tree l =
    subst (IsGood left) l.is ((λ after_run. current_none l.leaf l.modern), refl, l.counted)

known_good : (left : ℕ) (h : Head) (tree : Tree)
    → component_verdict true h (row_of true h.name) ≡ Ok tree → IsGood left tree
known_good left h tree e = leaf_good left tree (component_leaf true h tree (row_of true h.name) refl e)

-- without nested descriptions
bare_good : (left : ℕ) (h : Head) (close : ℕ) (tree : Tree) → verdict true h [] close ≡ Ok tree
    → IsGood left tree
bare_good left h close tree e =
    known_good left h tree
    (third tree (same true (codes "optional") h.name) (same true (codes "first") h.name)
    (optional_verdict true h [] close) (first_verdict true h [] close)
    (component_verdict true h (row_of true h.name))
    (λ o. unless_fault (bad_modifiers true (format ∷ []) [] (placed h))
    (fault expected_nested close) _ tree o)
    (λ f. unless_fault (any_modifier (placed h)) (fault expected_alternative close) _ tree f)
    e)

-- nested descriptions, and the trees of each
abbrev AreGood : ℕ → List PlacedDescription → Type 0
AreGood left parts =
    (nested_reason left (trees (map (λ p. pack p.trees) parts)) ≡ None)
    × HaveCounts (trees (map (λ p. pack p.trees) parts))

nested_good : (left : ℕ) (h : Head) (p : PlacedDescription) (ps : List PlacedDescription)
    (close : ℕ) (tree : Tree) → AreGood left (p ∷ ps) → verdict true h (p ∷ ps) close ≡ Ok tree
    → IsGood left tree
nested_good left h p ps close tree good e =
    let one = or_none (deeper left (reason (left - 1) (pack p.trees)))
    (nested_reason left (trees (map (λ q. pack q.trees) ps))) good.0 in
    verdict_has (IsGood left) true h (p ∷ ps) close tree
    ((λ after_run. one.0), refl, good.1.0)
    ((λ after_run. good.0), refl, good.1)
    (known_good left h tree) e

-- one more alternative before others
one_good : (left : ℕ) (ts : List Tree) (us : Trees) → 0 < left
    → (members_reason (left - 1) false (trees ts) ≡ None) × HaveCounts (trees ts)
    → (nested_reason left us ≡ None) × HaveCounts us
    → (nested_reason left (more_trees (pack ts) us) ≡ None) × HaveCounts (more_trees (pack ts) us)
one_good left ts us some one more = (
  or_both (deeper left (reason (left - 1) (pack ts))) (nested_reason left us)
      (deeper_room left (reason (left - 1) (pack ts)) some (pack_reason (left - 1) ts one.0)) more.0,
  (pack_counts ts one.1, more.1),
)

-- Pieces.

mutual
  pieces_good : (ps : Pieces) (limit n left : ℕ) (after_run : Bool) → n + left ≡ limit
      → ArePieces Three limit n ps → (after_run ≡ true → BeginsNoRun ps)
      → (members_reason left after_run (trees (items ps)) ≡ None) × HaveCounts (trees (items ps))
  pieces_good no_pieces limit n left after_run room are begins = (refl, tt)
  pieces_good (run bytes rest) limit n left true room are begins = absurd (begins refl)
  pieces_good (run bytes rest) limit n left false room are begins =
      let more = pieces_good rest limit n left (is_run (literal bytes)) room are.2
      (λ e. are.1) in (
        or_both (literal_reason false bytes) _ (run_none bytes are.0) more.0,
        (tt, more.1),
      )
  pieces_good (escape a b rest) limit n left after_run room are begins =
      let more = pieces_good rest limit n left (is_run (literal (b ∷ []))) room are.1
      (λ e. absurd (false≢true (sym (ap not are.0.1) ∙ e))) in (
        or_both (literal_reason after_run (b ∷ [])) _ (escape_none after_run b are.0.1) more.0,
        (tt, more.1),
      )
  pieces_good (closing rest) limit n left after_run room are begins =
      absurd (false≢true (sym are.0))
  pieces_good (bracket h ns white tree rest) limit n left after_run room are begins =
      let good = bracket_good ns h white tree limit n left room are.1 are.3 in
      let more = pieces_good rest limit n left false room are.4
      (λ e. absurd (false≢true e)) in (
        or_both (member_reason left after_run tree) _ (good.0 after_run)
            (subst (λ r. members_reason left r (trees (items rest)) ≡ None) (sym good.1) more.0),
        (good.2, more.1),
      )

  bracket_good : (ns : Nested) (h : Head) (white : Text) (tree : Tree) (limit n left : ℕ)
      → n + left ≡ limit → AreNested Three limit n ns
      → bracket_verdict Three h ns white ≡ Ok tree → IsGood left tree
  bracket_good no_nested h white tree limit n left room are e = bare_good left h _ tree e
  bracket_good (nested w ps ns) h white tree limit n left room are e =
      nested_good left h
      (record { spaced = not (is_empty w); index = length (head_text h) + length w; trees = items ps })
      (parts_from (length (head_text h) + length w + 1 + length (spelling ps) + 1) ns)
      (length (head_text h ++ nested_text (nested w ps ns) ++ white)) tree
      (one_good left (items ps) _ (omega (arith, are.1, room))
      (pieces_good ps limit (suc n) (left - 1) false (omega (arith, are.1, room)) are.2
      (λ e. absurd (false≢true e)))
      (all_good ns (length (head_text h) + length w + 1 + length (spelling ps) + 1) limit n left
      room are.3)) e

  all_good : (ns : Nested) (k limit n left : ℕ) → n + left ≡ limit → AreNested Three limit n ns
      → AreGood left (parts_from k ns)
  all_good no_nested k limit n left room are = (refl, tt)
  all_good (nested w ps ns) k limit n left room are =
      one_good left (items ps) _ (omega (arith, are.1, room))
      (pieces_good ps limit (suc n) (left - 1) false (omega (arith, are.1, room)) are.2
      (λ e. absurd (false≢true e)))
      (all_good ns (k + length w + 1 + length (spelling ps) + 1) limit n left room are.3)

pub list_good : (limit : ℕ) (ps : Pieces) → ArePieces Three limit 0 ps
    → (members_reason limit false (trees (items ps)) ≡ None) × HaveCounts (trees (items ps))
list_good limit ps are =
    pieces_good ps limit 0 limit false (omega arith) are (λ e. absurd (false≢true e))

pub spelled_law : Spelled
spelled_law limit text tree s =
    let good = list_good limit s.1.0 s.1.1 in
    subst (λ t. (reason limit t ≡ None) × HasCounts t) (ap pack (sym s.1.3) ∙ s.2)
    (pack_reason limit (items s.1.0) good.0, pack_counts (items s.1.0) good.1)

-- Lists.

listed-trees : (ts : List Tree) → listed (trees ts) ≡ ts
listed-trees [] = refl
listed-trees (t ∷ ts) = ap (λ x. t ∷ x) (listed-trees ts)

alone-unpacked : (left : ℕ) (t : Tree) → member_reason left false t ≡ None → unpacked t ≡ t ∷ []
alone-unpacked left (component c) e = refl
alone-unpacked left (literal bytes) e = refl
alone-unpacked left (compound ts) e = absurd cc
alone-unpacked left (optional f t) e = refl
alone-unpacked left (first ts) e = refl

unpacked-pack : (left : ℕ) (ts : List Tree) → members_reason left false (trees ts) ≡ None
    → unpacked (pack ts) ≡ ts
unpacked-pack left [] e = refl
unpacked-pack left (t ∷ []) e =
    alone-unpacked left t (or_none (member_reason left false t) None e).0
unpacked-pack left (t ∷ u ∷ ts) e = ap (λ x. t ∷ u ∷ x) (listed-trees ts)

-- the list of a text is that of its tree
pub spelled-unpacked : (limit : ℕ) (text : Text) (list : List Tree)
    → (s : (ps : Pieces) × ArePieces Three limit 0 ps × (text ≡ spelling ps) × (list ≡ items ps))
    → unpacked (pack list) ≡ list
spelled-unpacked limit text list s =
    subst (λ x. unpacked (pack x) ≡ x) (sym s.3)
    (unpacked-pack limit (items s.0) (list_good limit s.0 s.1).0)
