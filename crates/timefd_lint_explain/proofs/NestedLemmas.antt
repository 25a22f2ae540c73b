-- The descriptions in a bracket, one after another.
use Rattle.std.proofs.Common.{ℕ, ◌≡◌, ◌∙◌, ◌+◌, ◌<◌, true, List, [], ◌∷◌, ◌++◌, length, refl, sym, ap, subst, arith, append_assoc, append-nil, length-append}
use Rattle.timefd_lang_component.specs.Tree.{Text, Tree, component, literal, compound, optional, first, trees, pack}
use Rattle.timefd_language.specs.declared.description_version.DescriptionVersion.TheVariants.{Three}
use Rattle.timefd_language.specs.Bytes.{left, right, is_white, ZeroOrMore}
use Rattle.timefd_language.specs.Grammar.{Nested, no_nested, nested, AreNested, Spells, nested_text, items, spelling, nesting_limit}
use Rattle.timefd_language.specs.Head.{Head, IsHead, head_text}
use Rattle.timefd_parse.proofs.BracketLemmas.{outer_pieces, same_cut}
use Rattle.timefd_parse.specs.BracketParts.{BeginsNested}
use Rattle.timefd_lint_explain.specs.declared.node.ShownNode.{ShownNode}
use Rattle.timefd_lint_explain.specs.Inside.{EndsHead, Nests, held_parts}
use Rattle.timefd_lint_explain.specs.Parts.{Part, description, described, all_parts, alternatives, Adds, capped}
use Rattle.timefd_lint_explain.proofs.HeadLemmas.{ends_head, regrouped}
use Rattle.timefd_lint_explain.proofs.InsideLemmas.{Holds, held_trees, nesting_bracket, spelled_flat}
use Rattle.timefd_lint_explain.proofs.PartLemmas.{adds_none, adds_both, described_list}

-- The descriptions that are left, and the nodes of those before them.
pub record Nesting (d : ℕ) (t : Tree) (rest : Text) (old new : List ShownNode) : Type 0 where
  pub others : Nested
  pub white : Text
  pub are : AreNested Three nesting_limit 0 others
  pub all_white : ZeroOrMore is_white white
  pub rest_is : rest ≡ nested_text others ++ (white ++ right ∷ [])
  pub done : List Part
  pub parts_are : held_parts d t ≡ done ++ alternatives d (trees (held_trees others))
  pub adds : Adds done old new

held_are : (d : ℕ) (t : Tree) (ns : Nested) → Nests t → Holds true (held_trees ns) t
    → held_parts d t ≡ alternatives d (trees (held_trees ns))
held_are d (component c) ns n h = absurd n
held_are d (literal bytes) ns n h = absurd n
held_are d (compound ts) ns n h = absurd n
held_are d (optional f t) ns n h =
    sym (append-nil (described d t)) ∙ sym (ap (λ ts. alternatives d (trees ts)) h.1)
held_are d (first ts) ns n h = sym (ap (alternatives d) h.1)

pub nesting_first : (d : ℕ) (text : Text) (t : Tree) (rest : Text) (ns : List ShownNode)
    → ((h : Head) (after : Text) → IsHead h → EndsHead after → text ≡ head_text h ++ after
    → rest ≡ after)
    → Spells Three nesting_limit 0 text (t ∷ []) → Nests t → Nesting d t rest ns ns
nesting_first d text t rest ns finds s n =
    let b = (nesting_bracket Three nesting_limit text t s n).1 in record {
      others = b.inside;
      white = b.white;
      are = b.are;
      all_white = b.all_white;
      rest_is = finds b.head (nested_text b.inside ++ (b.white ++ right ∷ [])) b.is_head
          (ends_head b.inside b.white b.are b.all_white) b.whole;
      done = [];
      parts_are = held_are d t b.inside n b.holds;
      adds = adds_none ns;
    }

first_byte : (a b : ℕ) (x y : Text) → a ∷ x ≡ b ∷ y → a ≡ b
first_byte a b x y e = cc

-- The end of a bracket doesn't begin with a description.
pub no_description : (rest white inner after : Text) → ZeroOrMore is_white white
    → rest ≡ white ++ right ∷ [] → BeginsNested Three rest inner after → ⊥
no_description rest white inner after all e begins =
    let same = same_cut is_white rest white (right ∷ []) begins.white
    (left ∷ (inner ++ right ∷ after)) (record { whole = e; passes = all; stops = refl })
    begins.whole begins.all_white refl in
    omega (arith, first_byte right left [] (inner ++ right ∷ after) same.rest)

pub nesting_more : (d : ℕ) (t : Tree) (rest inner after : Text) (old a b : List ShownNode)
    → BeginsNested Three rest inner after
    → ((white w x : Text) (list : List Tree) → ZeroOrMore is_white white
    → Spells Three nesting_limit 1 w list → rest ≡ white ++ left ∷ (w ++ right ∷ x)
    → (inner ≡ w) × (after ≡ x))
    → ((list : List Tree) → Spells Three nesting_limit 0 inner list
    → Adds (described d (pack list)) a b)
    → Nesting d t rest old a → Nesting d t after old b
nesting_more d t rest inner after old a b begins finds adds before =
    by before.others before.are before.rest_is before.parts_are
  where
    by : (ns : Nested) → AreNested Three nesting_limit 0 ns
        → rest ≡ nested_text ns ++ (before.white ++ right ∷ [])
        → held_parts d t ≡ before.done ++ alternatives d (trees (held_trees ns))
        → Nesting d t after old b
    by no_nested are e p =
        absurd (no_description rest before.white inner after before.all_white e begins)
    by (nested w ps ns) are e p =
        let same = finds w (spelling ps) (nested_text ns ++ (before.white ++ right ∷ []))
        (items ps) are.0 (ps, are.2, refl, refl)
        (e ∙ regrouped w (spelling ps) (nested_text ns) (before.white ++ right ∷ [])) in
        record {
          others = ns;
          white = before.white;
          are = are.3;
          all_white = before.all_white;
          rest_is = same.1;
          done = before.done ++ described d (pack (items ps));
          parts_are = p ∙ sym (append_assoc before.done (described d (pack (items ps)))
              (alternatives d (trees (held_trees ns))));
          adds = adds_both before.done (described d (pack (items ps))) old a b before.adds
              (adds (items ps)
              (ps, outer_pieces ps Three nesting_limit 0 are.2, same.0, refl));
        }

pub nesting_end : (d : ℕ) (t : Tree) (rest : Text) (old new : List ShownNode)
    → ((white w x : Text) (list : List Tree) → ZeroOrMore is_white white
    → Spells Three nesting_limit 1 w list → rest ≡ white ++ left ∷ (w ++ right ∷ x) → ⊥)
    → Nesting d t rest old new → Adds (held_parts d t) old new
nesting_end d t rest old new none before =
    by before.others before.are before.rest_is before.parts_are
  where
    by : (ns : Nested) → AreNested Three nesting_limit 0 ns
        → rest ≡ nested_text ns ++ (before.white ++ right ∷ [])
        → held_parts d t ≡ before.done ++ alternatives d (trees (held_trees ns))
        → Adds (held_parts d t) old new
    by no_nested are e p =
        subst (λ ps. Adds ps old new) (sym (p ∙ append-nil before.done)) before.adds
    by (nested w ps ns) are e p =
        absurd (none w (spelling ps) (nested_text ns ++ (before.white ++ right ∷ [])) (items ps)
        are.0 (ps, are.2, refl, refl)
        (e ∙ regrouped w (spelling ps) (nested_text ns) (before.white ++ right ∷ [])))

-- The nodes of a description are its own node and those of its pieces.
pub described_adds : (d depth inside : ℕ) (text : Text) (list : List Tree) (a b c : List ShownNode)
    → depth ≡ capped d → inside ≡ capped (depth + 1) → Spells Three nesting_limit 0 text list
    → Adds (description d (pack list) ∷ []) a b
    → ((k : ℕ) → inside ≡ capped k → Adds (all_parts k (trees list)) b c)
    → Adds (described d (pack list)) a c
described_adds d depth inside text list a b c is deeper s one more =
    subst (λ ps. Adds ps a c)
    (sym (described_list d list (spelled_flat Three nesting_limit text list s)))
    (adds_both (description d (pack list) ∷ []) (all_parts (d + 1) (trees list)) a b c one
    (more (d + 1) (omega (arith, is, deeper))))

-- A nested description is shorter than what holds it.
pub nested_within : (rest inner after : Text) → BeginsNested Three rest inner after
    → length inner < length rest
nested_within rest inner after begins =
    omega (
      arith,
      ap length begins.whole,
      length-append begins.white (left ∷ (inner ++ right ∷ after)),
      length-append inner (right ∷ after),
    )
