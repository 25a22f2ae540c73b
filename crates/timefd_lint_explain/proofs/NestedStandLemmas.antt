-- Where the descriptions in a bracket are, one after another.
use Rattle.std.proofs.Common.{ℕ, ◌≡◌, ◌∙◌, ◌+◌, ◌-◌, ◌<◌, ◌≤◌, true, List, [], ◌∷◌, ◌++◌, length, map, refl, sym, ap, subst, arith, append_assoc, append-nil, length-append}
use Rattle.std.proofs.lemmas.List.{map-append}
use Rattle.timefd_lang_component.specs.Tree.{Text, Tree, component, literal, compound, optional, first, Trees, trees, pack}
use Rattle.timefd_language.specs.declared.description_version.DescriptionVersion.TheVariants.{Three}
use Rattle.timefd_language.specs.Bytes.{left, right, is_white, ZeroOrMore}
use Rattle.timefd_language.specs.Grammar.{Nested, no_nested, nested, AreNested, Spells, nested_text, items, spelling, nesting_limit}
use Rattle.timefd_language.specs.Head.{Head, IsHead, head_text}
use Rattle.timefd_parse.proofs.BracketLemmas.{outer_pieces}
use Rattle.timefd_parse.specs.BracketParts.{BeginsNested}
use Rattle.timefd_lint_explain.specs.declared.node.ShownNode.{ShownNode}
use Rattle.timefd_lint_explain.specs.Inside.{EndsHead, Nests}
use Rattle.timefd_lint_explain.specs.Stands.{AddsAt, AlternativesStand, DescriptionStands, HeldStand, Span, span_of}
use Rattle.timefd_lint_explain.proofs.HeadLemmas.{ends_head, regrouped}
use Rattle.timefd_lint_explain.proofs.InsideLemmas.{Holds, held_trees, nesting_bracket}
use Rattle.timefd_lint_explain.proofs.NestedLemmas.{no_description}
use Rattle.timefd_lint_explain.proofs.StandLemmas.{joined}

-- The descriptions that are left, where they are, and the nodes of those before them.
pub record NestingAt (start : ℕ) (t : Tree) (text rest : Text) (old new : List ShownNode) : Type 0 where
  pub others : Nested
  pub white : Text
  pub are : AreNested Three nesting_limit 0 others
  pub all_white : ZeroOrMore is_white white
  pub rest_is : rest ≡ nested_text others ++ (white ++ right ∷ [])
  pub front : Text
  pub cut : text ≡ front ++ rest
  pub more : List ShownNode
  pub whole : new ≡ old ++ more
  pub goes_on : (spans : List Span)
      → AlternativesStand (trees (held_trees others)) (start + length front) rest spans
      → HeldStand t start text (map span_of more ++ spans)

held_stand : (start : ℕ) (t : Tree) (text : Text) (ns : Nested) (h : Head) (rest : Text) (spans : List Span)
    → Nests t → Holds true (held_trees ns) t → IsHead h → text ≡ head_text h ++ rest
    → AlternativesStand (trees (held_trees ns)) (start + length (head_text h)) rest spans
    → HeldStand t start text spans
held_stand start (component c) text ns h rest spans n holds is cut stand = absurd n
held_stand start (literal bytes) text ns h rest spans n holds is cut stand = absurd n
held_stand start (compound ts) text ns h rest spans n holds is cut stand = absurd n
held_stand start (optional f t) text ns h rest spans n holds is cut stand = record {
  head = h;
  inside = rest;
  is_head = is;
  cut = cut;
  stand = subst (λ ts. AlternativesStand (trees ts) (start + length (head_text h)) rest spans) holds.1 stand;
}
held_stand start (first ts) text ns h rest spans n holds is cut stand = record {
  head = h;
  inside = rest;
  is_head = is;
  cut = cut;
  stand = subst (λ ts. AlternativesStand ts (start + length (head_text h)) rest spans) holds.1 stand;
}

pub nesting_at_first : (start : ℕ) (text : Text) (t : Tree) (rest : Text) (ns : List ShownNode)
    → ((h : Head) (after : Text) → IsHead h → EndsHead after → text ≡ head_text h ++ after
    → rest ≡ after)
    → Spells Three nesting_limit 0 text (t ∷ []) → Nests t → NestingAt start t text rest ns ns
nesting_at_first start text t rest ns finds s n =
    let b = (nesting_bracket Three nesting_limit text t s n).1 in
    let is : rest ≡ nested_text b.inside ++ (b.white ++ right ∷ []) =
    finds b.head (nested_text b.inside ++ (b.white ++ right ∷ [])) b.is_head
    (ends_head b.inside b.white b.are b.all_white) b.whole in
    let cut : text ≡ head_text b.head ++ rest = b.whole ∙ ap (λ x. head_text b.head ++ x) (sym is) in
    record {
      others = b.inside;
      white = b.white;
      are = b.are;
      all_white = b.all_white;
      rest_is = is;
      front = head_text b.head;
      cut = cut;
      more = [];
      whole = sym (append-nil ns);
      goes_on = λ spans h. held_stand start t text b.inside b.head rest spans n b.holds b.is_head cut h;
    }

-- A nested description and its brackets end within the text.
pub nested_ends : (start : ℕ) (t : Tree) (text rest inner after : Text) (old a : List ShownNode)
    → BeginsNested Three rest inner after → NestingAt start t text rest old a
    → length after + length inner + 2 ≤ length text
nested_ends start t text rest inner after old a begins before = omega (
  arith,
  ap length before.cut,
  length-append before.front rest,
  ap length begins.whole,
  length-append begins.white (left ∷ (inner ++ right ∷ after)),
  length-append inner (right ∷ after),
)

pub nesting_at_more : (start : ℕ) (t : Tree) (text rest inner after : Text) (at : ℕ) (old a b : List ShownNode)
    → BeginsNested Three rest inner after
    → ((white w x : Text) (list : List Tree) → ZeroOrMore is_white white
    → Spells Three nesting_limit 1 w list → rest ≡ white ++ left ∷ (w ++ right ∷ x)
    → (inner ≡ w) × (after ≡ x))
    → at ≡ start + (length text - (length after + length inner + 2))
    → ((list : List Tree) → Spells Three nesting_limit 0 inner list
    → AddsAt (DescriptionStands (pack list) at inner) a b)
    → NestingAt start t text rest old a → NestingAt start t text after old b
nesting_at_more start t text rest inner after at old a b begins finds location adds before =
    by before.others before.are before.rest_is before.goes_on
  where
    by : (ns : Nested) → AreNested Three nesting_limit 0 ns
        → rest ≡ nested_text ns ++ (before.white ++ right ∷ [])
        → ((spans : List Span)
        → AlternativesStand (trees (held_trees ns)) (start + length before.front) rest spans
        → HeldStand t start text (map span_of before.more ++ spans))
        → NestingAt start t text after old b
    by no_nested are e goes_on =
        absurd (no_description rest before.white inner after before.all_white e begins)
    by (nested w ps ns) are e goes_on =
        let same = finds w (spelling ps) (nested_text ns ++ (before.white ++ right ∷ []))
        (items ps) are.0 (ps, are.2, refl, refl)
        (e ∙ regrouped w (spelling ps) (nested_text ns) (before.white ++ right ∷ [])) in
        let one = adds (items ps) (ps, outer_pieces ps Three nesting_limit 0 are.2, same.0, refl) in
        let cut : rest ≡ w ++ left ∷ (inner ++ right ∷ after) =
        e ∙ regrouped w (spelling ps) (nested_text ns) (before.white ++ right ∷ [])
        ∙ ap (λ x. w ++ left ∷ (x ++ right ∷ (nested_text ns ++ (before.white ++ right ∷ [])))) (sym same.0)
        ∙ ap (λ x. w ++ left ∷ (inner ++ right ∷ x)) (sym same.1) in
        let passed : Text = w ++ left ∷ (inner ++ right ∷ []) in
        let long : length passed ≡ length w + length inner + 2 =
        omega (arith, length-append w (left ∷ (inner ++ right ∷ [])), length-append inner (right ∷ [])) in
        let whole : length text ≡ length before.front + (length w + (length inner + (length after + 2))) =
        omega (
          arith,
          ap length before.cut,
          length-append before.front rest,
          ap length cut,
          length-append w (left ∷ (inner ++ right ∷ after)),
          length-append inner (right ∷ after),
        ) in
        record {
          others = ns;
          white = before.white;
          are = are.3;
          all_white = before.all_white;
          rest_is = same.1;
          front = before.front ++ passed;
          cut = before.cut ∙ ap (λ x. before.front ++ x) (cut ∙ sym (regrouped_end w inner after))
              ∙ sym (append_assoc before.front passed after);
          more = before.more ++ one.more;
          whole = one.whole ∙ ap (λ ns. ns ++ one.more) before.whole
              ∙ append_assoc old before.more one.more;
          goes_on = λ spans h.
              subst (HeldStand t start text) (joined before.more one.more spans)
              (goes_on (map span_of one.more ++ spans) (record {
                white = w;
                inner = inner;
                rest = after;
                here = map span_of one.more;
                after = spans;
                all_white = are.0;
                cut = cut;
                stands = subst (λ k. DescriptionStands (pack (items ps)) k inner (map span_of one.more))
                    (omega (arith, location, whole)) one.stand;
                others = subst (λ k. AlternativesStand (trees (held_trees ns)) k after spans)
                    (omega (arith, long, length-append before.front passed)) h;
                all = refl;
              }));
        }
      where
        regrouped_end : (x y z : Text) → (x ++ left ∷ (y ++ right ∷ [])) ++ z ≡ x ++ left ∷ (y ++ right ∷ z)
        regrouped_end x y z = simp append_assoc

pub nesting_at_end : (start : ℕ) (t : Tree) (text rest : Text) (old new : List ShownNode)
    → ((white w x : Text) (list : List Tree) → ZeroOrMore is_white white
    → Spells Three nesting_limit 1 w list → rest ≡ white ++ left ∷ (w ++ right ∷ x) → ⊥)
    → NestingAt start t text rest old new → AddsAt (HeldStand t start text) old new
nesting_at_end start t text rest old new none before =
    by before.others before.are before.rest_is before.goes_on
  where
    by : (ns : Nested) → AreNested Three nesting_limit 0 ns
        → rest ≡ nested_text ns ++ (before.white ++ right ∷ [])
        → ((spans : List Span)
        → AlternativesStand (trees (held_trees ns)) (start + length before.front) rest spans
        → HeldStand t start text (map span_of before.more ++ spans))
        → AddsAt (HeldStand t start text) old new
    by no_nested are e goes_on = record {
      more = before.more;
      whole = before.whole;
      stand = subst (HeldStand t start text) (append-nil (map span_of before.more))
          (goes_on [] (record { white = before.white; all_white = before.all_white; cut = e; none = refl }));
    }
    by (nested w ps ns) are e goes_on =
        absurd (none w (spelling ps) (nested_text ns ++ (before.white ++ right ∷ [])) (items ps)
        are.0 (ps, are.2, refl, refl)
        (e ∙ regrouped w (spelling ps) (nested_text ns) (before.white ++ right ∷ [])))
