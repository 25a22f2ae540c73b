-- Where the nodes are that are appended one after another.
use Rattle.std.proofs.Common.{ℕ, zero, suc, Bool, ◌≡◌, ◌∙◌, ◌+◌, ◌<◌, ◌≤◌, ◌^◌, List, [], ◌∷◌, ◌++◌, length, map, drop, get_or, Result, Ok, Err, OnOk, refl, sym, ap, subst, arith, append_assoc, append-nil, length-append}
use Rattle.std.proofs.lemmas.List.{drop_all, map-append}
use Rattle.std.specs.Prelude.{⊤}
use Rattle.timefd_lang_component.specs.Tree.{Text, Tree, component, literal, compound, optional, first, Trees, no_trees, more_trees, trees, pack}
use Rattle.timefd_lang_component.specs.declared.component.Component.{Component}
use Rattle.timefd_lang_node_list.specs.declared.item.borrowed_format_item.BorrowedFormatItem.{BorrowedFormatItem}
use Rattle.timefd_lang_node_list.specs.Item.Meaning.{item_tree, item_trees}
use Rattle.timefd_language.specs.declared.description_version.DescriptionVersion.TheVariants.{Three}
use Rattle.timefd_language.specs.Grammar.{Spells, nesting_limit}
use Rattle.timefd_language.specs.Strftime.{SpellsStrftime}
use Rattle.timefd_parse.specs.Language.{SpellsIn}
use Rattle.timefd_language.specs.declared.description_version.Language.{Language}
use Rattle.timefd_language.specs.declared.description_version.Language.TheVariants.{Version}
use Rattle.timefd_lint_explain.specs.declared.node.ShownNode.{ShownNode}
use Rattle.timefd_lint_explain.specs.declared.piece.Shown.{Shown}
use Rattle.timefd_lint_explain.specs.declared.piece.What.TheVariants as what
use Rattle.timefd_lint_explain.specs.Inside.{Nests}
use Rattle.timefd_lint_explain.specs.Shown.{AreShown, AreSpelled, IsShown, IsWhat, Shows, texts}
use Rattle.timefd_lint_explain.specs.Stands.{AddsAt, DescriptionStands, HeldStand, Leads, OnePiece, PieceStands, PiecesStand, Span, around, members_at, span, span_of, whole}
use Rattle.timefd_lint_explain.proofs.InsideLemmas.{NoCompounds, spelled_flat}
use Rattle.timefd_lint_explain.proofs.PieceLemmas.{letter, on_ok, three}
use Rattle.timefd_lint_explain.proofs.WalkLemmas.{from_location}

-- Nodes with these spans.

pub one_at : (n : ShownNode) (s : Span) (old new : List ShownNode) → new ≡ old ++ n ∷ [] → span_of n ≡ s
    → AddsAt (λ spans. spans ≡ s ∷ []) old new
one_at n s old new e is = record { more = n ∷ []; whole = e; stand = ap (λ x. x ∷ []) is }

pub at_is : (P Q : List Span → Type 0) (old new : List ShownNode) → ((spans : List Span) → P spans → Q spans)
    → AddsAt P old new → AddsAt Q old new
at_is P Q old new f adds = record {
  more = adds.more;
  whole = adds.whole;
  stand = f (map span_of adds.more) adds.stand;
}

-- The span of a node, and those of the nodes after it.
pub leads_at : (n : ShownNode) (s : Span) (Others : List Span → Type 0) (old one new : List ShownNode)
    → one ≡ old ++ n ∷ [] → span_of n ≡ s → AddsAt Others one new → AddsAt (Leads s Others) old new
leads_at n s Others old one new pushed is adds = record {
  more = n ∷ adds.more;
  whole = adds.whole ∙ ap (λ ns. ns ++ adds.more) pushed ∙ append_assoc old (n ∷ []) adds.more;
  stand = record {
    others = map span_of adds.more;
    all = ap (λ x. x ∷ map span_of adds.more) is;
    stand = adds.stand;
  };
}

-- A piece, and what it holds, for each kind of piece.

module _ {E : Type 0} (r : Result ⊤ E) (language : Language) (text : Text) (start : ℕ) (tree : Tree)
    (n : ShownNode) (old one new : List ShownNode) (s : SpellsIn language nesting_limit text (tree ∷ []))
    (pushed : one ≡ old ++ n ∷ []) (is : span_of n ≡ whole start text) where
  nested_at : (t : Tree)
      → ((spans : List Span) → Leads (whole start text) (HeldStand t start text) spans → PieceStands t start text spans)
      → Nests t → tree ≡ t
      → ((u : Tree) → Spells Three nesting_limit 0 text (u ∷ []) → Nests u
      → OnOk r (AddsAt (HeldStand u start text) one new))
      → OnOk r (AddsAt (PieceStands tree start text) old new)
  nested_at t so nests w held =
      on_ok r _ _ (λ adds. subst (λ x. AddsAt (PieceStands x start text) old new) (sym w)
      (at_is (Leads (whole start text) (HeldStand t start text)) (PieceStands t start text) old new so
      (leads_at n (whole start text) (HeldStand t start text) old one new pushed is adds)))
      (held t (three language text t (subst (λ x. SpellsIn language nesting_limit text (x ∷ [])) w s) nests)
      nests)

  pub optional_at : (f : Bool) → IsWhat (what.Optional f) tree
      → ((u : Tree) → Spells Three nesting_limit 0 text (u ∷ []) → Nests u
      → OnOk r (AddsAt (HeldStand u start text) one new))
      → OnOk r (AddsAt (PieceStands tree start text) old new)
  optional_at f w held = nested_at (optional f w.0) (λ spans h. h) tt w.1 held

  pub first_at : IsWhat what.First tree
      → ((u : Tree) → Spells Three nesting_limit 0 text (u ∷ []) → Nests u
      → OnOk r (AddsAt (HeldStand u start text) one new))
      → OnOk r (AddsAt (PieceStands tree start text) old new)
  first_at w held = nested_at (first w.0) (λ spans h. h) tt w.1 held

  several : (ts : Trees) (spans : List Span)
      → Leads (whole start text) (λ spans. spans ≡ members_at start ts) spans
      → PieceStands (compound ts) start text spans
  several ts spans h = h.all ∙ ap (λ x. whole start text ∷ x) h.stand

  pub several_at : IsWhat what.Several tree
      → ((ts : Trees) → SpellsStrftime text (compound ts ∷ [])
      → OnOk r (AddsAt (λ spans. spans ≡ members_at start ts) one new))
      → OnOk r (AddsAt (PieceStands tree start text) old new)
  several_at w held =
      on_ok r _ _ (λ adds. subst (λ x. AddsAt (PieceStands x start text) old new) (sym w.1)
      (at_is (Leads (whole start text) (λ spans. spans ≡ members_at start w.0))
      (PieceStands (compound w.0) start text) old new (several w.0)
      (leads_at n (whole start text) (λ spans. spans ≡ members_at start w.0) old one new pushed is adds)))
      (held w.0 (letter language text w.0
      (subst (λ x. SpellsIn language nesting_limit text (x ∷ [])) w.1 s)))

-- The node of a piece that holds nothing.
pub component_at : (start : ℕ) (text : Text) (c : Component) (tree : Tree) (n : ShownNode) (old new : List ShownNode)
    → new ≡ old ++ n ∷ [] → span_of n ≡ whole start text → IsWhat (what.Component c) tree
    → AddsAt (PieceStands tree start text) old new
component_at start text c tree n old new pushed is w =
    subst (λ x. AddsAt (PieceStands x start text) old new) (sym w)
    (one_at n (whole start text) old new pushed is)

pub literal_at : (start : ℕ) (text bytes : Text) (tree : Tree) (n : ShownNode) (old new : List ShownNode)
    → new ≡ old ++ n ∷ [] → span_of n ≡ whole start text → tree ≡ literal bytes
    → AddsAt (PieceStands tree start text) old new
literal_at start text bytes tree n old new pushed is w =
    subst (λ x. AddsAt (PieceStands x start text) old new) (sym w)
    (one_at n (whole start text) old new pushed is)

-- Pieces, one after another.

-- The nodes of the pieces so far, and where the pieces begin that are left.
pub record WalkedAt (language : Language) (list : List Tree) (begins : ℕ) (text : Text) (ss : List Shown)
    (start : ℕ) (old new : List ShownNode) : Type 0 where
  pub others : List Tree
  pub shown : AreShown ss others
  pub spelled : AreSpelled language ss others
  pub reached : start + length (texts ss) ≡ begins + length text
  pub more : List ShownNode
  pub whole : new ≡ old ++ more
  pub goes_on : (spans : List Span) → PiecesStand language (trees others) start (texts ss) spans
      → PiecesStand language (trees list) begins text (map span_of more ++ spans)

pub walked_at_first : (language : Language) (list : List Tree) (begins : ℕ) (text : Text) (ss : List Shown)
    (ns : List ShownNode) → Shows language text list ss → WalkedAt language list begins text ss begins ns ns
walked_at_first language list begins text ss ns shows = record {
  others = list;
  shown = shows.each;
  spelled = shows.spelled;
  reached = ap (λ t. begins + length t) shows.whole;
  more = [];
  whole = sym (append-nil ns);
  goes_on = λ spans h. subst (λ t. PiecesStand language (trees list) begins t spans) shows.whole h;
}

-- More nodes, joined to those before.
pub joined : (a b : List ShownNode) (spans : List Span)
    → map span_of a ++ (map span_of b ++ spans) ≡ map span_of (a ++ b) ++ spans
joined a b spans =
    sym (append_assoc (map span_of a) (map span_of b) spans)
    ∙ ap (λ x. x ++ spans) (sym (map-append span_of a b))

one_walked_at : (language : Language) (list : List Tree) (begins : ℕ) (text : Text) (s : Shown)
    (ss : List Shown) (start next : ℕ) (old a b : List ShownNode) → next ≡ start + length s.text.now
    → ((tree : Tree) → SpellsIn language nesting_limit s.text.now (tree ∷ []) → IsShown s tree
    → AddsAt (PieceStands tree start s.text.now) a b)
    → WalkedAt language list begins text (s ∷ ss) start old a
    → WalkedAt language list begins text ss next old b
one_walked_at language list begins text s ss start next old a b is adds before =
    by before.others before.shown before.spelled before.goes_on
  where
    by : (ts : List Tree) → AreShown (s ∷ ss) ts → AreSpelled language (s ∷ ss) ts
        → ((spans : List Span) → PiecesStand language (trees ts) start (s.text.now ++ texts ss) spans
        → PiecesStand language (trees list) begins text (map span_of before.more ++ spans))
        → WalkedAt language list begins text ss next old b
    by [] shown spelled goes_on = absurd shown
    by (t ∷ ts) shown spelled goes_on =
        let one = adds t spelled.0 shown.0 in record {
          others = ts;
          shown = shown.1;
          spelled = spelled.1;
          reached = omega (arith, is, before.reached, length-append s.text.now (texts ss));
          more = before.more ++ one.more;
          whole = one.whole ∙ ap (λ ns. ns ++ one.more) before.whole
              ∙ append_assoc old before.more one.more;
          goes_on = λ spans h.
              subst (PiecesStand language (trees list) begins text) (joined before.more one.more spans)
              (goes_on (map span_of one.more ++ spans) (record {
                front = s.text.now;
                rest = texts ss;
                here = map span_of one.more;
                after = spans;
                cut = refl;
                spells = spelled.0;
                stands = one.stand;
                others = subst (λ k. PiecesStand language (trees ts) k (texts ss) spans) is h;
                all = refl;
              }));
        }

pub walked_at_more : (language : Language) (list : List Tree) (begins : ℕ) (text : Text) (ss : List Shown)
    (at : ℕ) (s : Shown) (start next : ℕ) (old a b : List ShownNode) → at < length ss → s ≡ get_or ss at s
    → next ≡ start + length s.text.now
    → ((tree : Tree) → SpellsIn language nesting_limit s.text.now (tree ∷ []) → IsShown s tree
    → AddsAt (PieceStands tree start s.text.now) a b)
    → WalkedAt language list begins text (drop at ss) start old a
    → WalkedAt language list begins text (drop (at + 1) ss) next old b
walked_at_more language list begins text ss at s start next old a b below is e adds before =
    one_walked_at language list begins text s (drop (at + 1) ss) start next old a b e adds
    (subst (λ xs. WalkedAt language list begins text xs start old a) (from_location ss at s below is) before)

-- A piece ends within the text.
pub walked_at_within : (language : Language) (list : List Tree) (begins : ℕ) (text : Text) (ss : List Shown)
    (at : ℕ) (s : Shown) (start : ℕ) (old a : List ShownNode) → at < length ss → s ≡ get_or ss at s
    → WalkedAt language list begins text (drop at ss) start old a
    → start + length s.text.now ≤ begins + length text
walked_at_within language list begins text ss at s start old a below is before =
    let here : WalkedAt language list begins text (s ∷ drop (at + 1) ss) start old a =
    subst (λ xs. WalkedAt language list begins text xs start old a) (from_location ss at s below is) before in
    omega (arith, here.reached, length-append s.text.now (texts (drop (at + 1) ss)))

pub walked_at_end : (language : Language) (list : List Tree) (begins : ℕ) (text : Text) (ss : List Shown)
    (at start : ℕ) (old new : List ShownNode) → length ss ≤ at
    → WalkedAt language list begins text (drop at ss) start old new
    → AddsAt (PiecesStand language (trees list) begins text) old new
walked_at_end language list begins text ss at start old new past before =
    ended (subst (λ xs. WalkedAt language list begins text xs start old new) (drop_all at ss past) before)
  where
    ended : WalkedAt language list begins text [] start old new
        → AddsAt (PiecesStand language (trees list) begins text) old new
    ended w = record { more = w.more; whole = w.whole; stand = by w.others w.shown w.goes_on }
      where
        by : (ts : List Tree) → AreShown [] ts
            → ((spans : List Span) → PiecesStand language (trees ts) start [] spans
            → PiecesStand language (trees list) begins text (map span_of w.more ++ spans))
            → PiecesStand language (trees list) begins text (map span_of w.more)
        by [] shown goes_on =
            subst (PiecesStand language (trees list) begins text) (append-nil (map span_of w.more))
            (goes_on [] (refl, refl))
        by (t ∷ ts) shown goes_on = absurd shown

-- Nodes that are appended to an empty list are the whole list.
pub all_stand : (P : List Span → Type 0) (old new : List ShownNode) → AddsAt P old new → old ≡ []
    → P (map span_of new)
all_stand P old new adds none =
    subst (λ ns. P (map span_of ns)) (sym (adds.whole ∙ ap (λ ns. ns ++ adds.more) none)) adds.stand

-- Members.

-- The members so far, and those that are left.
pub record ListedAt (start : ℕ) (all : List Tree) (xs : List BorrowedFormatItem) (old new : List ShownNode)
    : Type 0 where
  pub done : List Tree
  pub all_are : all ≡ done ++ item_trees xs
  pub more : List ShownNode
  pub whole : new ≡ old ++ more
  pub stand : map span_of more ≡ members_at start (trees done)

members_at_more : (start : ℕ) (ts : List Tree) (t : Tree)
    → members_at start (trees (ts ++ t ∷ [])) ≡ members_at start (trees ts) ++ span start start ∷ []
members_at_more start [] t = refl
members_at_more start (u ∷ ts) t = ap (λ s. span start start ∷ s) (members_at_more start ts t)

pub listed_at_first : (start : ℕ) (xs : List BorrowedFormatItem) (ns : List ShownNode)
    → ListedAt start (item_trees xs) xs ns ns
listed_at_first start xs ns =
    record { done = []; all_are = refl; more = []; whole = sym (append-nil ns); stand = refl }

pub listed_at_more : (start : ℕ) (all : List Tree) (xs : List BorrowedFormatItem) (at : ℕ)
    (x : BorrowedFormatItem) (n : ShownNode) (old a b : List ShownNode) → at < length xs → x ≡ get_or xs at x
    → b ≡ a ++ n ∷ [] → span_of n ≡ span start start → ListedAt start all (drop at xs) old a
    → ListedAt start all (drop (at + 1) xs) old b
listed_at_more start all xs at x n old a b below is e stands before = record {
  done = before.done ++ item_tree x ∷ [];
  all_are = before.all_are ∙ ap (λ ys. before.done ++ item_trees ys) (from_location xs at x below is)
      ∙ sym (append_assoc before.done (item_tree x ∷ []) (item_trees (drop (at + 1) xs)));
  more = before.more ++ n ∷ [];
  whole = e ∙ ap (λ ns. ns ++ n ∷ []) before.whole ∙ append_assoc old before.more (n ∷ []);
  stand = map-append span_of before.more (n ∷ []) ∙ ap (λ s. s ++ span_of n ∷ []) before.stand
      ∙ ap (λ s. members_at start (trees before.done) ++ s ∷ []) stands
      ∙ sym (members_at_more start before.done (item_tree x));
}

pub listed_at_end : (start : ℕ) (all : List Tree) (xs : List BorrowedFormatItem) (at : ℕ)
    (old new : List ShownNode) → length xs ≤ at → ListedAt start all (drop at xs) old new
    → AddsAt (λ spans. spans ≡ members_at start (trees all)) old new
listed_at_end start all xs at old new past before = record {
  more = before.more;
  whole = before.whole;
  stand = before.stand ∙ ap (λ ts. members_at start (trees ts))
      (sym (before.all_are ∙ ap (λ ys. before.done ++ item_trees ys) (drop_all at xs past)
      ∙ append-nil before.done));
}

-- Descriptions.

-- The single piece of a text.
alone : (t : Tree) (at : ℕ) (text : Text) (spans : List Span)
    → PiecesStand (Version Three) (more_trees t no_trees) at text spans → PieceStands t at text spans
alone t at text spans h =
    subst (PieceStands t at text)
    (sym (h.all ∙ ap (λ x. h.here ++ x) h.others.1 ∙ append-nil h.here))
    (subst (λ x. PieceStands t at x h.here)
    (sym (h.cut ∙ ap (λ x. h.front ++ x) h.others.0 ∙ append-nil h.front)) h.stands)

pub described_stands : (list : List Tree) → NoCompounds list → (at : ℕ) (inner : Text) (spans : List Span)
    → Leads (around at inner) (PiecesStand (Version Three) (trees list) (at + 1) inner) spans
    → DescriptionStands (pack list) at inner spans
described_stands [] flat at inner spans h = h
described_stands (component c ∷ []) flat at inner spans h =
    h.all ∙ ap (λ x. around at inner ∷ x) (alone (component c) (at + 1) inner h.others h.stand)
described_stands (literal bytes ∷ []) flat at inner spans h =
    h.all ∙ ap (λ x. around at inner ∷ x) (alone (literal bytes) (at + 1) inner h.others h.stand)
described_stands (compound ts ∷ []) flat at inner spans h = absurd (flat.0 tt)
described_stands (optional f t ∷ []) flat at inner spans h = record {
  others = h.others;
  all = h.all;
  stand = alone (optional f t) (at + 1) inner h.others h.stand;
}
described_stands (first ts ∷ []) flat at inner spans h = record {
  others = h.others;
  all = h.all;
  stand = alone (first ts) (at + 1) inner h.others h.stand;
}
described_stands (t ∷ u ∷ ts) flat at inner spans h = h

-- After the node of a description come those of its pieces.
pub described_at : (list : List Tree) (begins at : ℕ) (inner : Text) (a b c : List ShownNode) → begins ≡ at + 1
    → Spells Three nesting_limit 0 inner list → AddsAt (λ spans. spans ≡ around at inner ∷ []) a b
    → AddsAt (PiecesStand (Version Three) (trees list) begins inner) b c
    → AddsAt (DescriptionStands (pack list) at inner) a c
described_at list begins at inner a b c is spells one two = record {
  more = one.more ++ two.more;
  whole = two.whole ∙ ap (λ ns. ns ++ two.more) one.whole ∙ append_assoc a one.more two.more;
  stand = described_stands list (spelled_flat Three nesting_limit inner list spells) at inner
      (map span_of (one.more ++ two.more)) (record {
        others = map span_of two.more;
        all = map-append span_of one.more two.more ∙ ap (λ x. x ++ map span_of two.more) one.stand;
        stand = subst (λ k. PiecesStand (Version Three) (trees list) k inner (map span_of two.more)) is two.stand;
      });
}

pub span_is : (a b c d : ℕ) → a ≡ c → b ≡ d → span a b ≡ span c d
span_is a b c d e f = ap (λ x. span x b) e ∙ ap (λ x. span c x) f

same_item : {A : Type 0} (xs : List A) (at : ℕ) (a b : A) → at < length xs → get_or xs at a ≡ get_or xs at b
same_item [] at a b below = absurd (omega (arith, below))
same_item (x ∷ xs) zero a b below = refl
same_item (x ∷ xs) (suc at) a b below = same_item xs at a b (omega (arith, below))

-- A piece that is looked up twice has the same length.
pub same_long : (ss : List Shown) (at : ℕ) (s t : Shown) → at < length ss → s ≡ get_or ss at s
    → length (get_or ss at t).text.now ≡ length s.text.now
same_long ss at s t below is =
    ap (λ (x : Shown). length x.text.now) (same_item ss at t s below ∙ sym is)
