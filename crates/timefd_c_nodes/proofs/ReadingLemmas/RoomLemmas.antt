-- How many nodes, and how many bytes of literals, a text has.
use Rattle.std.proofs.Common.{ℕ, suc, ◌≡◌, ◌+◌, ◌*◌, ◌≤◌, Bool, true, List, [], ◌∷◌, ◌++◌, map, Ok, Option, Some, None, length, length-append, nat_le, refl, ap, subst, arith, ◌&&◌}
use Rattle.timefd_lang_component.specs.Tree.{Text, Tree, component, literal, compound, optional, first, Trees, no_trees, more_trees, trees, pack}
use Rattle.timefd_language.specs.Letters.{Flag, letters, item_of}
use Rattle.timefd_language.specs.Strftime.{Directives, no_directives, plain, directive, is_plain, flag_text, directives_text, directive_items, AreDirectives, SpellsStrftime}
use Rattle.timefd_language.proofs.Lookup.{Each, each-passes}
use Rattle.timefd_language.proofs.ModernPieces.{item_has}
use Rattle.timefd_language.proofs.Sizes.{length_one}
use Rattle.timefd_c_nodes.specs.Encoding.{literals_of, own_text}
use Rattle.timefd_lang_component.specs.Reserved.{tree_count, trees_count}
use Rattle.timefd_lang_node_list.specs.Views.{walked, walked_all}
use Rattle.timefd_language.specs.declared.description_version.DescriptionVersion.{DescriptionVersion}
use Rattle.timefd_language.specs.declared.description_version.DescriptionVersion.TheVariants.{One, Two, Three}
use Rattle.timefd_language.specs.Bytes.{right, left, is_run_byte, is_version_three}
use Rattle.timefd_language.specs.Head.{Head, head_text, placed}
use Rattle.timefd_language.specs.Names.{Row, row_of}
use Rattle.timefd_language.specs.Verdict.{PlacedDescription, bad_modifiers, settings, made, is_formatted, only, component_verdict, verdict}
use Rattle.timefd_language.specs.Grammar.{Pieces, no_pieces, run, escape, closing, bracket, Nested, no_nested, nested, spelling, nested_text, items, ArePieces, AreNested, parts_from}
use Rattle.timefd_language.proofs.Roomy.{after_ok, made_ok, verdict_has}
use Rattle.timefd_language.specs.declared.description_version.Language.TheVariants.{Version, Strftime}
use Rattle.timefd_parse.specs.Language.{SpellsIn}
use Rattle.timefd_c_nodes.proofs.WriteLemmas.{literals-length}

-- how many bytes the literals of a tree have
abbrev mutual
  pub bytes_in : Tree → ℕ
  bytes_in (component c) = 0
  bytes_in (literal bytes) = length bytes
  bytes_in (compound ts) = bytes_in_all ts
  bytes_in (optional format t) = bytes_in t
  bytes_in (first ts) = bytes_in_all ts

  pub bytes_in_all : Trees → ℕ
  bytes_in_all no_trees = 0
  bytes_in_all (more_trees t ts) = bytes_in t + bytes_in_all ts

mutual
  pub walked_bytes : (t : Tree) → length (literals_of (walked t)) ≡ bytes_in t
  walked_bytes (component c) = refl
  walked_bytes (literal bytes) = omega (arith, length-append bytes [])
  walked_bytes (compound ts) =
      omega (arith, literals-length (walked_all ts) (compound ts ∷ []), all_walked_bytes ts)
  walked_bytes (optional format t) =
      omega (arith, literals-length (walked t) (optional format t ∷ []), walked_bytes t)
  walked_bytes (first ts) =
      omega (arith, literals-length (walked_all ts) (first ts ∷ []), all_walked_bytes ts)

  pub all_walked_bytes : (ts : Trees) → length (literals_of (walked_all ts)) ≡ bytes_in_all ts
  all_walked_bytes no_trees = refl
  all_walked_bytes (more_trees t ts) = omega (
    arith,
    literals-length (walked t) (walked_all ts),
    walked_bytes t,
    all_walked_bytes ts,
  )

pub pack_bytes : (ts : List Tree) → bytes_in (pack ts) ≡ bytes_in_all (trees ts)
pack_bytes [] = refl
pack_bytes (t ∷ []) = omega arith
pack_bytes (t ∷ u ∷ ts) = refl

pub pack_count : (ts : List Tree) → tree_count (pack ts) ≤ 1 + trees_count (trees ts)
pack_count [] = omega arith
pack_count (t ∷ []) = omega arith
pack_count (t ∷ u ∷ ts) = omega arith

-- Brackets.

-- each nested description has its two brackets
abbrev counted : List PlacedDescription → ℕ
counted [] = 0
counted (p ∷ ps) = 2 + trees_count (trees p.trees) + counted ps

abbrev literal_bytes : List PlacedDescription → ℕ
literal_bytes [] = 0
literal_bytes (p ∷ ps) = bytes_in_all (trees p.trees) + literal_bytes ps

-- the tree of a bracket with these nested descriptions
record IsWithin (parts : List PlacedDescription) (tree : Tree) : Type 0 where
  nodes : tree_count tree ≤ 2 + counted parts
  literals : bytes_in tree ≤ literal_bytes parts

packs_count : (ps : List PlacedDescription)
    → trees_count (trees (map (λ p. pack p.trees) ps)) ≤ counted ps
packs_count [] = omega arith
packs_count (p ∷ ps) = omega (arith, pack_count p.trees, packs_count ps)

packs_bytes : (ps : List PlacedDescription)
    → bytes_in_all (trees (map (λ p. pack p.trees) ps)) ≤ literal_bytes ps
packs_bytes [] = omega arith
packs_bytes (p ∷ ps) = omega (arith, pack_bytes p.trees, packs_bytes ps)

first_within : (ps : List PlacedDescription)
    → IsWithin ps (first (trees (map (λ p. pack p.trees) ps)))
first_within ps = record {
  nodes = omega (arith, packs_count ps);
  literals = packs_bytes ps;
}

optional_within : (ps : List PlacedDescription) (format : Bool)
    → IsWithin ps (optional format (only ps))
optional_within [] format = record { nodes = omega arith; literals = omega arith }
optional_within (p ∷ ps) format = record {
  nodes = omega (arith, pack_count p.trees);
  literals = omega (arith, pack_bytes p.trees);
}

component_within : (strict : Bool) (h : Head) (ps : List PlacedDescription) (tree : Tree)
    (o : Option Row) → component_verdict strict h o ≡ Ok tree → IsWithin ps tree
component_within strict h ps tree None e = absurd cc
component_within strict h ps tree (Some r) e =
    let leaf = made_ok strict h (r.component (settings strict r.keys (placed h))) tree
    (after_ok (bad_modifiers strict r.keys [] (placed h))
    (made strict h (r.component (settings strict r.keys (placed h)))) tree e) in
    subst (IsWithin ps) leaf.1 (record { nodes = omega arith; literals = omega arith })

verdict_within : (strict : Bool) (h : Head) (ps : List PlacedDescription) (close : ℕ) (tree : Tree)
    → verdict strict h ps close ≡ Ok tree → IsWithin ps tree
verdict_within strict h ps close tree e =
    verdict_has (IsWithin ps) strict h ps close tree
    (optional_within ps (is_formatted strict (placed h))) (first_within ps)
    (component_within strict h ps tree (row_of strict h.name)) e

-- All pieces.

pub record AreWithin (list : List Tree) (text : Text) : Type 0 where
  pub nodes : trees_count (trees list) ≤ length text
  pub literals : bytes_in_all (trees list) ≤ length text

record PartsWithin (ps : List PlacedDescription) (text : Text) : Type 0 where
  nodes : counted ps ≤ length text
  literals : literal_bytes ps ≤ length text

bracket_within : (h : Head) (ns : Nested) (white : Text) (tree : Tree) (rest : Pieces) (k : ℕ)
    → IsWithin (parts_from k ns) tree → PartsWithin (parts_from k ns) (nested_text ns)
    → AreWithin (items rest) (spelling rest)
    → AreWithin (items (bracket h ns white tree rest)) (spelling (bracket h ns white tree rest))
bracket_within h ns white tree rest k one parts more = record {
  nodes = omega (arith, whole, one.nodes, parts.nodes, more.nodes, head_one);
  literals = omega (arith, whole, one.literals, parts.literals, more.literals);
}
  where
    whole : length (head_text h ++ nested_text ns ++ white ++ right ∷ spelling rest) ≡ length
        (head_text h) + length (nested_text ns) + length white + 1 + length (spelling rest)
    whole = omega (
      arith,
      length-append (head_text h ++ nested_text ns ++ white) (right ∷ spelling rest),
      length-append (head_text h ++ nested_text ns) white,
      length-append (head_text h) (nested_text ns),
    )

    head_one : 1 ≤ length (head_text h)
    head_one = omega (arith, length-append h.white h.name)

mutual
  pieces_within : (ps : Pieces) (v : DescriptionVersion) (limit n : ℕ) → ArePieces v limit n ps
      → AreWithin (items ps) (spelling ps)
  pieces_within no_pieces v limit n are =
      record { nodes = omega arith; literals = omega arith }
  pieces_within (run bytes rest) v limit n are =
      let more = pieces_within rest v limit n are.2 in
      record {
        nodes = omega (
          arith,
          length_one (is_run_byte v) bytes (spelling rest) are.0,
          more.nodes,
        );
        literals = omega (arith, length-append bytes (spelling rest), more.literals);
      }
  pieces_within (escape a b rest) v limit n are =
      let more = pieces_within rest v limit n are.1 in
      record { nodes = omega (arith, more.nodes); literals = omega (arith, more.literals) }
  pieces_within (closing rest) v limit n are =
      let more = pieces_within rest v limit n are.2 in
      record { nodes = omega (arith, more.nodes); literals = omega (arith, more.literals) }
  pieces_within (bracket h ns white tree rest) v limit n are =
      bracket_within h ns white tree rest (length (head_text h))
      (verdict_within (is_version_three v) h (parts_from (length (head_text h)) ns)
      (length (head_text h ++ nested_text ns ++ white)) tree are.3)
      (nested_within ns (length (head_text h)) v limit n are.1) (pieces_within rest v limit n are.4)

  nested_within : (ns : Nested) (k : ℕ) (v : DescriptionVersion) (limit n : ℕ)
      → AreNested v limit n ns → PartsWithin (parts_from k ns) (nested_text ns)
  nested_within no_nested k v limit n are =
      record { nodes = omega arith; literals = omega arith }
  nested_within (nested white ps ns) k v limit n are =
      let inner = pieces_within ps v limit (suc n) are.2 in
      let more =
      nested_within ns (k + length white + 1 + length (spelling ps) + 1) v limit n are.3 in
      let whole = length-append (white ++ left ∷ spelling ps) (right ∷ nested_text ns) in
      let front = length-append white (left ∷ spelling ps) in
      record {
        nodes = omega (arith, whole, front, inner.nodes, more.nodes);
        literals = omega (arith, whole, front, inner.literals, more.literals);
      }

pub spelled_within : (v : DescriptionVersion) (limit : ℕ) (bytes : Text) (list : List Tree)
    → SpellsIn (Version v) limit bytes list → AreWithin list bytes
spelled_within v limit bytes list h =
    let within = pieces_within h.0 v limit 0 h.1 in
    record {
      nodes = omega (arith, within.nodes, ap length h.2, ap (λ l. trees_count (trees l)) h.3);
      literals = omega (
        arith,
        within.literals,
        ap length h.2,
        ap (λ l. bytes_in_all (trees l)) h.3,
      );
    }

-- Strftime.

-- the item of a letter has at most fourteen nodes, and six bytes of literals
record IsSmall (t : Tree) : Type 0 where
  nodes : tree_count t ≤ 14
  literals : bytes_in t ≤ 6

small : (t : Tree) → (nat_le (tree_count t) 14 && nat_le (bytes_in t) 6) ≡ true → IsSmall t
small t e = record { nodes = grind (arith, e); literals = grind (arith, e) }

letters_small : (f : Flag) → Each (λ l. IsSmall (l.item f)) letters
letters_small f =
    each-passes (λ l. nat_le (tree_count (l.item f)) 14 && nat_le (bytes_in (l.item f)) 6)
    (λ l. IsSmall (l.item f)) (λ l e. small (l.item f) e) letters refl

pub record DirectivesWithin (list : List Tree) (text : Text) : Type 0 where
  pub nodes : trees_count (trees list) ≤ 7 * length text
  pub literals : bytes_in_all (trees list) ≤ 3 * length text

directives_within : (ds : Directives) → AreDirectives ds
    → DirectivesWithin (directive_items ds) (directives_text ds)
unfolding item_of
directives_within no_directives are = record { nodes = omega arith; literals = omega arith }
directives_within (plain bytes rest) are =
    let more = directives_within rest are.2 in
    record {
      nodes = omega (arith, length_one is_plain bytes (directives_text rest) are.0, more.nodes);
      literals = omega (arith, length-append bytes (directives_text rest), more.literals);
    }
directives_within (directive f b tree rest) are =
    let item = item_has IsSmall letters f b tree (letters_small f) are.2 in
    let more = directives_within rest are.3 in
    let whole = length-append (flag_text f) (b ∷ directives_text rest) in
    record {
      nodes = omega (arith, whole, item.nodes, more.nodes);
      literals = omega (arith, whole, item.literals, more.literals);
    }

pub strftime_within : (bytes : Text) (list : List Tree) → SpellsIn Strftime 0 bytes list
    → DirectivesWithin list bytes
strftime_within bytes list h =
    let within = directives_within h.0 h.1 in
    record {
      nodes = omega (arith, within.nodes, ap length h.2, ap (λ l. trees_count (trees l)) h.3);
      literals = omega (
        arith,
        within.literals,
        ap length h.2,
        ap (λ l. bytes_in_all (trees l)) h.3,
      );
    }

-- An item of a letter by itself adds at most two bytes to the literals.

letters_short : (f : Flag) → Each (λ l. length (own_text (l.item f)) ≤ 2) letters
letters_short f =
    each-passes (λ l. nat_le (length (own_text (l.item f))) 2)
    (λ l. length (own_text (l.item f)) ≤ 2) (λ l e. grind (arith, e)) letters refl

-- at most as many items as bytes, and at most as many bytes of literals, if members don't count
pub record ItemsWithin (list : List Tree) (text : Text) : Type 0 where
  pub nodes : length list ≤ length text
  pub literals : length (literals_of list) ≤ length text

items_of : (ds : Directives) → AreDirectives ds → ItemsWithin (directive_items ds) (directives_text ds)
unfolding item_of
items_of no_directives are = record { nodes = omega arith; literals = omega arith }
items_of (plain bytes rest) are =
    let more = items_of rest are.2 in
    record {
      nodes = omega (arith, length_one is_plain bytes (directives_text rest) are.0, more.nodes);
      literals = omega (
        arith,
        length-append bytes (directives_text rest),
        length-append bytes (literals_of (directive_items rest)),
        more.literals,
      );
    }
items_of (directive f b tree rest) are =
    let item = item_has (λ t. length (own_text t) ≤ 2) letters f b tree (letters_short f) are.2 in
    let more = items_of rest are.3 in
    let whole = length-append (flag_text f) (b ∷ directives_text rest) in
    record {
      nodes = omega (arith, whole, more.nodes);
      literals = omega (
        arith,
        whole,
        item,
        more.literals,
        length-append (own_text tree) (literals_of (directive_items rest)),
      );
    }

pub items_within : (bytes : Text) (list : List Tree) → SpellsStrftime bytes list
    → ItemsWithin list bytes
items_within bytes list h =
    let within = items_of h.0 h.1 in
    record {
      nodes = omega (arith, within.nodes, ap length h.2, ap length h.3);
      literals = omega (
        arith,
        within.literals,
        ap length h.2,
        ap (λ l. length (literals_of l)) h.3,
      );
    }
