-- What a text of version 3 reserves.
use Rattle.std.proofs.Common.{ℕ, suc, ◌≡◌, ◌+◌, ◌≤◌, Bool, true, false, List, [], ◌∷◌, ◌++◌, map, Ok, length, length-append, refl, ap, subst, arith}
use Rattle.timefd_language.specs.declared.description_version.DescriptionVersion.TheVariants.{Three}
use Rattle.timefd_lang_component.specs.Tree.{Text, Tree, component, optional, first, trees, pack}
use Rattle.timefd_language.specs.Bytes.{right, left, is_run_byte}
use Rattle.timefd_language.specs.Head.{Head, IsHead, head_text, placed}
use Rattle.timefd_language.specs.Names.{row_of}
use Rattle.timefd_language.specs.Verdict.{PlacedDescription, is_formatted, only, component_verdict, verdict}
use Rattle.timefd_language.specs.Grammar.{Pieces, no_pieces, run, escape, closing, bracket, Nested, no_nested, nested, spelling, nested_text, items, ArePieces, AreNested, parts_from}
use Rattle.timefd_lang_component.specs.Reserved.{reserved, reserve, reserve_all, reserve_first, tree_count, trees_count}
use Rattle.timefd_language.specs.Laws.{ReservesWithin}
use Rattle.timefd_language.proofs.Sizes.{length_one}
use Rattle.timefd_language.proofs.Roomy.{verdict_has, component-room}

-- the bytes that a list of trees reserves, and the lists of several nested descriptions
abbrev total : List Tree → ℕ
total [] = 0
total (t ∷ ts) = reserve t + total ts

abbrev counted : List Tree → ℕ
counted [] = 0
counted (t ∷ ts) = tree_count t + counted ts

abbrev total_parts : List PlacedDescription → ℕ
total_parts [] = 0
total_parts (p ∷ ps) = total p.trees + total_parts ps

-- each nested description has its two brackets
abbrev counted_parts : List PlacedDescription → ℕ
counted_parts [] = 0
counted_parts (p ∷ ps) = 2 + counted p.trees + counted_parts ps

trees-total : (ts : List Tree) → reserve_all (trees ts) ≡ total ts
trees-total [] = refl
trees-total (t ∷ ts) = ap (λ x. reserve t + x) (trees-total ts)

trees-counted : (ts : List Tree) → trees_count (trees ts) ≡ counted ts
trees-counted [] = refl
trees-counted (t ∷ ts) = ap (λ x. tree_count t + x) (trees-counted ts)

pack-total : (ts : List Tree) → reserve (pack ts) ≡ total ts
pack-total [] = refl
pack-total (t ∷ []) = omega arith
pack-total (t ∷ u ∷ ts) = trees-total (t ∷ u ∷ ts)

pack-counted : (ts : List Tree) → tree_count (pack ts) ≤ 1 + counted ts
pack-counted [] = omega arith
pack-counted (t ∷ []) = omega arith
pack-counted (t ∷ u ∷ ts) = omega (arith, trees-counted (t ∷ u ∷ ts))

packs-counted : (ps : List PlacedDescription)
    → trees_count (trees (map (λ p. pack p.trees) ps)) ≤ counted_parts ps
packs-counted [] = omega arith
packs-counted (p ∷ ps) = omega (arith, pack-counted p.trees, packs-counted ps)

first-total : (ps : List PlacedDescription)
    → reserve_first (trees (map (λ p. pack p.trees) ps)) ≤ total_parts ps
first-total [] = omega arith
first-total (p ∷ ps) = omega (arith, pack-total p.trees)

-- A bracket.

-- the tree of a bracket with this head and these nested descriptions
record IsWithin (h : Head) (parts : List PlacedDescription) (tree : Tree) : Type 0 where
  bytes : reserve tree ≤ 1 + length (head_text h) + total_parts parts
  count : tree_count tree ≤ 2 + counted_parts parts

optional_within : (h : Head) (parts : List PlacedDescription) (format : Bool)
    → IsWithin h parts (optional format (only parts))
optional_within h [] true = record { bytes = omega arith; count = omega arith }
optional_within h [] false = record { bytes = omega arith; count = omega arith }
optional_within h (p ∷ ps) true = record {
  bytes = omega (arith, pack-total p.trees);
  count =
      omega (arith, pack-counted p.trees);
}
optional_within h (p ∷ ps) false = record {
  bytes = omega arith;
  count =
      omega (arith, pack-counted p.trees);
}

first_within : (h : Head) (parts : List PlacedDescription)
    → IsWithin h parts (first (trees (map (λ p. pack p.trees) parts)))
first_within h parts = record {
  bytes = omega (arith, first-total parts);
  count =
      omega (arith, packs-counted parts);
}

component_within : (h : Head) (parts : List PlacedDescription) (tree : Tree) → IsHead h
    → component_verdict true h (row_of true h.name) ≡ Ok tree → IsWithin h parts tree
component_within h parts tree ih e = by (component-room h tree ih e)
  where
    by : (c : _) × (component c ≡ tree) × (reserved c ≤ 1 + length (head_text h))
        → IsWithin h parts tree
    by c = subst (IsWithin h parts) c.1
        (record {
          bytes = (let r : reserved c.0 ≤ 1 + length (head_text h) = c.2 in omega arith);
          count = omega arith;
        })

verdict_within : (h : Head) (parts : List PlacedDescription) (close : ℕ) (tree : Tree) → IsHead h
    → verdict true h parts close ≡ Ok tree → IsWithin h parts tree
verdict_within h parts close tree ih e =
    verdict_has (IsWithin h parts) true h parts close tree
    (optional_within h parts (is_formatted true (placed h))) (first_within h parts)
    (component_within h parts tree ih) e

-- All pieces.

record AreWithin (list : List Tree) (text : Text) : Type 0 where
  bytes : total list ≤ length text
  count : counted list ≤ length text

record PartsWithin (parts : List PlacedDescription) (text : Text) : Type 0 where
  bytes : total_parts parts ≤ length text
  count : counted_parts parts ≤ length text

bracket_within : (h : Head) (ns : Nested) (white : Text) (tree : Tree) (rest : Pieces) (k : ℕ)
    → IsWithin h (parts_from k ns) tree → PartsWithin (parts_from k ns) (nested_text ns)
    → AreWithin (items rest) (spelling rest)
    → AreWithin (items (bracket h ns white tree rest)) (spelling (bracket h ns white tree rest))
bracket_within h ns white tree rest k one parts more = record {
  bytes = omega (arith, whole, one.bytes, parts.bytes, more.bytes);
  count = omega (arith, whole, one.count, parts.count, more.count, head_two);
}
  where
    whole : length (head_text h ++ nested_text ns ++ white ++ right ∷ spelling rest) ≡ length
        (head_text h) + length (nested_text ns) + length white + 1 + length (spelling rest)
    whole = omega (
      arith,
      length-append (head_text h ++ nested_text ns ++ white)
          (right ∷ spelling rest),
      length-append (head_text h ++ nested_text ns) white,
      length-append (head_text h) (nested_text ns),
    )

    head_two : 1 ≤ length (head_text h)
    head_two = omega (arith, length-append h.white h.name)

mutual
  pieces_within : (ps : Pieces) (limit n : ℕ) → ArePieces Three limit n ps
      → AreWithin (items ps) (spelling ps)
  pieces_within no_pieces limit n are = record { bytes = omega arith; count = omega arith }
  pieces_within (run bytes rest) limit n are =
      let more = pieces_within rest limit n are.2 in
      record {
        bytes = omega (arith, length-append bytes (spelling rest), more.bytes);
        count = omega (
          arith,
          length_one (is_run_byte Three) bytes (spelling rest) are.0,
          more.count,
        );
      }
  pieces_within (escape a b rest) limit n are =
      let more = pieces_within rest limit n are.1 in
      record { bytes = omega (arith, more.bytes); count = omega (arith, more.count) }
  pieces_within (closing rest) limit n are =
      let more = pieces_within rest limit n are.2 in
      record { bytes = omega (arith, more.bytes); count = omega (arith, more.count) }
  pieces_within (bracket h ns white tree rest) limit n are =
      bracket_within h ns white tree rest (length (head_text h))
      (verdict_within h (parts_from (length (head_text h)) ns)
      (length (head_text h ++ nested_text ns ++ white)) tree are.0 are.3)
      (nested_within ns (length (head_text h)) limit n are.1) (pieces_within rest limit n are.4)

  nested_within : (ns : Nested) (k limit n : ℕ) → AreNested Three limit n ns
      → PartsWithin (parts_from k ns) (nested_text ns)
  nested_within no_nested k limit n are = record { bytes = omega arith; count = omega arith }
  nested_within (nested white ps ns) k limit n are =
      let inner = pieces_within ps limit (suc n) are.2 in
      let more = nested_within ns (k + length white + 1 + length (spelling ps) + 1) limit n are.3 in
      record {
        bytes = omega (
          arith,
          length-append (white ++ left ∷ spelling ps) (right ∷ nested_text ns),
          length-append white (left ∷ spelling ps),
          inner.bytes,
          more.bytes,
        );
        count = omega (
          arith,
          length-append (white ++ left ∷ spelling ps) (right ∷ nested_text ns),
          length-append white (left ∷ spelling ps),
          inner.count,
          more.count,
        );
      }

pub reserves_within_law : ReservesWithin
reserves_within_law limit n text list h =
    let within = pieces_within h.0 limit n h.1 in (
      omega (arith, within.bytes, pack-total list, ap length h.2, ap total h.3),
      omega (arith, within.count, pack-counted list, ap length h.2, ap counted h.3),
    )

-- the pieces side by side in a text of version 3 reserve no more bytes than the text has
pub reserved_within : (limit n : ℕ) (ps : Pieces) → ArePieces Three limit n ps
    → reserve_all (trees (items ps)) ≤ length (spelling ps)
reserved_within limit n ps are = omega (
  arith,
  (pieces_within ps limit n are).bytes,
  trees-total (items ps),
)
