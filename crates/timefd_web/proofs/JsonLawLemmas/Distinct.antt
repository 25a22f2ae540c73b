-- No object in a value has a key twice, if a test says so.
use Rattle.std.proofs.Common.{◌≡◌, ℕ, zero, suc, ◌<◌, Bool, true, not, ◌&&◌, List, [], ◌∷◌, length, get_or, sym, ap, ◌∙◌, arith}
use Rattle.std.proofs.lemmas.Bool.{true≢false, and_parts}
use Rattle.std.proofs.lemmas.Slice.Eq.{bytes_eq-Decides}
use Rattle.std.specs.Str.{bytes_eq}
use Rattle.json.specs.Json.{Json, null, boolean, number, string, array, object, Items, no_items, item, Members, no_members, member}
use Rattle.json.specs.Strict.{AreDistinct, HasUniqueKeys, ItemsHaveUniqueKeys, MembersHaveUniqueKeys, keys}
use Rattle.timefd_parse.specs.Tree.{Text}

abbrev pub lacks : Text → List Text → Bool
lacks key [] = true
lacks key (k ∷ ks) = not (bytes_eq key k) && lacks key ks

abbrev pub are_distinct : List Text → Bool
are_distinct [] = true
are_distinct (k ∷ ks) = lacks k ks && are_distinct ks

differ : (a b : Text) → not (bytes_eq a b) ≡ true → a ≡ b → ⊥
differ a b is same = true≢false (sym is ∙ ap not ((bytes_eq-Decides a b).1 same))

lacked : (key : Text) (ks : List Text) → lacks key ks ≡ true → (j : ℕ) (d : Text) → j < length ks → key ≡ get_or ks j d → ⊥
lacked key [] is j d below = absurd (omega arith)
lacked key (k ∷ ks) is zero d below = differ key k (and_parts _ _ is).0
lacked key (k ∷ ks) is (suc j) d below = lacked key ks (and_parts _ _ is).1 j d (omega arith)

pub distinct_keys : (ks : List Text) → are_distinct ks ≡ true → AreDistinct ks
distinct_keys [] are i j d before below = absurd (omega arith)
distinct_keys (k ∷ ks) are zero zero d before below = absurd (omega arith)
distinct_keys (k ∷ ks) are zero (suc j) d before below = lacked k ks (and_parts _ _ are).0 j d (omega arith)
distinct_keys (k ∷ ks) are (suc i) zero d before below = absurd (omega arith)
distinct_keys (k ∷ ks) are (suc i) (suc j) d before below =
    distinct_keys ks (and_parts _ _ are).1 i j d (omega arith) (omega arith)

abbrev mutual
  pub unique : Json → Bool
  unique null = true
  unique (boolean b) = true
  unique (number s) = true
  unique (string s) = true
  unique (array js) = items_unique js
  unique (object ms) = are_distinct (keys ms) && members_unique ms

  pub items_unique : Items → Bool
  items_unique no_items = true
  items_unique (item j js) = unique j && items_unique js

  pub members_unique : Members → Bool
  members_unique no_members = true
  members_unique (member k j ms) = unique j && members_unique ms

mutual
  pub unique_keys : (j : Json) → unique j ≡ true → HasUniqueKeys j
  unique_keys null is = tt
  unique_keys (boolean b) is = tt
  unique_keys (number s) is = tt
  unique_keys (string s) is = tt
  unique_keys (array js) is = unique_items js is
  unique_keys (object ms) is =
      (distinct_keys (keys ms) (and_parts _ _ is).0, unique_members ms (and_parts (are_distinct (keys ms)) _ is).1)

  unique_items : (js : Items) → items_unique js ≡ true → ItemsHaveUniqueKeys js
  unique_items no_items is = tt
  unique_items (item j js) is = (unique_keys j (and_parts _ _ is).0, unique_items js (and_parts (unique j) _ is).1)

  unique_members : (ms : Members) → members_unique ms ≡ true → MembersHaveUniqueKeys ms
  unique_members no_members is = tt
  unique_members (member k j ms) is = (unique_keys j (and_parts _ _ is).0, unique_members ms (and_parts (unique j) _ is).1)
