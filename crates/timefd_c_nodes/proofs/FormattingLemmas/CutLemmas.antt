-- Nodes with one more after them, and the nodes in front of the last trees.
use Rattle.std.proofs.Common.{◌≡◌, ◌∙◌, ℕ, zero, suc, ◌+◌, ◌-◌, ◌≤◌, ◌==◌, nat_lt, if◌then◌else◌, Bool, true, false, List, [], ◌∷◌, ◌++◌, Option, Some, None, length, take, get_or, drop, ◌<◌, refl, sym, ap, subst, arith, length-append, ltb-false, add-one, drop-cons}
use Rattle.std.proofs.lemmas.Bool.{le-leb, le-ltb}
use Rattle.std.proofs.lemmas.List.{take_all, take_more}
use Rattle.timefd_lang_component.specs.declared.component.Component.{Component}
use Rattle.timefd_lang_component.specs.Modern.{modern}
use Rattle.timefd_lang_component.specs.Tree.{Text, Tree, component, literal, compound, optional, first, pack, trees}
use Rattle.timefd_lang_node_list.specs.Nodes.{Role, text, shown, together, perhaps, either, arity, Part, made, before, ending, grown}
use Rattle.timefd_lang_node_list.proofs.NodeLemmas.{before-one_more, before_zero, length-before}
use Rattle.timefd_c_nodes.specs.declared.node.RawNode.{RawNode}
use Rattle.timefd_c_nodes.specs.Decoding.{component_of, format_of, grown_with, read_on, read_nodes, with_component, with_members, with_optional}
use Rattle.timefd_c_nodes.specs.Formatting.Nodes.{count_after, fault_after, fault_from, node_fault, node_trees, trees_of}
use Rattle.timefd_c_nodes.specs.Formatting.Parts.{by_kind, part_role, perhaps_role, role, role_in, shown_role}
use Rattle.timefd_c_nodes.specs.declared.formatting.part.RawNodeKind.TheVariants as kind
use Rattle.timefd_c_nodes.specs.declared.formatting.part.WritingPart.{WritingPart as NodePart}
use Rattle.std.specs.Prelude.{IsSome}
use Rattle.std.specs.List.{list_all}
use Rattle.std.proofs.lemmas.List.Folds.{list_all_at}
use Rattle.timefd_c_nodes.specs.Formatting.Literals.{is_text, is_textual}

abbrev pub as_part : Role → Part
as_part r = record { role = r; nodes = 0; bytes = 0 }

pub same_role : (r s : Role) → Some r ≡ Some s → r ≡ s
same_role r s e = cc

-- the trees so far, and one more node that is part of a description
members_more : (count : ℕ) (make : List Tree → Tree) (ts : List Tree) → count ≤ length ts
    → with_members count make ts ≡ Some (before count ts ++ make (ending count ts) ∷ [])
members_more count make ts h =
    ap (λ b. if b then Some (before count ts ++ make (ending count ts) ∷ []) else None)
    (le-leb count (length ts) h)

leaf_more : (ts : List Tree) (t : Tree) → Some (ts ++ t ∷ []) ≡ Some (before 0 ts ++ t ∷ [])
leaf_more ts t = ap (λ us. Some (us ++ t ∷ [])) (sym (before_zero ts))

-- What a node makes of the trees so far, given its kind and its bytes.
more_by : (ts : List Tree) (a b c d e far : Bool) (bytes : Text) (co : Option Component) (k : ℕ)
    (fl : Option Bool) (r : Role) → arity r ≤ length ts
    → by_kind (if a then Some kind.Literal else if b then Some kind.Component
    else if c then Some kind.Compound else if d then Some kind.Optional
    else if e then Some kind.First else None)
    (if far then None else Some (text bytes)) (shown_role co) k (perhaps_role fl) ≡ Some r
    → (if a then Some (ts ++ literal bytes ∷ []) else if b then with_component co ts
    else if c then with_members k (λ us. compound (trees us)) ts else if d then with_optional fl ts
    else if e then with_members k (λ us. first (trees us)) ts else None) ≡ Some (grown ts (as_part r))
more_by ts true b c d e true bytes co k fl r fits is = absurd cc
more_by ts true b c d e false bytes co k fl r fits is =
    subst (λ x. Some (ts ++ literal bytes ∷ []) ≡ Some (grown ts (as_part x))) (same_role (text bytes) r is)
    (leaf_more ts (literal bytes))
more_by ts false true c d e far bytes None k fl r fits is = absurd cc
more_by ts false true c d e far bytes (Some co) k fl r fits is =
    subst (λ x. Some (ts ++ component (modern co) ∷ []) ≡ Some (grown ts (as_part x))) (same_role (shown co) r is)
    (leaf_more ts (component (modern co)))
more_by ts false false true d e far bytes co k fl r fits is =
    let same : together k ≡ r = same_role (together k) r is in
    subst (λ x. with_members k (λ us. compound (trees us)) ts ≡ Some (grown ts (as_part x))) same
    (members_more k (λ us. compound (trees us)) ts (subst (λ x. arity x ≤ length ts) (sym same) fits))
more_by ts false false false true e far bytes co k None r fits is = absurd cc
more_by ts false false false true e far bytes co k (Some format) r fits is =
    let same : perhaps format ≡ r = same_role (perhaps format) r is in
    subst (λ x. with_members 1 (λ us. optional format (pack us)) ts ≡ Some (grown ts (as_part x))) same
    (members_more 1 (λ us. optional format (pack us)) ts (subst (λ x. arity x ≤ length ts) (sym same) fits))
more_by ts false false false false true far bytes co k fl r fits is =
    let same : either k ≡ r = same_role (either k) r is in
    subst (λ x. with_members k (λ us. first (trees us)) ts ≡ Some (grown ts (as_part x))) same
    (members_more k (λ us. first (trees us)) ts (subst (λ x. arity x ≤ length ts) (sym same) fits))
more_by ts false false false false false far bytes co k fl r fits is = absurd cc

pub whole_role : (l : Text) (n : RawNode) (ts : List Tree) (r : Role) → role_in l n ≡ Some r → arity r ≤ length ts
    → grown_with l n (Some ts) ≡ Some (grown ts (as_part r))
whole_role l n ts r is fits =
    more_by ts (n.what == 1) (n.what == 2) (n.what == 3) (n.what == 4) (n.what == 5)
    (nat_lt (length l) (n.start + n.count))
    (take n.count (drop n.start l)) (component_of n) n.count (format_of n) r fits is

pub record Opened (count : ℕ) (o : Option Role) (rest : ℕ → Option ℕ) : Type 0 where
  pub role : Role
  pub is : o ≡ Some role
  pub fits : arity role ≤ count
  pub on : rest (count - arity role + 1) ≡ None

pub opened_step : (at count : ℕ) (o : Option Role) (rest : ℕ → Option ℕ)
    → fault_after at (count_after count o) rest ≡ None → Opened count o rest
opened_step at count None rest e = absurd cc
opened_step at count (Some r) rest e = by (nat_lt count (arity r)) refl e
  where
    by : (b : Bool) → nat_lt count (arity r) ≡ b
        → fault_after at (if b then None else Some (count - arity r + 1)) rest ≡ None
        → Opened count (Some r) rest
    by true is e = absurd cc
    by false is e = record { role = r; is = refl; fits = ltb-false count (arity r) is; on = e }

pub after_step : (at count : ℕ) (r : Role) (rest : ℕ → Option ℕ) → arity r ≤ count
    → fault_after at (count_after count (Some r)) rest ≡ rest (count - arity r + 1)
after_step at count r rest h =
    ap (λ b. fault_after at (if b then None else Some (count - arity r + 1)) rest) (le-ltb count (arity r) h)

pub grown_length : (ts : List Tree) (r : Role) → arity r ≤ length ts
    → length (grown ts (as_part r)) ≡ length ts - arity r + 1
grown_length ts r h =
    omega (
      arith,
      length-append (before (arity r) ts) (made r (ending (arity r) ts) ∷ []),
      length-before (arity r) ts,
    )

-- One node after others, all of which are parts of a description.
pub record Cut (l : Text) (at : ℕ) (ns : List RawNode) (n : RawNode) (ts : List Tree) : Type 0 where
  pub front : fault_from l at ns (length ts) ≡ None
  pub fs : List Tree
  pub read : read_on l ns (Some ts) ≡ Some fs
  pub role : Role
  pub is : role_in l n ≡ Some role
  pub fits : arity role ≤ length fs

pub cut_last : (l : Text) (at : ℕ) (ns : List RawNode) (n : RawNode) (ts : List Tree)
    → fault_from l at (ns ++ n ∷ []) (length ts) ≡ None → Cut l at ns n ts
cut_last l at [] n ts e =
    let o = opened_step at (length ts) (role_in l n) (fault_from l (at + 1) []) e in
    record { front = refl; fs = ts; read = refl; role = o.role; is = o.is; fits = o.fits }
cut_last l at (x ∷ ns) n ts e =
    let o = opened_step at (length ts) (role_in l x) (fault_from l (at + 1) (ns ++ n ∷ [])) e in
    let us : List Tree = grown ts (as_part o.role) in
    let len : length us ≡ length ts - arity o.role + 1 = grown_length ts o.role o.fits in
    let c = cut_last l (at + 1) ns n us (ap (fault_from l (at + 1) (ns ++ n ∷ [])) len ∙ o.on) in
    record {
      front = ap (λ r. fault_after at (count_after (length ts) r) (fault_from l (at + 1) ns)) o.is
          ∙ after_step at (length ts) o.role (fault_from l (at + 1) ns) o.fits
          ∙ ap (fault_from l (at + 1) ns) (sym len) ∙ c.front;
      fs = c.fs;
      read = ap (read_on l ns) (whole_role l x ts o.role o.is o.fits) ∙ c.read;
      role = c.role;
      is = c.is;
      fits = c.fits;
    }

few_from : (l : Text) (at : ℕ) (ns : List RawNode) (ts : List Tree) → fault_from l at ns (length ts) ≡ None
    → length (trees_of (read_on l ns (Some ts))) ≤ length ts + length ns
few_from l at [] ts e = omega arith
few_from l at (x ∷ ns) ts e =
    let o = opened_step at (length ts) (role_in l x) (fault_from l (at + 1) ns) e in
    let us : List Tree = grown ts (as_part o.role) in
    let len : length us ≡ length ts - arity o.role + 1 = grown_length ts o.role o.fits in
    let rest : length (trees_of (read_on l ns (Some us))) ≤ length us + length ns =
    few_from l (at + 1) ns us (ap (fault_from l (at + 1) ns) len ∙ o.on) in
    subst (λ us. length (trees_of (read_on l ns us)) ≤ length ts + length (x ∷ ns))
    (sym (whole_role l x ts o.role o.is o.fits)) (omega (arith, rest, len))

-- there are at most as many trees as nodes
pub few : (l : Text) (ns : List RawNode) → node_fault l ns ≡ None → length (node_trees l ns) ≤ length ns
few l ns e = omega (arith, few_from l 0 ns [] e)

split_at : (ns : List RawNode) (n : RawNode) → 1 ≤ length ns → n ≡ get_or ns (length ns - 1) n
    → ns ≡ take (length ns - 1) ns ++ n ∷ []
split_at ns n h is =
    let i : ℕ = length ns - 1 in
    sym (take_all (i + 1) ns (omega (arith, h))) ∙ take_more ns i n (omega (arith, h))
    ∙ ap (λ x. take i ns ++ x ∷ []) (sym is)

pub last_cut : (l : Text) (ns : List RawNode) (n : RawNode) → 1 ≤ length ns
    → n ≡ get_or ns (length ns - 1) n → node_fault l ns ≡ None → Cut l 0 (take (length ns - 1) ns) n []
last_cut l ns n h is e =
    cut_last l 0 (take (length ns - 1) ns) n []
    (ap (λ xs. fault_from l 0 xs 0) (sym (split_at ns n h is)) ∙ e)

read_after : (l : Text) (ns ms : List RawNode) (ts : Option (List Tree))
    → read_on l (ns ++ ms) ts ≡ read_on l ms (read_on l ns ts)
read_after l [] ms ts = refl
read_after l (n ∷ ns) ms ts = read_after l ns ms (grown_with l n ts)

pub last_trees : (l : Text) (ns : List RawNode) (n : RawNode) → 1 ≤ length ns
    → n ≡ get_or ns (length ns - 1) n → (c : Cut l 0 (take (length ns - 1) ns) n [])
    → node_trees l ns ≡ grown (node_trees l (take (length ns - 1) ns)) (as_part c.role)
last_trees l ns n h is c =
    let front : List RawNode = take (length ns - 1) ns in
    ap (λ xs. trees_of (read_nodes l xs)) (split_at ns n h is)
    ∙ ap trees_of (read_after l front (n ∷ []) (Some []))
    ∙ ap (λ o. trees_of (grown_with l n o)) c.read
    ∙ ap trees_of (whole_role l n c.fs c.role c.is c.fits)
    ∙ ap (λ o. grown (trees_of o) (as_part c.role)) (sym c.read)

pub last_fits : (l : Text) (ns : List RawNode) (n : RawNode) (c : Cut l 0 ns n [])
    → arity c.role ≤ length (node_trees l ns)
last_fits l ns n c = subst (λ o. arity c.role ≤ length (trees_of o)) (sym c.read) c.fits

take_take : (q k : ℕ) (xs : List Tree) → q ≤ k → take q (take k xs) ≡ take q xs
take_take zero k xs h = refl
take_take (suc q) zero xs h = absurd (omega (arith, h))
take_take (suc q) (suc k) [] h = refl
take_take (suc q) (suc k) (x ∷ xs) h = ap (λ ys. x ∷ ys) (take_take q k xs (omega (arith, h)))

-- in front of the last `left` trees, of which the very last is this part's, is what is in front of the
-- others and of the part's members
pub skipped_one : (fs : List Tree) (r : Role) (left : ℕ) → 1 ≤ left → arity r ≤ length fs
    → left ≤ length (grown fs (as_part r))
    → before left (grown fs (as_part r)) ≡ before (left - 1 + arity r) fs
skipped_one fs r left one fits there =
    let a : ℕ = arity r in
    let k : ℕ = left - 1 in
    let t : Tree = made r (ending a fs) in
    let long : length (before a fs) ≡ length fs - a = length-before a fs in
    let size : length (grown fs (as_part r)) ≡ length fs - a + 1 = grown_length fs r fits in
    let next : left ≡ suc k = omega (arith, one) in
    let rest : length fs - a - k ≡ length fs - (k + a) = omega arith in
    ap (λ j. before j (before a fs ++ t ∷ [])) next
    ∙ before-one_more (before a fs) t k (omega (arith, there, size, long, one))
    ∙ ap (λ j. take (j - k) (before a fs)) long
    ∙ take_take (length fs - a - k) (length fs - a) fs (omega arith)
    ∙ ap (λ j. take j fs) rest

-- and there are enough of them
pub skipped_fits : (fs : List Tree) (r : Role) (left : ℕ) → 1 ≤ left → arity r ≤ length fs
    → left ≤ length (grown fs (as_part r)) → left - 1 + arity r ≤ length fs
skipped_fits fs r left one fits there = omega (arith, one, fits, there, grown_length fs r fits)

-- One node further.

fault_cut : (l : Text) (ns : List RawNode) (at count : ℕ) (d : RawNode) → at < length ns
    → fault_from l at (drop at ns) count
    ≡ fault_after at (count_after count (role_in l (get_or ns at d))) (fault_from l (at + 1) (drop (at + 1) ns))
fault_cut l ns at count d below =
    let first : drop at ns ≡ get_or ns at d ∷ drop (at + 1) ns = rw add-one (drop-cons ns at d below) in
    ap (λ xs. fault_from l at xs count) first

pub fault_step : (l : Text) (ns : List RawNode) (at count b : ℕ) (d : RawNode) (whole : Option ℕ) → at < length ns
    → count_after count (role_in l (get_or ns at d)) ≡ Some b
    → fault_from l at (drop at ns) count ≡ whole
    → fault_from l (at + 1) (drop (at + 1) ns) b ≡ whole
fault_step l ns at count b d whole below e so_far =
    sym (ap (λ o. fault_after at o (fault_from l (at + 1) (drop (at + 1) ns))) e)
    ∙ sym (fault_cut l ns at count d below) ∙ so_far

some_same : (x y : ℕ) → Some x ≡ Some y → x ≡ y
some_same x y e = cc

pub one_more_at_most : (count b : ℕ) (o : Option Role) → count_after count o ≡ Some b → b ≤ count + 1
one_more_at_most count b None e = absurd cc
one_more_at_most count b (Some r) e = by (nat_lt count (arity r)) e
  where
    by : (t : Bool) → (if t then None else Some (count - arity r + 1)) ≡ Some b → b ≤ count + 1
    by true e = absurd cc
    by false e = omega (arith, some_same (count - arity r + 1) b e)

-- The last node, as it is read from the list.

last_read : (ns : List RawNode) (d : RawNode) → 1 ≤ length ns
    → get_or ns (length ns - 1) d ≡ get_or ns (length ns - 1) (get_or ns (length ns - 1) d)
last_read ns d h = by ns (length ns - 1) (omega (arith, h))
  where
    by : (xs : List RawNode) (i : ℕ) → i < length xs → get_or xs i d ≡ get_or xs i (get_or ns (length ns - 1) d)
    by [] i h = absurd (omega (arith, h))
    by (x ∷ xs) zero h = refl
    by (x ∷ xs) (suc i) h = by xs i (omega (arith, h))

module _ (l : Text) (ns : List RawNode) (d : RawNode) (there : 1 ≤ length ns) (sound : node_fault l ns ≡ None) where
  the_cut : Cut l 0 (take (length ns - 1) ns) (get_or ns (length ns - 1) d) []
  the_cut = last_cut l ns (get_or ns (length ns - 1) d) there (last_read ns d there) sound

  pub last_sound : node_fault l (take (length ns - 1) ns) ≡ None
  last_sound = the_cut.front

  pub last_is_there : (o : Option NodePart) → part_role o ≡ role_in l (get_or ns (length ns - 1) d) → IsSome o
  last_is_there None e = absurd (none_some the_cut.role (e ∙ the_cut.is))
    where
      none_some : (r : Role) → ◌≡◌ {A = Option Role} None (Some r) → ⊥
      none_some r e = absurd cc
  last_is_there (Some p) e = refl

  pub last_members : (p : NodePart) → Some (role p) ≡ role_in l (get_or ns (length ns - 1) d)
      → arity (role p) ≤ length (node_trees l (take (length ns - 1) ns))
  last_members p e =
      subst (λ r. arity r ≤ length (node_trees l (take (length ns - 1) ns)))
      (sym (same_role (role p) the_cut.role (e ∙ the_cut.is))) (last_fits l (take (length ns - 1) ns) (get_or ns (length ns - 1) d) the_cut)

  pub last_grown : (p : NodePart) → Some (role p) ≡ role_in l (get_or ns (length ns - 1) d)
      → node_trees l ns ≡ grown (node_trees l (take (length ns - 1) ns)) (as_part (role p))
  last_grown p e =
      last_trees l ns (get_or ns (length ns - 1) d) there (last_read ns d there) the_cut
      ∙ ap (λ r. grown (node_trees l (take (length ns - 1) ns)) (as_part r))
      (sym (same_role (role p) the_cut.role (e ∙ the_cut.is)))

-- The nodes in front of an index, and the node with that index.

prefix_from : (l : Text) (at count k : ℕ) (ns : List RawNode) → fault_from l at ns count ≡ None
    → fault_from l at (take k ns) count ≡ None
prefix_from l at count zero ns e = refl
prefix_from l at count (suc k) [] e = refl
prefix_from l at count (suc k) (x ∷ ns) e =
    let o = opened_step at count (role_in l x) (fault_from l (at + 1) ns) e in
    ap (λ r. fault_after at (count_after count r) (fault_from l (at + 1) (take k ns))) o.is
    ∙ after_step at count o.role (fault_from l (at + 1) (take k ns)) o.fits
    ∙ prefix_from l (at + 1) (count - arity o.role + 1) k ns o.on

all_false : (b : Bool) → b ≡ true → b ≡ false → ⊥
all_false b t f = absurd cc

module _ (l : Text) (ns : List RawNode) (at : ℕ) (d : RawNode) (there : at < length ns) (sound : node_fault l ns ≡ None) where
  at_split : take (at + 1) ns ≡ take at ns ++ get_or ns at d ∷ []
  at_split = take_more ns at d there

  at_cut : Cut l 0 (take at ns) (get_or ns at d) []
  at_cut =
      cut_last l 0 (take at ns) (get_or ns at d) []
      (ap (λ xs. fault_from l 0 xs 0) (sym at_split) ∙ prefix_from l 0 0 (at + 1) ns sound)

  pub at_is_there : (o : Option NodePart) → part_role o ≡ role_in l (get_or ns at d) → IsSome o
  at_is_there None e = absurd (none_some at_cut.role (e ∙ at_cut.is))
    where
      none_some : (r : Role) → ◌≡◌ {A = Option Role} None (Some r) → ⊥
      none_some r e = absurd cc
  at_is_there (Some p) e = refl

  pub at_members : (p : NodePart) → Some (role p) ≡ role_in l (get_or ns at d)
      → arity (role p) ≤ length (node_trees l (take at ns))
  at_members p e =
      subst (λ r. arity r ≤ length (node_trees l (take at ns)))
      (sym (same_role (role p) at_cut.role (e ∙ at_cut.is))) (last_fits l (take at ns) (get_or ns at d) at_cut)

  pub at_grown : (p : NodePart) → Some (role p) ≡ role_in l (get_or ns at d)
      → node_trees l (take (at + 1) ns) ≡ grown (node_trees l (take at ns)) (as_part (role p))
  at_grown p e =
      let n : RawNode = get_or ns at d in
      ap (λ xs. trees_of (read_nodes l xs)) at_split
      ∙ ap trees_of (read_after l (take at ns) (n ∷ []) (Some []))
      ∙ ap (λ o. trees_of (grown_with l n o)) at_cut.read
      ∙ ap trees_of (whole_role l n at_cut.fs at_cut.role at_cut.is at_cut.fits)
      ∙ ap (λ o. grown (trees_of o) (as_part at_cut.role)) (sym at_cut.read)
      ∙ ap (λ r. grown (node_trees l (take at ns)) (as_part r)) (sym (same_role (role p) at_cut.role (e ∙ at_cut.is)))

  pub at_textual : (p : NodePart) → Some (role p) ≡ role_in l (get_or ns at d)
      → list_all (λ n. is_text (role_in l n)) ns ≡ true → is_textual (role p) ≡ true
  at_textual p e all = by (is_textual (role p)) refl
    where
      by : (b : Bool) → is_textual (role p) ≡ b → is_textual (role p) ≡ true
      by true is = is
      by false is =
          absurd (all_false (list_all (λ n. is_text (role_in l n)) ns) all
          (list_all_at (λ n. is_text (role_in l n)) ns at d there (ap is_text (sym e) ∙ is)))
